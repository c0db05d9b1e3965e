-- The waits of edges after one of them ended.
use Rattle.std.proofs.Common.{◌≡◌, ◌≢◌, ℕ, zero, suc, ◌+◌, ◌-◌, ◌<◌, ◌≤◌, List, [], ◌∷◌, length, refl, sym, ◌∙◌, ap, subst, arith, get_or, set, take, ◌⊎◌, inl, inr, length-set, get_or-set_same, get_or-set_other, Bool, true, false, cond, Some, None}
use Rattle.std.specs.Prelude.{◌==◌, not, Contains, Option, slice_index}
use Rattle.std.proofs.lemmas.Bool.{cases_eq, eq-eqb}
use Rattle.std.proofs.lemmas.Bool.Decides.{eqb_tells}
use Rattle.std.proofs.lemmas.List.Sums.{count_by_more_no, count_by_more_yes, sum_by-cons}
use Rattle.plan_schedule.specs.BucketContents.{bucket_len}
use Rattle.plan_schedule.specs.declared.phase.Phase.{Phase}
use Rattle.plan_schedule.specs.declared.phase.Phase.TheVariants.{Unbegun, Succeeded}
use Rattle.plan_schedule.specs.Phases.{is_unsuccessful, has_succeeded, phase_at}
use Rattle.plan_schedule.specs.Counts.{one}
use Rattle.plan_schedule.specs.Scheduling.{IsFailedWait, count_unsucceeded}

pub phase_other : (phases : List Phase) (e w : ℕ) (next : Phase) → w ≢ e → phase_at (set phases e next) w ≡ phase_at phases w
phase_other phases e w next n = get_or-set_other phases e w next Unbegun n

pub phase_same : (phases : List Phase) (e w : ℕ) (next : Phase) → e < length phases → w ≡ e → phase_at (set phases e next) w ≡ next
phase_same phases e w next h q = ap (phase_at (set phases e next)) q ∙ get_or-set_same phases e next Unbegun h

unsucceeded_cons : (phases : List Phase) (w : ℕ) (ws : List ℕ) → count_unsucceeded phases (w ∷ ws) ≡ one (not (has_succeeded (phase_at phases w))) + count_unsucceeded phases ws
unsucceeded_cons phases w ws = sum_by-cons (λ v. cond (not (has_succeeded (phase_at phases v))) 1 0) w ws

bucket_len_cons : (e w : ℕ) (ws : List ℕ) → bucket_len e (w ∷ ws) ≡ one (w == e) + bucket_len e ws
bucket_len_cons e w ws = sum_by-cons (λ v. cond (v == e) 1 0) w ws

-- an edge succeeds
pub unsucceeded_after : (phases : List Phase) (e : ℕ) (next : Phase) (ws : List ℕ) → e < length phases → has_succeeded (phase_at phases e) ≡ false → has_succeeded next ≡ true
    → count_unsucceeded (set phases e next) ws + bucket_len e ws ≡ count_unsucceeded phases ws
unsucceeded_after phases e next [] h f t = refl
unsucceeded_after phases e next (w ∷ ws) h f t =
    let rest : count_unsucceeded (set phases e next) ws + bucket_len e ws ≡ count_unsucceeded phases ws = unsucceeded_after phases e next ws h f t in
    let a : count_unsucceeded (set phases e next) (w ∷ ws) ≡ one (not (has_succeeded (phase_at (set phases e next) w))) + count_unsucceeded (set phases e next) ws = unsucceeded_cons (set phases e next) w ws in
    let b : count_unsucceeded phases (w ∷ ws) ≡ one (not (has_succeeded (phase_at phases w))) + count_unsucceeded phases ws = unsucceeded_cons phases w ws in
    let c : bucket_len e (w ∷ ws) ≡ one (w == e) + bucket_len e ws = bucket_len_cons e w ws in
    elim (eqb_tells w e) [
      | inl same ↦
          let x : one (not (has_succeeded (phase_at (set phases e next) w))) ≡ one (not true) = ap (λ v. one (not v)) (ap has_succeeded (phase_same phases e w next h same.1) ∙ t) in
          let y : one (not (has_succeeded (phase_at phases w))) ≡ one (not false) = ap (λ v. one (not v)) (ap (λ v. has_succeeded (phase_at phases v)) same.1 ∙ f) in
          let z : one (w == e) ≡ one true = ap one same.0 in
          omega (arith, rest, a, b, c, x, y, z)
      | inr other ↦
          let x : one (not (has_succeeded (phase_at (set phases e next) w))) ≡ one (not (has_succeeded (phase_at phases w))) = ap (λ v. one (not (has_succeeded v))) (phase_other phases e w next other.1) in
          let z : one (w == e) ≡ one false = ap one other.0 in
          omega (arith, rest, a, b, c, x, z)
    ]

-- an edge goes on, or fails, is skipped or is stopped
pub unsucceeded_same : (phases : List Phase) (e : ℕ) (next : Phase) (ws : List ℕ) → e < length phases → has_succeeded (phase_at phases e) ≡ has_succeeded next
    → count_unsucceeded (set phases e next) ws ≡ count_unsucceeded phases ws
unsucceeded_same phases e next [] h f = refl
unsucceeded_same phases e next (w ∷ ws) h f =
    let rest : count_unsucceeded (set phases e next) ws ≡ count_unsucceeded phases ws = unsucceeded_same phases e next ws h f in
    let a : count_unsucceeded (set phases e next) (w ∷ ws) ≡ one (not (has_succeeded (phase_at (set phases e next) w))) + count_unsucceeded (set phases e next) ws = unsucceeded_cons (set phases e next) w ws in
    let b : count_unsucceeded phases (w ∷ ws) ≡ one (not (has_succeeded (phase_at phases w))) + count_unsucceeded phases ws = unsucceeded_cons phases w ws in
    let well : has_succeeded (phase_at (set phases e next) w) ≡ has_succeeded (phase_at phases w) = elim (cases_eq w e) [
      | inl same ↦ ap has_succeeded (phase_same phases e w next h same) ∙ (sym f ∙ ap (λ v. has_succeeded (phase_at phases v)) (sym same))
      | inr other ↦ ap has_succeeded (phase_other phases e w next other)
    ] in
    let x : one (not (has_succeeded (phase_at (set phases e next) w))) ≡ one (not (has_succeeded (phase_at phases w))) = ap (λ v. one (not v)) well in
    omega (arith, rest, a, b, x)

pub bucket_len_unwell : (phases : List Phase) (e : ℕ) (ws : List ℕ) → e < length phases → has_succeeded (phase_at phases e) ≡ false → bucket_len e ws ≤ count_unsucceeded phases ws
bucket_len_unwell phases e ws h f = let same : count_unsucceeded (set phases e Succeeded) ws + bucket_len e ws ≡ count_unsucceeded phases ws = unsucceeded_after phases e Succeeded ws h f refl in omega (arith, same)

-- an item that is in a list is counted there
pub bucket_len_in : (ws : List ℕ) (e : ℕ) → Contains ws e → 0 < bucket_len e ws
bucket_len_in [] e (k, h, q) = absurd (omega (arith, h))
bucket_len_in (w ∷ ws) e (zero, h, q) =
    let c : bucket_len e (w ∷ ws) ≡ one (w == e) + bucket_len e ws = bucket_len_cons e w ws in
    let z : one (w == e) ≡ one true = ap one (eq-eqb w e q) in
    omega (arith, c, z)
bucket_len_in (w ∷ ws) e (suc k, h, q) =
    let c : bucket_len e (w ∷ ws) ≡ one (w == e) + bucket_len e ws = bucket_len_cons e w ws in
    let rest : 0 < bucket_len e ws = bucket_len_in ws e (k, omega (arith, h), q) in
    omega (arith, c, rest)

pub in_bucket_len : (ws : List ℕ) (e : ℕ) → 0 < bucket_len e ws → Contains ws e
in_bucket_len [] e h = absurd (omega (arith, h))
in_bucket_len (w ∷ ws) e h =
    elim (eqb_tells w e) [
      | inl same ↦ (0, omega arith, same.1)
      | inr other ↦
          let c : bucket_len e (w ∷ ws) ≡ one (w == e) + bucket_len e ws = bucket_len_cons e w ws in
          let z : one (w == e) ≡ one false = ap one other.0 in
          let rest = in_bucket_len ws e (omega (arith, h, c, z)) in
          (suc rest.0, omega (arith, rest.1), rest.2)
    ]

pub bucket_len_take : (e : ℕ) (ws : List ℕ) (n : ℕ) → bucket_len e (take n ws) ≤ bucket_len e ws
bucket_len_take e [] zero = omega arith
bucket_len_take e [] (suc n) = omega arith
bucket_len_take e (w ∷ ws) zero = let z : bucket_len e [] ≡ 0 = refl in omega (arith, z)
bucket_len_take e (w ∷ ws) (suc n) =
    let rest : bucket_len e (take n ws) ≤ bucket_len e ws = bucket_len_take e ws n in
    omega (arith, rest, bucket_len_cons e w ws, bucket_len_cons e w (take n ws))

pub bucket_len_next : (x : ℕ) (ws : List ℕ) (i : ℕ) → i < length ws → slice_index ws i ≡ x → bucket_len x (take (i + 1) ws) ≡ bucket_len x (take i ws) + 1
bucket_len_next x ws i h q = count_by_more_yes (λ v. v == x) ws i 0 h (eq-eqb (slice_index ws i) x q)

pub bucket_len_past : (x : ℕ) (ws : List ℕ) (i : ℕ) → i < length ws → slice_index ws i ≢ x → bucket_len x (take (i + 1) ws) ≡ bucket_len x (take i ws)
bucket_len_past x ws i h n = count_by_more_no (λ v. v == x) ws i 0 h (elim (eqb_tells (slice_index ws i) x) [ inl q ↦ absurd (n q.1) | inr q ↦ q.0 ])

-- the failed wait of an edge, after another edge changed its phase
ill_same : (phases : List Phase) (e w : ℕ) (next : Phase) → e < length phases → is_unsuccessful (phase_at phases e) ≡ is_unsuccessful next → is_unsuccessful (phase_at (set phases e next) w) ≡ is_unsuccessful (phase_at phases w)
ill_same phases e w next h f = elim (cases_eq w e) [
  | inl same ↦ ap is_unsuccessful (phase_same phases e w next h same) ∙ (sym f ∙ ap (λ v. is_unsuccessful (phase_at phases v)) (sym same))
  | inr other ↦ ap is_unsuccessful (phase_other phases e w next other)
]

pub failed_wait_kept : (phases : List Phase) (e : ℕ) (next : Phase) (ws : List ℕ) (b : Option ℕ) → e < length phases → is_unsuccessful (phase_at phases e) ≡ is_unsuccessful next → IsFailedWait phases ws b → IsFailedWait (set phases e next) ws b
failed_wait_kept phases e next ws None h f is = λ w c. ill_same phases e w next h f ∙ is w c
failed_wait_kept phases e next ws (Some w) h f is = (is.0, ill_same phases e w next h f ∙ is.1)

pub failed_wait_apart : (phases : List Phase) (e : ℕ) (next : Phase) (ws : List ℕ) (b : Option ℕ) → (Contains ws e → ⊥) → IsFailedWait phases ws b → IsFailedWait (set phases e next) ws b
failed_wait_apart phases e next ws None n is = λ w c. ap is_unsuccessful (phase_other phases e w next (λ q. n (subst (Contains ws) q c))) ∙ is w c
failed_wait_apart phases e next ws (Some w) n is = (is.0, ap is_unsuccessful (phase_other phases e w next (λ q. n (subst (Contains ws) q is.0))) ∙ is.1)

pub failed_wait_here : (phases : List Phase) (e : ℕ) (next : Phase) (ws : List ℕ) → e < length phases → is_unsuccessful next ≡ true → Contains ws e → IsFailedWait (set phases e next) ws (Some e)
failed_wait_here phases e next ws h t c = (c, ap is_unsuccessful (phase_same phases e e next h refl) ∙ t)
