-- The change of counts with the phase of one edge.
use Rattle.std.proofs.Common.{◌≡◌, ◌≢◌, ℕ, zero, suc, ◌+◌, ◌-◌, ◌<◌, ◌≤◌, ◌^◌, List, [], ◌∷◌, length, refl, sym, ◌∙◌, ap, subst, arith, get_or, set, ◌⊎◌, inl, inr, length-set, get_or-set_same, get_or-set_other, Bool, true, false, cond}
use Rattle.std.specs.Prelude.{◌==◌, ◌&&◌, count_by, slice_index}
use Rattle.std.proofs.lemmas.Bool.{cases_eq, eq-eqb}
use Rattle.std.proofs.lemmas.Bool.Decides.{eqb_tells}
use Rattle.std.proofs.lemmas.List.Sums.{count_by-le-length, sum_by-set}
use Rattle.plan_schedule.specs.declared.phase.Phase.{Phase}
use Rattle.plan_schedule.specs.Phases.{has_failed, holds, is_open, phase_at}
use Rattle.plan_schedule.specs.declared.phase.Phase.TheVariants.{NotWanted, Unbegun}
use Rattle.plan_schedule.specs.Counts.{AreCounts, holders_of, one}

pub count_set : {X : Type 0} (p : X → Bool) (xs : List X) (i : ℕ) (y d : X) → i < length xs → count_by p (set xs i y) + one (p (get_or xs i d)) ≡ count_by p xs + one (p y)
count_set p xs i y d h = sum_by-set (λ x. cond (p x) 1 0) xs i y d h

-- an item that is counted makes the count positive
pub count_some : {X : Type 0} (p : X → Bool) (xs : List X) (i : ℕ) (y d : X) → i < length xs → p (get_or xs i d) ≡ true → p y ≡ false → 0 < count_by p xs
count_some p xs i y d h t f =
    let e : count_by p (set xs i y) + one (p (get_or xs i d)) ≡ count_by p xs + one (p y) = count_set p xs i y d h in
    let a : one (p (get_or xs i d)) ≡ one true = ap one t in
    let b : one (p y) ≡ one false = ap one f in
    omega (arith, e, a, b)

pub holders_of_set : (p : ℕ) (pools : List ℕ) (phases : List Phase) (i : ℕ) (y : Phase) → i < length phases → length pools ≡ length phases
    → holders_of p pools (set phases i y) + one ((slice_index pools i == p) && holds (phase_at phases i)) ≡ holders_of p pools phases + one ((slice_index pools i == p) && holds y)
holders_of_set p [] phases i y h l = absurd (omega (arith, h, l))
holders_of_set p (q ∷ pools) [] i y h l = absurd (omega (arith, h))
holders_of_set p (q ∷ pools) (x ∷ phases) zero y h l = omega arith
holders_of_set p (q ∷ pools) (x ∷ phases) (suc i) y h l =
    let rest : holders_of p pools (set phases i y) + one ((slice_index pools i == p) && holds (phase_at phases i)) ≡ holders_of p pools phases + one ((slice_index pools i == p) && holds y)
    = holders_of_set p pools phases i y (omega (arith, h)) (omega (arith, l)) in
    omega (arith, rest)

one_le : (b : Bool) → one b ≤ 1
one_le true = omega arith
one_le false = omega arith

pub holders_of_le : (p : ℕ) (pools : List ℕ) (phases : List Phase) → holders_of p pools phases ≤ length phases
holders_of_le p [] phases = omega arith
holders_of_le p (q ∷ pools) [] = omega arith
holders_of_le p (q ∷ pools) (x ∷ phases) = let rest : holders_of p pools phases ≤ length phases = holders_of_le p pools phases in omega (arith, rest, one_le ((q == p) && holds x))

and_same : (a : Bool) → (true && a) ≡ a
and_same a = refl

and_none : (a : Bool) → (false && a) ≡ false
and_none a = refl

-- an edge of this pool
pub holders_here : (p : ℕ) (pools : List ℕ) (phases : List Phase) (i : ℕ) (y : Phase) → i < length phases → length pools ≡ length phases → slice_index pools i ≡ p
    → holders_of p pools (set phases i y) + one (holds (phase_at phases i)) ≡ holders_of p pools phases + one (holds y)
holders_here p pools phases i y h l same =
    let e : holders_of p pools (set phases i y) + one ((slice_index pools i == p) && holds (phase_at phases i)) ≡ holders_of p pools phases + one ((slice_index pools i == p) && holds y) = holders_of_set p pools phases i y h l in
    let t : (slice_index pools i == p) ≡ true = eq-eqb (slice_index pools i) p same in
    let a : one ((slice_index pools i == p) && holds (phase_at phases i)) ≡ one (holds (phase_at phases i)) = ap (λ b. one (b && holds (phase_at phases i))) t in
    let b : one ((slice_index pools i == p) && holds y) ≡ one (holds y) = ap (λ b. one (b && holds y)) t in
    omega (arith, e, a, b)

-- an edge of another pool
pub holders_there : (p : ℕ) (pools : List ℕ) (phases : List Phase) (i : ℕ) (y : Phase) → i < length phases → length pools ≡ length phases → slice_index pools i ≢ p
    → holders_of p pools (set phases i y) ≡ holders_of p pools phases
holders_there p pools phases i y h l other =
    let e : holders_of p pools (set phases i y) + one ((slice_index pools i == p) && holds (phase_at phases i)) ≡ holders_of p pools phases + one ((slice_index pools i == p) && holds y) = holders_of_set p pools phases i y h l in
    let t : (slice_index pools i == p) ≡ false = elim (eqb_tells (slice_index pools i) p) [ inl q ↦ absurd (other q.1) | inr q ↦ q.0 ] in
    let a : one ((slice_index pools i == p) && holds (phase_at phases i)) ≡ one false = ap (λ b. one (b && holds (phase_at phases i))) t in
    let b : one ((slice_index pools i == p) && holds y) ≡ one false = ap (λ b. one (b && holds y)) t in
    omega (arith, e, a, b)

-- an edge that holds a job token of a pool is counted there
pub holders_some : (p : ℕ) (pools : List ℕ) (phases : List Phase) (i : ℕ) → i < length phases → length pools ≡ length phases → slice_index pools i ≡ p
    → holds (phase_at phases i) ≡ true → 0 < holders_of p pools phases
holders_some p pools phases i h l same held =
    let e : holders_of p pools (set phases i NotWanted) + one (holds (phase_at phases i)) ≡ holders_of p pools phases + 0 = holders_here p pools phases i NotWanted h l same in
    let a : one (holds (phase_at phases i)) ≡ one true = ap one held in
    omega (arith, e, a)

-- all counts, after an edge has changed its phase
pub counts_after : (pools : List ℕ) (phases : List Phase) (in_pools : List ℕ) (h f o : ℕ) (e : ℕ) (next : Phase) (in_pool h' f' o' : ℕ)
    → AreCounts pools phases in_pools h f o → e < length phases → length pools ≡ length phases → slice_index pools e < length in_pools
    → in_pool + one (holds (phase_at phases e)) ≡ slice_index in_pools (slice_index pools e) + one (holds next)
    → h' + one (holds (phase_at phases e)) ≡ h + one (holds next)
    → f' + one (has_failed (phase_at phases e)) ≡ f + one (has_failed next)
    → o' + one (is_open (phase_at phases e)) ≡ o + one (is_open next)
    → AreCounts pools (set phases e next) (set in_pools (slice_index pools e) in_pool) h' f' o'
counts_after pools phases in_pools h f o e next in_pool h' f' o' are here sized pool ei eh ef eo =
    let q = slice_index pools e in
    let ch : count_by holds (set phases e next) + one (holds (phase_at phases e)) ≡ count_by holds phases + one (holds next) = count_set holds phases e next Unbegun here in
    let cf : count_by has_failed (set phases e next) + one (has_failed (phase_at phases e)) ≡ count_by has_failed phases + one (has_failed next) = count_set has_failed phases e next Unbegun here in
    let co : count_by is_open (set phases e next) + one (is_open (phase_at phases e)) ≡ count_by is_open phases + one (is_open next) = count_set is_open phases e next Unbegun here in
    record {
      pool_holders_are = λ p within. elim (cases_eq p q) [
        | inl same ↦
            let new : slice_index (set in_pools q in_pool) p ≡ in_pool = ap (slice_index (set in_pools q in_pool)) same ∙ get_or-set_same in_pools q in_pool 0 pool in
            let count : holders_of q pools (set phases e next) + one (holds (phase_at phases e)) ≡ holders_of q pools phases + one (holds next) = holders_here q pools phases e next here sized refl in
            let old : slice_index in_pools q ≡ holders_of q pools phases = are.pool_holders_are q pool in
            let as_p : holders_of p pools (set phases e next) ≡ holders_of q pools (set phases e next) = ap (λ k. holders_of k pools (set phases e next)) same in
            omega (arith, new, count, old, as_p, ei)
        | inr other ↦
            let low : p < length in_pools = subst (λ k. p < k) (length-set in_pools q in_pool) within in
            get_or-set_other in_pools q p in_pool 0 other ∙ (are.pool_holders_are p low ∙ sym (holders_there p pools phases e next here sized (λ r. other (sym r))))
      ];
      holders_are = omega (arith, ch, eh, are.holders_are);
      failures_are = omega (arith, cf, ef, are.failures_are);
      open_are = omega (arith, co, eo, are.open_are);
    }
