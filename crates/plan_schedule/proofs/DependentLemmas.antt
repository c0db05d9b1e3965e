-- The rows of waits, transposed to rows of the edges that wait.
use Rattle.std.proofs.Common.{◌≡◌, ◌≢◌, ℕ, zero, suc, ◌+◌, ◌*◌, ◌<◌, ◌≤◌, List, [], ◌∷◌, ◌++◌, length, refl, sym, ◌∙◌, ap, subst, arith, get_or, set, take, ◌⊎◌, inl, inr, get_or-set_same, get_or-set_other, Bool, true, false, cond}
use Rattle.std.specs.Prelude.{◌==◌, replicate, slice_index}
use Rattle.std.proofs.lemmas.Bool.{cases_eq, eq-eqb}
use Rattle.std.proofs.lemmas.Bool.Decides.{eqb_tells}
use Rattle.std.proofs.lemmas.List.{append_assoc, replicate-append-replicate}
use Rattle.std.proofs.lemmas.List.Folds.{sum_by-replicate}
use Rattle.std.proofs.lemmas.List.Sums.{count_by_more_no, count_by_more_yes, sum_by-append}
use Rattle.plan_schedule.specs.BucketContents.{bucket_len}
use Rattle.plan_schedule.proofs.PositionLemmas.{one}

bucket_len_next : (x : ℕ) (ws : List ℕ) (i : ℕ) → i < length ws → slice_index ws i ≡ x → bucket_len x (take (i + 1) ws) ≡ bucket_len x (take i ws) + 1
bucket_len_next x ws i h q = count_by_more_yes (λ v. v == x) ws i 0 h (eq-eqb (slice_index ws i) x q)

bucket_len_past : (x : ℕ) (ws : List ℕ) (i : ℕ) → i < length ws → slice_index ws i ≢ x → bucket_len x (take (i + 1) ws) ≡ bucket_len x (take i ws)
bucket_len_past x ws i h n = count_by_more_no (λ v. v == x) ws i 0 h (elim (eqb_tells (slice_index ws i) x) [ inl q ↦ absurd (n q.1) | inr q ↦ q.0 ])

one_more : (k e : ℕ) → replicate k e ++ e ∷ [] ≡ replicate (k + 1) e
one_more k e = replicate-append-replicate k 1 e

pub added : (old rows : List (List ℕ)) (waits : List ℕ) (i edge : ℕ) (r : List ℕ) → i < length waits → length rows ≡ length old → slice_index waits i < length old → r ≡ get_or rows (slice_index waits i) [] ++ edge ∷ []
    → ((w : ℕ) → w < length old → get_or rows w [] ≡ get_or old w [] ++ replicate (bucket_len w (take i waits)) edge)
    → (w : ℕ) → w < length old → get_or (set rows (slice_index waits i) r) w [] ≡ get_or old w [] ++ replicate (bucket_len w (take (i + 1) waits)) edge
added old rows waits i edge r lt same within is before w h =
    let u = slice_index waits i in
    let k = bucket_len w (take i waits) in
    elim (cases_eq w u) [
      | inl at ↦
          let next : bucket_len w (take (i + 1) waits) ≡ k + 1 = bucket_len_next w waits i lt (sym at) in
          let read : get_or (set rows u r) w [] ≡ r = ap (λ v. get_or (set rows u r) v []) at ∙ get_or-set_same rows u r [] (omega (arith, within, same)) in
          let was : get_or rows u [] ≡ get_or old w [] ++ replicate k edge = ap (λ v. get_or rows v []) (sym at) ∙ before w h in
          read ∙ (is ∙ (ap (λ (l : List ℕ). l ++ edge ∷ []) was ∙ (append_assoc (get_or old w []) (replicate k edge) (edge ∷ [])
          ∙ (ap (λ (l : List ℕ). get_or old w [] ++ l) (one_more k edge) ∙ ap (λ v. get_or old w [] ++ replicate v edge) (sym next)))))
      | inr other ↦
          get_or-set_other rows u w r [] other ∙ (before w h ∙ ap (λ v. get_or old w [] ++ replicate v edge) (sym (bucket_len_past w waits i lt (λ q. other (sym q)))))
    ]

pub bucket_len_more : (e edge k : ℕ) (row : List ℕ) → bucket_len e (row ++ replicate k edge) ≡ bucket_len e row + k * one (edge == e)
bucket_len_more e edge k row =
    sum_by-append (λ t. cond (t == e) 1 0) row (replicate k edge) ∙ ap (λ v. bucket_len e row + v) (sum_by-replicate (λ t. cond (t == e) 1 0) k edge)

pub more_here : (e k : ℕ) (row : List ℕ) → bucket_len e (row ++ replicate k e) ≡ bucket_len e row + k
more_here e k row =
    let m : k * one (e == e) ≡ k * 1 = ap (λ v. k * one v) (eq-eqb e e refl) in
    omega (arith, bucket_len_more e e k row, m)

pub more_there : (e edge k : ℕ) (row : List ℕ) → edge ≢ e → bucket_len e (row ++ replicate k edge) ≡ bucket_len e row
more_there e edge k row n =
    let f : (edge == e) ≡ false = elim (eqb_tells edge e) [ inl q ↦ absurd (n q.1) | inr q ↦ q.0 ] in
    let m : k * one (edge == e) ≡ k * 0 = ap (λ v. k * one v) f in
    omega (arith, bucket_len_more e edge k row, m)
