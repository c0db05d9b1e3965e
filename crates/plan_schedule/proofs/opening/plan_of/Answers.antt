use Rattle.std.proofs.Common.{◌≡◌, ◌<◌, ◌≤◌, ◌+◌, ◌^◌, ◌∙◌, ◌⊎◌, inl, inr, [], ℕ, List, ap, arith, get_or, length, refl, subst, sym}
use Rattle.std.specs.Prelude.{All, slice_index}
use Rattle.std.proofs.lemmas.Bool.{cases_lt}
use Rattle.std.proofs.lemmas.List.{get_or_past}
use Rattle.std.proofs.lemmas.List.Elements.{All-nil}
use Rattle.plan_schedule.specs.BucketContents.{bucket_len}
use Rattle.plan_schedule.proofs.opening.plan_of.Goals as goal

dependents_inside : (n : ℕ) (dependents : List (List ℕ)) → length dependents ≡ n → ((w : ℕ) → w < n → All (λ u. u < n) (get_or dependents w [])) → (w : ℕ) → All (λ u. u < n) (get_or dependents w [])
dependents_inside n dependents sized kept w = elim (cases_lt w n) [
  | inl h ↦ kept w h
  | inr h ↦ subst (All (λ u. u < n)) (sym (get_or_past dependents w [] (omega (arith, sized, h)))) (All-nil (λ u. u < n))
]

pub returns-clause-plan : goal.returns-clause-plan
returns-clause-plan c =
    let waits = c.args.waits.items in
    let dependents = c.in_ok-dependents.dependents.items in
    let lent : c.deref.result.now ≡ waits = c.deref.ensures.value in
    let sized : length dependents ≡ length waits = c.in_ok-dependents.ensures.len ∙ ap (λ (l : List (List ℕ)). length l) lent in
    let kept : (w : ℕ) → w < length waits → All (λ u. u < length waits) (get_or dependents w [])
    = subst (λ (l : List (List ℕ)). (w : ℕ) → w < length l → All (λ u. u < length l) (get_or dependents w [])) lent c.in_ok-dependents.ensures.kept in
    let turned : (e w : ℕ) → e < length waits → w < length waits → bucket_len e (get_or dependents w []) ≡ bucket_len w (get_or waits e [])
    = subst (λ (l : List (List ℕ)). (e w : ℕ) → e < length l → w < length l → bucket_len e (get_or dependents w []) ≡ bucket_len w (get_or l e [])) lent c.in_ok-dependents.ensures.turned in
    record {
      few = c.requires.few;
      pools_sized = c.requires.pools;
      in_pools = c.requires.in_pools;
      few_pools = c.requires.few_pools;
      waits_in = c.requires.inside;
      dependents_in = dependents_inside (length waits) dependents sized kept;
      short = c.requires.short;
      dependents_sized = sized;
      turned = turned;
    }
