-- The texts of sorted references are sorted. Serves src/rule_listing.rt.
use Rattle.std.proofs.Common.{◌≡◌, ℕ, zero, suc, ◌+◌, ◌<◌, Bor, List, [], ◌∷◌, length, map, get_or, arith, refl, ap, ◌∙◌}
use Rattle.std.specs.List.Sorted.{IsSorted}
use Rattle.std.specs.Cmp.Lexicographic.{slice_cmp}
use Rattle.std.specs.Ordering.{is_lt, nat_cmp}
use Rattle.std.proofs.lemmas.List.{length-map}
use Rattle.plan_tools.proofs.WritingLemmas.{bytes_of}

-- the text at a place
pub at_map : (ps : List (Bor (List ℕ))) (k : ℕ) (d : List ℕ) (e : Bor (List ℕ)) → k < length ps → get_or (map bytes_of ps) k d ≡ bytes_of (get_or ps k e)
at_map [] k d e below = absurd (omega (arith, below))
at_map (p ∷ ps) zero d e below = refl
at_map (p ∷ ps) (suc k) d e below = at_map ps k d e (omega (arith, below))

pub texts_sorted : (ps : List (Bor (List ℕ))) → IsSorted (λ p q. slice_cmp nat_cmp p.now q.now) ps → IsSorted (slice_cmp nat_cmp) (map bytes_of ps)
texts_sorted ps is k d low below =
    let e : Bor (List ℕ) = record { ref_ptr = (0, 0); now = d } in
    let within : k + 1 < length ps = omega (arith, below, length-map ps bytes_of) in
    let here : k < length ps = omega (arith, within) in
    ap (λ (t : List ℕ). is_lt (slice_cmp nat_cmp t (get_or (map bytes_of ps) k d))) (at_map ps (k + 1) d e within)
    ∙ (ap (λ (t : List ℕ). is_lt (slice_cmp nat_cmp (bytes_of (get_or ps (k + 1) e)) t)) (at_map ps k d e here) ∙ is k e low within)
