use Rattle.std.proofs.Common.{◌≡◌, ◌<◌, ◌-◌, ℕ, List, [], arith, get_or, length, set, map, sym, subst, ap, refl, ◌∙◌}
use Rattle.std.specs.Prelude.{slice_index}
use Rattle.std.proofs.lemmas.List.{get_or_default}
use Rattle.plan_schedule.specs.Positions.{number_at}
use Rattle.plan_schedule.proofs.RemoveLemmas.{removes_at}
use Rattle.plan_schedule.proofs.PositionLemmas.{capacities_kept}
use Rattle.plan_schedule.proofs.buckets.remove.Goals as goal

pub returns : goal.returns
returns c =
    let s = c.args.positions.now in
    let e = c.args.number in
    let is = c.requires.in_position in
    let here = c.requires.here in
    let f = c.index.result.now in
    let bucket_e : f ≡ slice_index s.bucket.items e = c.index.ensures ∙ get_or_default s.bucket.items e f 0 here in
    let row : f < length s.rows.items = subst (λ v. v < length s.rows.items) (sym bucket_e) (is.inside e here) in
    let a = c.index-place.result.now in
    let ep : e < length s.places.items = omega (arith, here, is.placed) in
    let place_e : a ≡ slice_index s.places.items e = c.index-place.ensures ∙ get_or_default s.places.items e a 0 ep in
    let k = c.index-2.result.now in
    let fl : f < length s.lens.items = omega (arith, row, is.counted) in
    let len_f : k ≡ slice_index s.lens.items f = c.index-2.ensures ∙ get_or_default s.lens.items f k 0 fl in
    let row_f : c.index-3.result.now ≡ get_or s.rows.items f [] = c.index-3.ensures ∙ get_or_default s.rows.items f c.index-3.result.now [] row in
    let row_m : c.index_mut-row.result.now ≡ get_or s.rows.items f [] = c.index_mut-row.ensures.value ∙ get_or_default s.rows.items f c.index_mut-row.result.now [] row in
    let y = c.at-last.result in
    let last : y ≡ number_at s.rows.items f (k - 1) = c.at-last.ensures ∙ ap (λ (r : List ℕ). slice_index r (k - 1)) row_f in
    let new : c.set.new.self ≡ set (get_or s.rows.items f []) a y = c.set.ensures ∙ ap (λ (r : List ℕ). set r a y) row_m in
    record {
      in_position = removes_at s.rows.items s.lens.items s.places.items s.bucket.items e f a k y c.set.new.self is here (sym bucket_e) (sym place_e) (sym len_f) (sym last) (sym new);
      bucket = refl;
      capacity = ap (λ (r : List ℕ). map length (set s.rows.items f r)) new ∙ capacities_kept s.rows.items f a y;
    }
