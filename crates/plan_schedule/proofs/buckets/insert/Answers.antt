use Rattle.std.proofs.Common.{◌≡◌, ◌<◌, ◌+◌, ◌^◌, ℕ, List, [], arith, get_or, length, map, set, sym, ap, ◌∙◌}
use Rattle.std.specs.Prelude.{slice_index}
use Rattle.std.proofs.lemmas.List.{get_or_default}
use Rattle.plan_schedule.proofs.InsertLemmas.{end_small, inserts_at}
use Rattle.plan_schedule.proofs.PositionLemmas.{capacities_kept}
use Rattle.plan_schedule.proofs.buckets.insert.Goals as goal

pub overflow_add-end : goal.overflow_add-end
overflow_add-end c =
    let s = c.args.positions.now in
    let is = c.requires.in_position in
    let sl : c.args.bucket < length s.lens.items = omega (arith, c.requires.bucket, is.counted) in
    let end : c.index-end.result.now ≡ slice_index s.lens.items c.args.bucket = c.index-end.ensures ∙ get_or_default s.lens.items c.args.bucket c.index-end.result.now 0 sl in
    let small : slice_index s.lens.items c.args.bucket + 1 < 2 ^ 32 = end_small s.rows.items s.lens.items s.places.items s.bucket.items c.args.number c.args.bucket is c.requires.here c.requires.bucket c.requires.another in
    omega (arith, end, small)

pub returns-clause-in_position : goal.returns-clause-in_position
returns-clause-in_position c =
    let s = c.args.positions.now in
    let is = c.requires.in_position in
    let n = c.index-end.result.now in
    let sl : c.args.bucket < length s.lens.items = omega (arith, c.requires.bucket, is.counted) in
    let end : n ≡ slice_index s.lens.items c.args.bucket = c.index-end.ensures ∙ get_or_default s.lens.items c.args.bucket n 0 sl in
    let row_m : c.index_mut-row.result.now ≡ get_or s.rows.items c.args.bucket [] = c.index_mut-row.ensures.value ∙ get_or_default s.rows.items c.args.bucket c.index_mut-row.result.now [] c.requires.bucket in
    let new : c.set.new.self ≡ set (get_or s.rows.items c.args.bucket []) n c.args.number = c.set.ensures ∙ ap (λ (r : List ℕ). set r n c.args.number) row_m in
    inserts_at s.rows.items s.lens.items s.places.items s.bucket.items c.args.number c.args.bucket n c.set.new.self is c.requires.here c.requires.bucket c.requires.another c.requires.capacity (sym end) (sym new)

pub returns-clause-capacity : goal.returns-clause-capacity
returns-clause-capacity c =
    let s = c.args.positions.now in
    let n = c.index-end.result.now in
    let row_m : c.index_mut-row.result.now ≡ get_or s.rows.items c.args.bucket [] = c.index_mut-row.ensures.value ∙ get_or_default s.rows.items c.args.bucket c.index_mut-row.result.now [] c.requires.bucket in
    let new : c.set.new.self ≡ set (get_or s.rows.items c.args.bucket []) n c.args.number = c.set.ensures ∙ ap (λ (r : List ℕ). set r n c.args.number) row_m in
    ap (λ (r : List ℕ). map length (set s.rows.items c.args.bucket r)) new ∙ capacities_kept s.rows.items c.args.bucket n c.args.number
