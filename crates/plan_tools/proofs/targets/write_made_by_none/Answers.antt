use Rattle.std.proofs.Common.{◌++◌, ◌∷◌, [], ◌+◌, List, Option, ℕ, true, refl, get_or, drop}
use Rattle.std.specs.List.{flat_map}
use Rattle.plan_tools.specs.Listings.{source_line}
use Rattle.plan_tools.proofs.WritingLemmas.{one_more, stops}
use Rattle.plan_tools.proofs.targets.write_made_by_none.Goals as goal

pub returns-in-Err : goal.returns-in-Err
returns-in-Err g c =
    let so_far = c.loop-input.invariant in
    let items = c.args.inputs.now in
    let i = c.loop-input.input-index in
    let item : ℕ = get_or c.args.inputs.now i 0 in
    let old : ℕ × Option (List ℕ) = (g.W.Sink.failures c.args.out.now, g.W.Sink.taken c.args.out.now) in
    let mid : ℕ × Option (List ℕ) = (g.W.Sink.failures c.loop-input.out, g.W.Sink.taken c.loop-input.out) in
    let new : ℕ × Option (List ℕ) = (g.W.Sink.failures c.write_source.new.out, g.W.Sink.taken c.write_source.new.out) in
    stops c.writes_join.ensures.join c.writes_join.ensures.failed old mid new so_far.0 ((source_line c.args.graph.now) item) (flat_map (source_line c.args.graph.now) (drop (i + 1) items)) (flat_map (source_line c.args.graph.now) items)
    (one_more (source_line c.args.graph.now) (flat_map (source_line c.args.graph.now)) (λ y ys. refl) items i item 0 so_far.0 c.loop-input-test.true refl so_far.1) so_far.2 c.in-Err.ensures

pub loop-input-preserved : goal.loop-input-preserved
loop-input-preserved g c =
    let so_far = c.loop-input.invariant in
    let items = c.args.inputs.now in
    let i = c.loop-input.input-index in
    let item : ℕ = get_or c.args.inputs.now i 0 in
    let old : ℕ × Option (List ℕ) = (g.W.Sink.failures c.args.out.now, g.W.Sink.taken c.args.out.now) in
    let mid : ℕ × Option (List ℕ) = (g.W.Sink.failures c.loop-input.out, g.W.Sink.taken c.loop-input.out) in
    let new : ℕ × Option (List ℕ) = (g.W.Sink.failures c.write_source.new.out, g.W.Sink.taken c.write_source.new.out) in (
      so_far.0 ++ (source_line c.args.graph.now) item,
      one_more (source_line c.args.graph.now) (flat_map (source_line c.args.graph.now)) (λ y ys. refl) items i item 0 so_far.0 c.loop-input-test.true refl so_far.1,
      c.writes_join.ensures.join true old mid new so_far.0 ((source_line c.args.graph.now) item) so_far.2 c.in-Ok.ensures,
    )
