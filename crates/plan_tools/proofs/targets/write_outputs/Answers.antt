use Rattle.std.proofs.Common.{◌++◌, ◌∷◌, [], ◌+◌, List, Option, ℕ, true, refl, get_or, drop}
use Rattle.std.specs.List.{flat_map}
use Rattle.plan_tools.specs.Listings.{output_line}
use Rattle.plan_tools.proofs.WritingLemmas.{one_more, stops}
use Rattle.plan_tools.proofs.targets.write_outputs.Goals as goal

pub returns-in-Err : goal.returns-in-Err
returns-in-Err g c =
    let so_far = c.loop-output.invariant in
    let items = c.args.outputs.now in
    let i = c.loop-output.output-index in
    let item : ℕ = get_or c.args.outputs.now i 0 in
    let old : ℕ × Option (List ℕ) = (g.W.Sink.failures c.args.out.now, g.W.Sink.taken c.args.out.now) in
    let mid : ℕ × Option (List ℕ) = (g.W.Sink.failures c.loop-output.out, g.W.Sink.taken c.loop-output.out) in
    let new : ℕ × Option (List ℕ) = (g.W.Sink.failures c.write_output.new.out, g.W.Sink.taken c.write_output.new.out) in
    stops c.writes_join.ensures.join c.writes_join.ensures.failed old mid new so_far.0 ((output_line c.args.graph.now c.args.rule.now) item) (flat_map (output_line c.args.graph.now c.args.rule.now) (drop (i + 1) items)) (flat_map (output_line c.args.graph.now c.args.rule.now) items)
    (one_more (output_line c.args.graph.now c.args.rule.now) (flat_map (output_line c.args.graph.now c.args.rule.now)) (λ y ys. refl) items i item 0 so_far.0 c.loop-output-test.true refl so_far.1) so_far.2 c.in-Err.ensures

pub loop-output-preserved : goal.loop-output-preserved
loop-output-preserved g c =
    let so_far = c.loop-output.invariant in
    let items = c.args.outputs.now in
    let i = c.loop-output.output-index in
    let item : ℕ = get_or c.args.outputs.now i 0 in
    let old : ℕ × Option (List ℕ) = (g.W.Sink.failures c.args.out.now, g.W.Sink.taken c.args.out.now) in
    let mid : ℕ × Option (List ℕ) = (g.W.Sink.failures c.loop-output.out, g.W.Sink.taken c.loop-output.out) in
    let new : ℕ × Option (List ℕ) = (g.W.Sink.failures c.write_output.new.out, g.W.Sink.taken c.write_output.new.out) in (
      so_far.0 ++ (output_line c.args.graph.now c.args.rule.now) item,
      one_more (output_line c.args.graph.now c.args.rule.now) (flat_map (output_line c.args.graph.now c.args.rule.now)) (λ y ys. refl) items i item 0 so_far.0 c.loop-output-test.true refl so_far.1,
      c.writes_join.ensures.join true old mid new so_far.0 ((output_line c.args.graph.now c.args.rule.now) item) so_far.2 c.in-Ok.ensures,
    )
