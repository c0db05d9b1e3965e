use Rattle.std.proofs.Common.{◌++◌, ◌<◌, List, Option, ℕ, true, length, arith}
use Rattle.plan_tools.specs.Listings.{of_first, edge_lines}
use Rattle.plan_tools.proofs.WritingLemmas.{behind_first, stops}
use Rattle.plan_tools.proofs.targets.write_all_targets.Goals as goal

pub returns-in-Err : goal.returns-in-Err
returns-in-Err g c =
    let i = c.loop-edge.edge in
    let each : ℕ → List ℕ = edge_lines c.args.graph.now c.args.rules.now in
    let lt : i < length c.args.graph.now.outputs = omega (arith, c.loop-edge-test.true, c.len-edge-end.ensures) in
    let left = behind_first each i (length c.args.graph.now.outputs) lt in
    let old : ℕ × Option (List ℕ) = (g.W.Sink.failures c.args.out.now, g.W.Sink.taken c.args.out.now) in
    let mid : ℕ × Option (List ℕ) = (g.W.Sink.failures c.loop-edge.out, g.W.Sink.taken c.loop-edge.out) in
    let new : ℕ × Option (List ℕ) = (g.W.Sink.failures c.write_edge.new.out, g.W.Sink.taken c.write_edge.new.out) in
    stops c.writes_join.ensures.join c.writes_join.ensures.failed old mid new (of_first each i) (each i) left.0 (of_first each (length c.args.graph.now.outputs)) left.1 c.loop-edge.invariant c.in-Err.ensures
