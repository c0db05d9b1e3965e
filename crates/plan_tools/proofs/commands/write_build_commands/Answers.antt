use Rattle.std.proofs.Common.{◌++◌, ◌+◌, List, Option, ℕ, true, refl, get_or, drop}
use Rattle.std.specs.List.{flat_map}
use Rattle.plan_tools.specs.Commands.{command_line}
use Rattle.plan_tools.proofs.WritingLemmas.{one_more, stops}
use Rattle.plan_tools.proofs.commands.write_build_commands.Goals as goal

pub returns-in-Err : goal.returns-in-Err
returns-in-Err g c =
    let so_far = c.loop-edge.invariant in
    let items = c.args.edges.now in
    let i = c.loop-edge.edge-index in
    let default : ℕ = 0 in
    let item : ℕ = get_or c.args.edges.now i default in
    let old : ℕ × Option (List ℕ) = (g.W.Sink.failures c.args.out.now, g.W.Sink.taken c.args.out.now) in
    let mid : ℕ × Option (List ℕ) = (g.W.Sink.failures c.loop-edge.out, g.W.Sink.taken c.loop-edge.out) in
    let new : ℕ × Option (List ℕ) = (g.W.Sink.failures c.write_command.new.out, g.W.Sink.taken c.write_command.new.out) in
    stops c.writes_join.ensures.join c.writes_join.ensures.failed old mid new so_far.0 (command_line c.args.manifest.now item) (flat_map (command_line c.args.manifest.now) (drop (i + 1) items)) (flat_map (command_line c.args.manifest.now) items)
    (one_more (command_line c.args.manifest.now) (flat_map (command_line c.args.manifest.now)) (λ y ys. refl) items i item default so_far.0 c.loop-edge-test.true refl so_far.1) so_far.2 c.in-Err.ensures

pub loop-edge-preserved : goal.loop-edge-preserved
loop-edge-preserved g c =
    let so_far = c.loop-edge.invariant in
    let items = c.args.edges.now in
    let i = c.loop-edge.edge-index in
    let default : ℕ = 0 in
    let item : ℕ = get_or c.args.edges.now i default in
    let old : ℕ × Option (List ℕ) = (g.W.Sink.failures c.args.out.now, g.W.Sink.taken c.args.out.now) in
    let mid : ℕ × Option (List ℕ) = (g.W.Sink.failures c.loop-edge.out, g.W.Sink.taken c.loop-edge.out) in
    let new : ℕ × Option (List ℕ) = (g.W.Sink.failures c.write_command.new.out, g.W.Sink.taken c.write_command.new.out) in (
      so_far.0 ++ command_line c.args.manifest.now item,
      one_more (command_line c.args.manifest.now) (flat_map (command_line c.args.manifest.now)) (λ y ys. refl) items i item default so_far.0 c.loop-edge-test.true refl so_far.1,
      c.writes_join.ensures.join true old mid new so_far.0 (command_line c.args.manifest.now item) so_far.2 c.in-Ok.ensures,
    )
