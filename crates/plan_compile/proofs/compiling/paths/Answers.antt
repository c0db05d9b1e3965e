use Rattle.std.proofs.Common.{◌<◌, List, length, arith}
use Rattle.plan_graph.specs.Files.{Path, paths_in}
use Rattle.plan_compile.proofs.BuildLemmas.{copied_step, get_at, map_long}
use Rattle.plan_compile.proofs.compiling.paths.Goals as goal

pub loop-number-preserved : goal.loop-number-preserved
loop-number-preserved c =
    let n = c.loop-number.number in
    let ps : List Path = paths_in c.args.files.now in
    let lt : n < length ps = omega (arith, c.loop-number-test.true, c.len-number-end.ensures, map_long (λ f. f.0) c.args.files.now) in
    let at = get_at ps n lt in
    copied_step ps n at.0 c.loop-number.rows c.push_path.new.rows _ at.1 (c.in_ok-push_path.ensures at.0 at.1) c.loop-number.invariant
