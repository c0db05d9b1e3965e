use Rattle.std.proofs.Common.{◌<◌, ◌∙◌, ◌++◌, ◌∷◌, [], length, ap, arith}
use Rattle.plan_compile.specs.Builds.{Build}
use Rattle.plan_compile.proofs.BuildLemmas.{builds_step, get_at}
use Rattle.plan_compile.proofs.build.builds.Goals as goal

pub loop-number-preserved : goal.loop-number-preserved
loop-number-preserved c =
    let es = c.args.manifest.now.edges in
    let n = c.loop-number.number in
    let lt : n < length es = omega (arith, c.loop-number-test.true, c.len-count.ensures) in
    let at = get_at es n lt in
    builds_step c.args.rule c.args.graph.now es n at.0 c.loop-number.builds.items c.push.new.self.items _ at.1
    (c.in_ok-push.ensures.items ∙ ap (λ (b : Build). c.loop-number.builds.items ++ b ∷ []) (c.in_ok-build_at_number.ensures at.0 at.1)) c.loop-number.invariant
