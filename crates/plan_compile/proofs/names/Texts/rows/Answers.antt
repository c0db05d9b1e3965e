use Rattle.std.proofs.Common.{◌<◌, length, arith}
use Rattle.plan_compile.proofs.BuildLemmas.{copied_step, get_at}
use Rattle.plan_compile.proofs.names.Texts.rows.Goals as goal

pub loop-number-preserved : goal.loop-number-preserved
loop-number-preserved c =
    let n = c.loop-number.number in
    let lt : n < length c.args.self.now = omega (arith, c.loop-number-test.true, c.len-number-end.ensures) in
    let at = get_at c.args.self.now n lt in
    copied_step c.args.self.now n at.0 c.loop-number.rows c.push_to.new.rows _ at.1 (c.in_ok-push_to.ensures at.0 at.1) c.loop-number.invariant
