use Rattle.std.proofs.Common.{◌<◌, length, arith}
use Rattle.plan_compile.specs.Names.{declared}
use Rattle.plan_compile.proofs.BuildLemmas.{mapped_step, get_at}
use Rattle.plan_compile.proofs.names.pool_table.Goals as goal

pub loop-number-preserved : goal.loop-number-preserved
loop-number-preserved c =
    let n = c.loop-number.number in
    let lt : n < length c.args.names.now = omega (arith, c.loop-number-test.true, c.len-number-end.ensures) in
    let at = get_at c.args.names.now n lt in
    mapped_step (declared c.args.known.now) c.args.names.now n at.0 c.loop-number.pools.items c.push_pool.new.pools.items _ at.1 (c.in_ok-push_pool.ensures c.args.known.now at.0 c.in_ok-depths.ensures at.1) c.loop-number.invariant
