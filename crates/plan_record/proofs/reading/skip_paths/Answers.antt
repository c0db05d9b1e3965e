use Rattle.std.proofs.Common.{sym}
use Rattle.plan_record.proofs.ReadingLemmas.{behind, goes_on, ends, is_done}
use Rattle.plan_record.proofs.reading.skip_paths.Goals as goal

pub returns-in_err-after : goal.returns-in_err-after
returns-in_err-after c =
    rw (c.from_residual.ensures) (sym (ends c.args.count c.loop.counter c.loop.rest.now (behind c.args.count c.args.bytes.now) c.loop-test.true c.in_err-after.ensures c.loop.invariant))

pub loop-preserved : goal.loop-preserved
loop-preserved c = goes_on c.args.count c.loop.counter c.loop.rest.now _ c.in_ok-after.after.now (behind c.args.count c.args.bytes.now) c.loop-test.true c.in_ok-after.ensures c.loop.invariant

pub returns : goal.returns
returns c = sym (is_done c.args.count c.loop.counter c.loop.rest.now (behind c.args.count c.args.bytes.now) c.loop-test.false c.loop.invariant)
