use Rattle.std.proofs.Common.{arith, ◌∙◌}
use Rattle.plan_world.proofs.RecordingLemmas.{next_begun}
use Rattle.plan_world.proofs.record_file.RecordFile.each_begun.Goals as goal

pub loop-number-preserved : goal.loop-number-preserved
loop-number-preserved g c =
    next_begun c.args.wanted.now c.args.outputs.now c.args.self.now.entries c.loop-number.entries.items c.push.new.self.items c.loop-number.number c.in_ok-begun.field-0
    (omega (arith, c.loop-number-test.true, c.len-number-end.ensures)) (c.in_ok-begun.ensures.output ∙ c.row.ensures) c.in_ok-begun.ensures.begun c.in_ok-push.ensures.items c.loop-number.invariant
