use Rattle.std.proofs.Common.{Some, None}
use Rattle.plan_record.proofs.CompactionLemmas.{looked_up}
use Rattle.plan_record.proofs.record.is_last.Goals as goal

pub returns-in-Some : goal.returns-in-Some
returns-in-Some c = λ entries x index own there.
    looked_up c.args.numbers.now.entries entries c.args.number c.args.output.now x (Some c.in-Some.last.now) index c.in-Some.ensures.value own there

pub returns-in-None : goal.returns-in-None
returns-in-None c = λ entries x index own there.
    looked_up c.args.numbers.now.entries entries c.args.number c.args.output.now x None index c.in-None.ensures.value own there
