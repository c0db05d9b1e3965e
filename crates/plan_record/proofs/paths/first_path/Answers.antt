use Rattle.std.proofs.Common.{arith}
use Rattle.plan_record.proofs.PathsLemmas.{none_first, some_first, first_not_missing}
use Rattle.plan_record.proofs.paths.first_path.Goals as goal

pub returns-then-count-eq0 : goal.returns-then-count-eq0
returns-then-count-eq0 c = none_first c.args.count c.args.bytes.now (omega (arith, c.if-count-eq0.true))

pub returns-in-Some : goal.returns-in-Some
returns-in-Some c = some_first c.args.count c.args.bytes.now c.in-Some.path.now c.in-Some.field-0-1.now (omega (arith, c.if-count-eq0.false)) c.requires c.in-Some.ensures

pub returns-in-None : goal.returns-in-None
returns-in-None c = absurd (first_not_missing c.args.count c.args.bytes.now (omega (arith, c.if-count-eq0.false)) c.requires c.in-None.ensures)
