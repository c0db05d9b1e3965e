use Rattle.plan_text.proofs.NumeralsLemmas.{stays_too_great}
use Rattle.plan_text.proofs.numerals.at_most.Goals as goal

pub returns-in-None : goal.returns-in-None
returns-in-None c = stays_too_great c.args.digits.now c.args.most c.loop-digit.number c.loop-digit.digit-index c.loop-digit-test.true c.loop-digit.invariant.1 c.in-None.ensures
