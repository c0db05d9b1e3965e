use Rattle.std.specs.Prelude.{nat_lt}
use Rattle.plan_reasons.proofs.FindLemmas.{both_found, both_later, both_nowhere}
use Rattle.plan_reasons.proofs.finding.later_in_both.Goals as goal

pub returns-in-Some : goal.returns-in-Some
returns-in-Some c = both_found (nat_lt c.args.baseline) c.args.named.now c.args.recorded.now c.in-Some.place c.in-Some.ensures.first

pub returns-in-Some-first_later : goal.returns-in-Some-first_later
returns-in-Some-first_later c = both_later (nat_lt c.args.baseline) c.args.named.now c.args.recorded.now c.in-Some-first_later.place c.in-None.ensures.first c.in-Some-first_later.ensures.first

pub returns-in-None-first_later : goal.returns-in-None-first_later
returns-in-None-first_later c = both_nowhere (nat_lt c.args.baseline) c.args.named.now c.args.recorded.now c.in-None.ensures.first c.in-None-first_later.ensures.first
