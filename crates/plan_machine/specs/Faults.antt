-- The numbers of refusals.
use Rattle.std.specs.Prelude.{ℕ}
use Rattle.plan_machine.specs.declared.run.refused.Refused.{Refused}
use Rattle.plan_machine.specs.declared.run.refused.Refused.TheVariants.{NotEnabled, Memory, BadTarget}

abbrev pub number_of : Refused → ℕ
number_of NotEnabled = 110
number_of Memory = 111
number_of BadTarget = 112
