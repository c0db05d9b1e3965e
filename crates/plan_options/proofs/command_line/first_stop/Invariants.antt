use Rattle.std.proofs.Common.{◌≡◌, drop}
use Rattle.plan_options.specs.Saying as defined
use Rattle.plan_options.proofs.command_line.first_stop.Given as goal

abbrev pub invariant-loop-at : goal.invariant-loop-at
invariant-loop-at l = defined.first_stop (drop l.at l.arguments) ≡ defined.first_stop l.arguments
