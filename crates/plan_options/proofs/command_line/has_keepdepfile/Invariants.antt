use Rattle.std.proofs.Common.{◌≡◌, drop}
use Rattle.plan_options.specs.Saying as defined
use Rattle.plan_options.proofs.command_line.has_keepdepfile.Given as goal

abbrev pub invariant-loop-at : goal.invariant-loop-at
invariant-loop-at l = defined.keeps_depfiles (drop l.at l.arguments) ≡ defined.keeps_depfiles l.arguments
