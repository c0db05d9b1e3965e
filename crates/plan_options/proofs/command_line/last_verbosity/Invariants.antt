use Rattle.std.proofs.Common.{◌≡◌, drop}
use Rattle.plan_options.specs.Saying as defined
use Rattle.plan_options.proofs.command_line.last_verbosity.Given as goal

abbrev pub invariant-loop-at : goal.invariant-loop-at
invariant-loop-at l = defined.or_else (defined.verbosity (drop l.at l.arguments)) l.last ≡ defined.verbosity l.arguments
