use Rattle.std.proofs.Common.{◌≡◌, ◌++◌, drop, map}
use Rattle.plan_options.specs.Saying as defined
use Rattle.plan_options.proofs.command_line.targets_in.Given as goal

abbrev pub invariant-loop-at : goal.invariant-loop-at
invariant-loop-at l = map (λ n. n.now) l.names.items ++ defined.targets (drop l.at l.arguments) ≡ defined.targets l.arguments
