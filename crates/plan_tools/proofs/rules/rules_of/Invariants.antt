use Rattle.std.proofs.Common.{◌≡◌, ◌++◌}
use Rattle.plan_tools.specs.Rules.{rules_of}
use Rattle.plan_tools.proofs.rules.rules_of.Given as goal

abbrev pub invariant-loop-statement : goal.invariant-loop-statement
invariant-loop-statement l = (l.rules ≡ rules_of l.yielded) × (l.yielded ++ l.statement-iterator ≡ l.tree)
