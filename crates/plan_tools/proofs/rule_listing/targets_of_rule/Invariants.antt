use Rattle.std.proofs.Common.{◌≡◌, map}
use Rattle.plan_tools.specs.Listings.{of_first}
use Rattle.plan_tools.specs.RuleTargets.{outputs_of_rule}
use Rattle.plan_tools.proofs.rule_listing.targets_of_rule.Given as goal

-- the outputs of the edges so far
abbrev pub invariant-loop-edge : goal.invariant-loop-edge
invariant-loop-edge l = map (λ p. p.now) l.paths.items ≡ of_first (outputs_of_rule l.graph l.rules l.rule) l.edge
