use Rattle.std.proofs.Common.{◌≡◌, ◌*◌, ◌≤◌}
use Rattle.plan_verify.specs.Budget.{budget_of_first}
use Rattle.plan_verify.proofs.budget.image_budget.Given as goal

abbrev pub invariant-loop-edge : goal.invariant-loop-edge
invariant-loop-edge l = record {
  known : l.budget ≡ budget_of_first l.image l.edge;
  small : l.budget ≤ l.edge * 268435456;
}
