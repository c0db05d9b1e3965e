use Rattle.std.proofs.Common.{◌≡◌, ◌+◌, ◌*◌, ◌≤◌, drop}
use Rattle.plan_image.specs.Code.{code}
use Rattle.plan_verify.specs.Budget.{costs, edge_budget}
use Rattle.plan_verify.proofs.budget.edge_budget.Given as goal

abbrev pub invariant-loop-place : goal.invariant-loop-place
invariant-loop-place l = record {
  spent : l.budget + costs (drop l.place (code l.image l.edge)) ≡ edge_budget l.image l.edge;
  small : l.budget ≤ 1 + 2 * l.place;
}
