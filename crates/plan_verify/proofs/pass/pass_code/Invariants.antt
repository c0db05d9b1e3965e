use Rattle.std.proofs.Common.{◌≡◌, ◌+◌, ◌*◌, ◌≤◌, drop, length}
use Rattle.plan_image.specs.Code.{code}
use Rattle.plan_verify.specs.Budget.{costs, edge_budget}
use Rattle.plan_verify.specs.Pass.{Reached}
use Rattle.plan_verify.proofs.pass.pass_code.Given as goal

abbrev pub invariant-loop-place : goal.invariant-loop-place
invariant-loop-place l = record {
  long : length l.arrivals.items ≡ length (code l.image l.edge);
  reached : Reached l.image l.edge l.place l.arrivals.items l.flow;
  spent : l.budget + costs (drop l.place (code l.image l.edge)) ≡ edge_budget l.image l.edge;
  small : l.budget ≤ 1 + 2 * l.place;
}
