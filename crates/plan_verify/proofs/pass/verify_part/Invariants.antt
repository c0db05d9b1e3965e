use Rattle.std.proofs.Common.{◌≡◌, ◌+◌, ◌*◌, ◌≤◌}
use Rattle.plan_verify.specs.Budget.{budget_of_first}
use Rattle.plan_verify.specs.Verdict.{AreShapedBetween}
use Rattle.plan_verify.proofs.pass.verify_part.Given as goal

abbrev pub invariant-loop-number : goal.invariant-loop-number
invariant-loop-number l = record {
  above : l.from ≤ l.number;
  below : l.number ≤ l.to;
  shaped : AreShapedBetween l.image l.from l.number;
  known : l.budget + budget_of_first l.image l.from ≡ budget_of_first l.image l.number;
  small : l.budget + l.from * 268435456 ≤ l.number * 268435456;
}
