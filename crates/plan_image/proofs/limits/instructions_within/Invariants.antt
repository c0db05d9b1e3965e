use Rattle.std.proofs.Common.{◌≤◌, ◌↔◌, drop}
use Rattle.plan_image.specs.Spelling.{instructions}
use Rattle.plan_image.proofs.limits.instructions_within.Given as goal

abbrev pub invariant-loop-number : goal.invariant-loop-number
invariant-loop-number l = (instructions l.bodies (drop l.number l.edges) ≤ l.left) ↔ (instructions l.bodies l.edges ≤ l.most)
