use Rattle.std.proofs.Common.{◌≤◌, ◌↔◌, drop}
use Rattle.plan_image.specs.Spelling.{body_instructions}
use Rattle.plan_image.proofs.limits.bodies_within.Given as goal

abbrev pub invariant-loop-body : goal.invariant-loop-body
invariant-loop-body l = (body_instructions (drop l.body-index l.bodies) ≤ l.left) ↔ (body_instructions l.bodies ≤ l.most)
