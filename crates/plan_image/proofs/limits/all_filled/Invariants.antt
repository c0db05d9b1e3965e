use Rattle.std.proofs.Common.{◌↔◌, drop}
use Rattle.std.specs.List.{AllByRecursion}
use Rattle.plan_image.specs.Code.{HasBody}
use Rattle.plan_image.proofs.limits.all_filled.Given as goal

abbrev pub invariant-loop-number : goal.invariant-loop-number
invariant-loop-number l = AllByRecursion (λ x. HasBody l.bodies x.code) (drop l.number l.edges) ↔ AllByRecursion (λ x. HasBody l.bodies x.code) l.edges
