use Rattle.std.proofs.Common.{◌↔◌, drop}
use Rattle.std.specs.List.{AllByRecursion}
use Rattle.plan_image.proofs.limits.all.Given as goal

-- all items pass if and only if those that are left pass
abbrev pub invariant-loop-item : goal.invariant-loop-item
invariant-loop-item g l = AllByRecursion g.T.Test.holds (drop l.item-index l.items) ↔ AllByRecursion g.T.Test.holds l.items
