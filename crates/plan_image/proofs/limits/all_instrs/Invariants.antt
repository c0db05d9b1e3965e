use Rattle.std.proofs.Common.{◌↔◌, drop}
use Rattle.std.specs.List.{AllByRecursion}
use Rattle.plan_image.specs.Columns.{lent_instrs}
use Rattle.plan_image.specs.Spelling.{InstrFits}
use Rattle.plan_image.proofs.limits.all_instrs.Given as goal

-- all items pass if and only if those that are left pass
abbrev pub invariant-loop-place : goal.invariant-loop-place
invariant-loop-place l = AllByRecursion InstrFits (drop l.place (lent_instrs l.instrs)) ↔ AllByRecursion InstrFits (lent_instrs l.instrs)
