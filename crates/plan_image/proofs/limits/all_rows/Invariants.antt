use Rattle.std.proofs.Common.{◌↔◌, drop}
use Rattle.std.specs.List.{AllByRecursion}
use Rattle.plan_image.proofs.limits.all_rows.Given as goal

-- all items pass if and only if those that are left pass
abbrev pub invariant-loop-number : goal.invariant-loop-number
invariant-loop-number g l = AllByRecursion g.T.RowTest.holds (drop l.number l.rows) ↔ AllByRecursion g.T.RowTest.holds l.rows
