use Rattle.std.proofs.Common.{◌≡◌, ◌++◌, drop}
use Rattle.plan_compile.specs.Assembling.{layouts_in}
use Rattle.plan_compile.proofs.all_layouts.layouts_of.Given as goal

abbrev pub invariant-loop-number : goal.invariant-loop-number
invariant-loop-number l =
    l.layouts.items ++ layouts_in l.plan.table.items (drop l.number l.numbers) (drop l.number l.plan.newest.items) (drop l.number l.builds)
    ≡ layouts_in l.plan.table.items l.numbers l.plan.newest.items l.builds
