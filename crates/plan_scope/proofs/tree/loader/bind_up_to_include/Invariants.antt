use Rattle.std.proofs.Common.{◌≤◌, length}
use Rattle.plan_scope.specs.LoadingUpTo.{BindsBetween}
use Rattle.plan_scope.proofs.tree.loader.bind_up_to_include.Given as goal

abbrev pub invariant-loop-place : goal.invariant-loop-place
invariant-loop-place l = BindsBetween l.file l.start l.place l.fn.bound l.bound × (l.start ≤ l.place) × (l.place ≤ length l.file.parsed.value.statements)
