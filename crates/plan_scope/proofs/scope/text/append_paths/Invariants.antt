use Rattle.std.proofs.Common.{◌≡◌, ◌++◌, map, take, ◌==◌}
use Rattle.std.specs.List.{join_with_byte}
use Rattle.plan_scope.specs.ShellQuoting.{quoted_as}
use Rattle.plan_scope.specs.Kept.{kept}
use Rattle.plan_scope.proofs.scope.text.append_paths.Given as goal

abbrev pub invariant-loop-number : goal.invariant-loop-number
invariant-loop-number l = (l.is_first ≡ (l.number == 0)) × (kept l.out.items ≡ kept (l.fn.out.items ++ join_with_byte l.separator (map (quoted_as l.quoting) (take l.number l.paths))))
