use Rattle.std.proofs.Common.{◌≡◌, ◌++◌, drop}
use Rattle.plan_tools.specs.Tree.{lines_left, trees_of}
use Rattle.plan_tools.proofs.tree.add_roots.Given as goal

-- the roots from this one on were appended
abbrev pub invariant-loop-number : goal.invariant-loop-number
invariant-loop-number l = lines_left l.graph l.stack.items ≡ trees_of l.graph l.below 0 (drop l.number l.roots) ++ lines_left l.graph l.fn.stack.items
