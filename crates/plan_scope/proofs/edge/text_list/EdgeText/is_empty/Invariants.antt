use Rattle.std.proofs.Common.{◌≡◌, drop}
use Rattle.plan_scope.specs.TextLists.{whole}
use Rattle.plan_scope.proofs.edge.text_list.EdgeText.is_empty.Given as goal

-- The parts so far have no bytes.
abbrev pub invariant-loop-number : goal.invariant-loop-number
invariant-loop-number l = whole (drop l.number l.self) ≡ whole l.self
