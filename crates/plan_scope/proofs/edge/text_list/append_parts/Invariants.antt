use Rattle.std.proofs.Common.{◌≡◌, ◌++◌, drop}
use Rattle.plan_scope.specs.TextLists.{whole}
use Rattle.plan_scope.proofs.edge.text_list.append_parts.Given as goal

abbrev pub invariant-loop-number : goal.invariant-loop-number
invariant-loop-number l = l.bytes.items ++ whole (drop l.number l.text) ≡ l.fn.bytes.items ++ whole l.text
