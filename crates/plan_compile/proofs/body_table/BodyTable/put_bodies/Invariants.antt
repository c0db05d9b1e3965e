use Rattle.std.proofs.Common.{◌≡◌, ◌≤◌, ◌+◌, ◌++◌, length, map}
use Rattle.std.specs.Vec.Iter.{into_iter_items}
use Rattle.plan_compile.specs.BodyKeys.{same_body}
use Rattle.plan_compile.specs.Numbering.{number, with_items}
use Rattle.plan_compile.proofs.body_table.BodyTable.put_bodies.Given as goal

abbrev pub invariant-loop-body : goal.invariant-loop-body
invariant-loop-body l =
    (l.self ≡ with_items same_body l.initial.self l.yielded)
    × (l.numbers.items ≡ map (λ b. number same_body b l.self) l.yielded)
    × (length l.self ≤ length l.initial.self + length l.yielded)
    × (l.yielded ++ into_iter_items l.body-iterator ≡ l.fn.bodies.items)
