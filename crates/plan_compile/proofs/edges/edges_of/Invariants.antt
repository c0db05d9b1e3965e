use Rattle.std.proofs.Common.{◌≡◌, ◌≤◌, ◌++◌, drop, length, map}
use Rattle.plan_image.specs.Bodies.{body_of}
use Rattle.plan_compile.specs.Assembling.{codes_in, edges_in}
use Rattle.plan_compile.specs.BodyKeys.{same_body}
use Rattle.plan_compile.specs.Images.{used_bodies}
use Rattle.plan_compile.specs.Numbering.{with_items}
use Rattle.plan_compile.proofs.edges.edges_of.Given as goal

abbrev pub invariant-loop-number : goal.invariant-loop-number
invariant-loop-number l =
    let codes = codes_in l.table l.numbers l.newest l.builds in
    let left = codes_in l.table (drop l.number l.numbers) (drop l.number l.newest) (drop l.number l.builds) in
    (with_items same_body l.bodies (map body_of left) ≡ used_bodies codes)
    × (l.edges ++ edges_in (used_bodies codes) (drop l.number l.numbers) left (drop l.number l.builds) ≡ edges_in (used_bodies codes) l.numbers codes l.builds)
    × (length l.bodies ≤ l.number)
