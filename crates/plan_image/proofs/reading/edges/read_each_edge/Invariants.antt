use Rattle.std.proofs.Common.{◌≡◌, ◌-◌, ◌≤◌}
use Rattle.plan_image.specs.Reading.{edge_at, items_at, used_after}
use Rattle.plan_image.specs.Spelling.{most_code}
use Rattle.plan_image.proofs.LoopLemmas.{with_front}
use Rattle.plan_image.proofs.reading.edges.read_each_edge.Given as goal

abbrev pub invariant-loop : goal.invariant-loop
invariant-loop l = record {
  read : with_front l.edges (items_at (edge_at l.bodies) (used_after l.bodies) l.used (l.count - l.counter) l.rest) ≡ items_at (edge_at l.bodies) (used_after l.bodies) 0 l.count l.bytes;
  most : l.used ≤ most_code l.bodies;
}
