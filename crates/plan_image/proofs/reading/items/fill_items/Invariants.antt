use Rattle.std.proofs.Common.{◌≡◌, ◌-◌, length}
use Rattle.plan_image.specs.Reading.{items_at}
use Rattle.plan_image.proofs.LoopLemmas.{with_front}
use Rattle.plan_image.proofs.reading.items.fill_items.Given as goal

abbrev pub invariant-loop : goal.invariant-loop
invariant-loop g l =
    let item = g.T.Spelled.read_at in
    record {
      read : with_front l.items.items (items_at (λ (s : Unit {0}). item) (λ s x. s) tt (l.count - l.counter) l.rest) ≡ items_at (λ (s : Unit {0}). item) (λ s x. s) tt l.count l.bytes;
      len : length l.items.items ≡ l.counter;
    }
