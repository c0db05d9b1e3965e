use Rattle.std.proofs.Common.{◌≡◌, ◌-◌}
use Rattle.plan_image.specs.Reading.{items_at}
use Rattle.plan_image.proofs.LoopLemmas.{with_front}
use Rattle.plan_image.proofs.reading.fields.read_rows.Given as goal

abbrev pub invariant-loop : goal.invariant-loop
invariant-loop g l =
    let item = g.F.TextField.read_at in
    with_front l.rows (items_at (λ (s : Unit {0}). item) (λ s x. s) tt (l.count - l.counter) l.rest) ≡ items_at (λ (s : Unit {0}). item) (λ s x. s) tt l.count l.bytes
