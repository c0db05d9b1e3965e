use Rattle.std.proofs.Common.{◌≡◌, ◌-◌, ◌≤◌}
use Rattle.plan_image.specs.Reading.{items_at}
use Rattle.plan_image.proofs.LoopLemmas.{with_front}
use Rattle.plan_image.proofs.reading.items.fill_in_turn.Given as goal

abbrev pub invariant-loop : goal.invariant-loop
invariant-loop g l =
    let item = g.R.InTurn.item_at l.reader in
    let next = g.R.InTurn.next l.reader in
    record {
      read : with_front l.items.items (items_at item next l.before (l.count - l.counter) l.rest) ≡ items_at item next l.start l.count l.bytes;
      most : l.before ≤ g.R.InTurn.most l.reader;
    }
