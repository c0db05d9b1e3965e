use Rattle.plan_verify.proofs.SlotTreeLemmas.{cut_low, cut_high, from_zero, front_ascends}
use Rattle.plan_verify.proofs.slot_tree.split_at_number.Goals as goal

pub list_of-requires : goal.list_of-requires
list_of-requires c = rw c.split_at.ensures.front (front_ascends 0 c.count_below.result c.args.held.now c.requires)

pub list_of-requires-2 : goal.list_of-requires-2
list_of-requires-2 c = rw (c.split_at.ensures.back, c.count_below.ensures.len) (from_zero c.args.middle _ (cut_high 0 c.args.middle c.args.held.now c.requires))

pub fork-requires-clause-below : goal.fork-requires-clause-below
fork-requires-clause-below c = rw (c.in_ok-low.ensures.numbers, c.split_at.ensures.front, c.count_below.ensures.len) (cut_low c.args.middle c.args.held.now)

pub fork-requires-clause-above : goal.fork-requires-clause-above
fork-requires-clause-above c = rw (c.in_ok-high.ensures.numbers, c.split_at.ensures.back, c.count_below.ensures.len) (cut_high 0 c.args.middle c.args.held.now c.requires)
