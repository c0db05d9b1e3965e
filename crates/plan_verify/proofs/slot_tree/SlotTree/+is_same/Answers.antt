use Rattle.plan_verify.proofs.SlotTreeLemmas.{same_forks}
use Rattle.plan_verify.proofs.slot_tree.SlotTree.+is_same.Goals as goal

pub returns-then-middle-other_middle : goal.returns-then-middle-other_middle
returns-then-middle-other_middle t c =
    same_forks c.is_same.result c.is_same-then-middle-other_middle.result c.requires.these c.requires.others c.in-Fork.is c.in-Fork-other-2.is c.if-middle-other_middle.true
    c.deref.ensures c.deref-then-middle-other_middle.ensures c.deref-then-middle-other_middle-2.ensures c.deref-then-middle-other_middle-3.ensures
    c.is_same.ensures c.is_same-then-middle-other_middle.ensures
