use Rattle.plan_verify.specs.SlotTree.{numbers}
use Rattle.plan_verify.proofs.SlotTreeLemmas.{ascends, same_set}
use Rattle.plan_verify.proofs.slot_tree.SlotTree.has_all.Goals as goal

pub returns : goal.returns
returns c =
    same_set (numbers c.args.self.now) (numbers c.args.other.now) c.len.result c.len-2.result c.is_within.result (ascends c.args.self.now c.requires.these) (ascends c.args.other.now c.requires.others)
    c.len.ensures c.len-2.ensures c.is_within.ensures
