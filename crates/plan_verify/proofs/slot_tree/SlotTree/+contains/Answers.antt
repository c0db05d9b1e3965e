use Rattle.std.proofs.Common.{◌<◌, ◌≤◌, ◌∙◌, ap, arith, sym}
use Rattle.plan_verify.specs.declared.slot_tree.SlotTree.{SlotTree}
use Rattle.plan_verify.specs.Members.{is_member}
use Rattle.plan_verify.specs.SlotTree.{numbers}
use Rattle.plan_verify.proofs.SlotTreeLemmas.{at_fork, member_left, member_right}
use Rattle.plan_verify.proofs.slot_tree.SlotTree.+contains.Goals as goal

pub returns-then-number-middle : goal.returns-then-number-middle
returns-then-number-middle t c =
    let f = at_fork c.requires c.in-Fork.is in
    let less : c.args.number < c.in-Fork.middle = c.if-number-middle.true in
    c.contains.ensures ∙ ap (λ (s : SlotTree). is_member c.args.number (numbers s)) c.deref.ensures
    ∙ sym (ap (is_member c.args.number) f.is ∙ member_left c.in-Fork.middle c.args.number (numbers c.in-Fork.low.value) (numbers c.in-Fork.high.value) less f.above)

pub returns-else-number-middle : goal.returns-else-number-middle
returns-else-number-middle t c =
    let f = at_fork c.requires c.in-Fork.is in
    let le : c.in-Fork.middle ≤ c.args.number = omega (arith, c.if-number-middle.false) in
    c.contains-else-number-middle.ensures ∙ ap (λ (s : SlotTree). is_member c.args.number (numbers s)) c.deref-else-number-middle.ensures
    ∙ sym (ap (is_member c.args.number) f.is ∙ member_right c.in-Fork.middle c.args.number (numbers c.in-Fork.low.value) (numbers c.in-Fork.high.value) le f.below)
