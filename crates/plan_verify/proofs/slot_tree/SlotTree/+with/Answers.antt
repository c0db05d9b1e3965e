use Rattle.std.proofs.Common.{◌≡◌, ◌≤◌, ◌++◌, List, ℕ, arith, subst, sym}
use Rattle.std.specs.Prelude.{IfOk}
use Rattle.plan_verify.specs.declared.slot_tree.SlotTree.{SlotTree}
use Rattle.plan_verify.specs.Members.{with_member}
use Rattle.plan_verify.specs.SlotTree.{numbers}
use Rattle.plan_verify.proofs.OwnSetLemmas.{with_ascends}
use Rattle.plan_verify.proofs.SlotTreeLemmas.{at_fork, below_with, with_left, with_right}
use Rattle.plan_verify.proofs.slot_tree.SlotTree.+with.Goals as goal

pub fork-requires-clause-below : goal.fork-requires-clause-below
fork-requires-clause-below t c =
    let f = at_fork c.requires c.in-Fork.is in
    rw (c.in_ok-new-in-Fork.ensures.ok, c.in_ok-low-in-Fork.ensures.numbers, c.deref.ensures) (below_with c.in-Fork.middle c.args.number (numbers c.in-Fork.low.value) c.if-number-middle.true f.below)

pub fork-requires-else-number-middle-clause-above : goal.fork-requires-else-number-middle-clause-above
fork-requires-else-number-middle-clause-above t c =
    let f = at_fork c.requires c.in-Fork.is in
    let le : c.in-Fork.middle ≤ c.args.number = omega (arith, c.if-number-middle.false) in
    rw (c.in_ok-new-in-Fork-2.ensures.ok, c.in_ok-high-in-Fork.ensures.numbers, c.deref-else-number-middle.ensures) (with_ascends c.in-Fork.middle c.args.number (numbers c.in-Fork.high.value) le f.above)

pub returns-in_ok-try_clone-in-Fork-clause-numbers : goal.returns-in_ok-try_clone-in-Fork-clause-numbers
returns-in_ok-try_clone-in-Fork-clause-numbers t c =
    let f = at_fork c.requires c.in-Fork.is in
    let e : numbers c.in_ok-new-in-Fork.field-0.value ++ numbers c.in_ok-try_clone-in-Fork.field-0.value ≡ with_member c.args.number (numbers c.args.self.now)
    = rw (c.in_ok-new-in-Fork.ensures.ok, c.in_ok-low-in-Fork.ensures.numbers, c.deref.ensures, c.in_ok-try_clone-in-Fork.ensures, f.is)
    (sym (with_left c.in-Fork.middle c.args.number (numbers c.in-Fork.low.value) (numbers c.in-Fork.high.value) c.if-number-middle.true f.above)) in
    subst (λ (xs : List ℕ). IfOk c.fork.result (λ (s : SlotTree). numbers s ≡ xs)) e c.fork.ensures.numbers

pub returns-in_ok-new-in-Fork-2-clause-numbers : goal.returns-in_ok-new-in-Fork-2-clause-numbers
returns-in_ok-new-in-Fork-2-clause-numbers t c =
    let f = at_fork c.requires c.in-Fork.is in
    let le : c.in-Fork.middle ≤ c.args.number = omega (arith, c.if-number-middle.false) in
    let e : numbers c.in_ok-try_clone-in-Fork-2.field-0.value ++ numbers c.in_ok-new-in-Fork-2.field-0.value ≡ with_member c.args.number (numbers c.args.self.now)
    = rw (c.in_ok-new-in-Fork-2.ensures.ok, c.in_ok-high-in-Fork.ensures.numbers, c.deref-else-number-middle.ensures, c.in_ok-try_clone-in-Fork-2.ensures, f.is)
    (sym (with_right c.in-Fork.middle c.args.number (numbers c.in-Fork.low.value) (numbers c.in-Fork.high.value) le f.below)) in
    subst (λ (xs : List ℕ). IfOk c.fork-else-number-middle.result (λ (s : SlotTree). numbers s ≡ xs)) e c.fork-else-number-middle.ensures.numbers
