use Rattle.std.proofs.Common.{◌≡◌, ◌+◌, ◌++◌, ◌∷◌, [], List, ℕ, ap, arith, get_or, refl, sym, take, ◌∙◌}
use Rattle.std.proofs.lemmas.List.{take_more}
use Rattle.rtrb.specs.Ring.{sent}
use Rattle.plan_machine.specs.declared.event.Mark.{Mark}
use Rattle.plan_machine.specs.declared.event.Mark.TheVariants.{Started}
use Rattle.plan_status.proofs.tap.Feed.show.Goals as goal

pub returns-then-not-push-clause-fed : goal.returns-then-not-push-clause-fed
returns-then-not-push-clause-fed c =
    let fed = c.loop-at.invariant.0 in
    let marks = c.args.marks.now in
    let shown : c.push.new.self.shown ≡ c.loop-at.self.shown = c.push.ensures.same in
    record {
      within = let few = fed.within in omega (arith, few, shown);
      sent = c.push.ensures.no c.if-not-push.true ∙ (fed.sent ∙ ap (λ (k : ℕ). take k marks) (sym shown));
    }

pub returns-then-not-push-clause-more : goal.returns-then-not-push-clause-more
returns-then-not-push-clause-more c =
    let from = c.loop-at.invariant.3 in
    let place = c.loop-at.invariant.1 in
    let shown : c.push.new.self.shown ≡ c.loop-at.self.shown = c.push.ensures.same in
    omega (arith, from, place, shown)

pub returns-then-not-push-clause-ring : goal.returns-then-not-push-clause-ring
returns-then-not-push-clause-ring c =
    let one = c.loop-at.invariant.2 in
    let other = c.push.ensures.ring in
    ((other.0.0 ∙ one.0.0, other.0.1 ∙ one.0.1, other.0.2 ∙ one.0.2, other.0.3 ∙ one.0.3), other.1 ∙ one.1)

pub loop-at-preserved : goal.loop-at-preserved
loop-at-preserved c =
    let so_far = c.loop-at.invariant in
    let marks = c.args.marks.now in
    let i = c.loop-at.at in
    let x : Mark = get_or marks i (Started 0) in
    let lt = c.loop-at-test.true in
    let was : sent c.loop-at.self.ring ≡ take i marks = so_far.0.sent ∙ ap (λ (k : ℕ). take k marks) so_far.1 in
    let sent_now : sent c.push.new.self.ring ≡ take (i + 1) marks
    = c.push.ensures.yes c.if-not-push.false ∙ (ap (λ (ms : List Mark). ms ++ x ∷ []) was ∙ sym (take_more marks i (Started 0) lt)) in
    let one = so_far.2 in
    let other = c.push.ensures.ring in
    let from = so_far.3 in (
      record { within = omega (arith, lt); sent = sent_now },
      refl,
      ((other.0.0 ∙ one.0.0, other.0.1 ∙ one.0.1, other.0.2 ∙ one.0.2, other.0.3 ∙ one.0.3), other.1 ∙ one.1),
      omega (arith, from),
    )
