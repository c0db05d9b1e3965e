use Rattle.std.proofs.Common.{◌≡◌, ◌+◌, ◌∷◌, ◌++◌, [], List, Option, ℕ, ap, append_assoc, arith, length, subst, sym, ◌∙◌}
use Rattle.rtrb.specs.Ring.{known_items, received, sent}
use Rattle.plan_machine.specs.declared.event.Mark.{Mark}
use Rattle.plan_status.specs.Formats.{HasPrinted}
use Rattle.plan_status.proofs.tap.Tap.drain.Goals as goal

pub pop_known-mark-requires : goal.pop_known-mark-requires
pop_known-mark-requires g c =
    let left = c.loop.invariant.2 in
    let lt = c.loop-test.true in
    omega (arith, left, lt)

pub loop-preserved : goal.loop-preserved
loop-preserved g c =
    let old : List Mark = received c.loop.self.ring in
    let known : List Mark = known_items c.pop_known-mark.new.self in
    let mark = c.pop_known-mark.result in
    let popped = c.pop_known-mark.ensures.received in
    let new : ℕ × Option (List ℕ) = (g.W.Sink.failures c.print_mark-self.new.out, g.W.Sink.taken c.print_mark-self.new.out) in
    let tells : List Mark → List ℕ → Type 0 = g.F.Format.tells c.print_mark-self.new.format c.args.image.now c.args.total in
    let all : received c.pop_known-mark.new.self ++ known ≡ sent c.args.feed.now.ring
    = ap (λ (xs : List Mark). xs ++ known) popped.0 ∙ (append_assoc old (mark ∷ []) known ∙ (ap (λ (xs : List Mark). old ++ xs) (sym popped.1) ∙ c.loop.invariant.1)) in
    let count : length (known_items c.loop.self.ring) ≡ length known + 1 = ap length popped.1 ∙ (omega arith) in
    let left = c.loop.invariant.2 in (
      λ start before. subst (λ (ms : List Mark). HasPrinted tells ms c.print_mark-self.result start new) (sym popped.0) (c.print_mark-self.ensures.printed start old (c.loop.invariant.0 start before)),
      all,
      omega (arith, count, left),
      c.print_mark-self.ensures.same ∙ c.loop.invariant.3,
    )
