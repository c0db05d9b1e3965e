use Rattle.std.proofs.Common.{ℕ, List, Option, subst, sym, ◌∙◌}
use Rattle.rtrb.specs.Ring.{received}
use Rattle.plan_machine.specs.declared.event.Mark.{Mark}
use Rattle.plan_status.specs.Formats.{HasPrinted}
use Rattle.plan_status.proofs.tap.Tap.print.Goals as goal

pub loop-preserved : goal.loop-preserved
loop-preserved g c =
    let new : ℕ × Option (List ℕ) = (g.W.Sink.failures c.print_mark-self.new.out, g.W.Sink.taken c.print_mark-self.new.out) in
    let tells : List Mark → List ℕ → Type 0 = g.F.Format.tells c.print_mark-self.new.format c.args.image.now c.args.total in
    let one = c.loop.invariant.1 in
    let other = c.in-Ok.ensures.ring in (
      λ start before. subst (λ (ms : List Mark). HasPrinted tells ms c.print_mark-self.result start new) (sym c.in-Ok.ensures.ok.0)
          (c.print_mark-self.ensures.printed start (received c.loop.self.ring) (c.loop.invariant.0 start before)),
      ((other.0.0 ∙ one.0.0, other.0.1 ∙ one.0.1, other.0.2 ∙ one.0.2, other.0.3 ∙ one.0.3), other.1 ∙ one.1),
      c.print_mark-self.ensures.same ∙ c.loop.invariant.2,
    )
