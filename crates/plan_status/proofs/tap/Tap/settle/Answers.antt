use Rattle.std.proofs.Common.{◌≡◌, ℕ, List, Option, ap, subst, sym, take, ◌∙◌}
use Rattle.rtrb.specs.Ring.{received}
use Rattle.plan_machine.specs.declared.event.Mark.{Mark}
use Rattle.plan_status.specs.declared.fault.PrintFault.{PrintFault}
use Rattle.plan_status.specs.Formats.{HasPrinted}
use Rattle.plan_status.proofs.tap.Tap.settle.Goals as goal

pub returns-in-Some-clause-printed : goal.returns-in-Some-clause-printed
returns-in-Some-clause-printed g c = λ start before.
    let marks = c.args.marks.now in
    let now : ℕ × Option (List ℕ) = (g.W.Sink.failures c.drain.new.out, g.W.Sink.taken c.drain.new.out) in
    let new : ℕ × Option (List ℕ) = (g.W.Sink.failures c.print_rest.new.out, g.W.Sink.taken c.print_rest.new.out) in
    let mid : List Mark → List ℕ → Type 0 = g.F.Format.tells c.drain.new.format c.args.image.now c.args.total in
    let tells : List Mark → List ℕ → Type 0 = g.F.Format.tells c.print_rest.new.format c.args.image.now c.args.total in
    let all : received c.drain.new.self.ring ≡ take c.drain.new.feed.shown marks
    = c.drain.ensures.all ∙ (c.requires.fed.sent ∙ ap (λ (k : ℕ). take k marks) (sym c.drain.ensures.shown)) in
    let drained : HasPrinted mid (take c.drain.new.feed.shown marks) c.drain.new.self.stop start now
    = subst (λ (ms : List Mark). HasPrinted mid ms c.drain.new.self.stop start now) all (c.drain.ensures.printed start before) in
    subst (λ (stop : Option PrintFault). HasPrinted tells marks stop start new) c.in-Some.is (c.print_rest.ensures.printed start drained)

pub returns-clause-printed : goal.returns-clause-printed
returns-clause-printed g c = λ start before.
    let marks = c.args.marks.now in
    let now : ℕ × Option (List ℕ) = (g.W.Sink.failures c.drain.new.out, g.W.Sink.taken c.drain.new.out) in
    let new : ℕ × Option (List ℕ) = (g.W.Sink.failures c.print_rest.new.out, g.W.Sink.taken c.print_rest.new.out) in
    let mid : List Mark → List ℕ → Type 0 = g.F.Format.tells c.drain.new.format c.args.image.now c.args.total in
    let tells : List Mark → List ℕ → Type 0 = g.F.Format.tells c.print_rest.new.format c.args.image.now c.args.total in
    let all : received c.drain.new.self.ring ≡ take c.drain.new.feed.shown marks
    = c.drain.ensures.all ∙ (c.requires.fed.sent ∙ ap (λ (k : ℕ). take k marks) (sym c.drain.ensures.shown)) in
    let drained : HasPrinted mid (take c.drain.new.feed.shown marks) c.drain.new.self.stop start now
    = subst (λ (ms : List Mark). HasPrinted mid ms c.drain.new.self.stop start now) all (c.drain.ensures.printed start before) in
    subst (λ (stop : Option PrintFault). HasPrinted tells marks stop start new) c.in-None.is (c.print_rest.ensures.printed start drained)
