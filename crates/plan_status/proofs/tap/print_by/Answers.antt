use Rattle.std.proofs.Common.{ℕ, List, Option, subst}
use Rattle.plan_machine.specs.declared.event.Mark.{Mark}
use Rattle.plan_status.specs.declared.fault.PrintFault.{PrintFault}
use Rattle.plan_status.specs.Formats.{HasPrinted}
use Rattle.plan_status.proofs.FormatLemmas.{nothing_printed}
use Rattle.plan_status.proofs.tap.print_by.Goals as goal

pub returns-in-Some-clause-printed : goal.returns-in-Some-clause-printed
returns-in-Some-clause-printed g c =
    let p = c.args.image.now in
    let total = c.args.total in
    let old : ℕ × Option (List ℕ) = (g.W.Sink.failures c.args.out.now, g.W.Sink.taken c.args.out.now) in
    let new : ℕ × Option (List ℕ) = (g.W.Sink.failures c.print_rest.new.out, g.W.Sink.taken c.print_rest.new.out) in
    let tells : List Mark → List ℕ → Type 0 = g.F.Format.tells c.print_rest.new.format p total in
    let begun = nothing_printed (g.F.Format.tells c.begin.new.self p total) old (c.begin.ensures.begins p total) in
    subst (λ (stop : Option PrintFault). HasPrinted tells c.args.marks.now stop old new) c.in-Some.is (c.print_rest.ensures.printed old begun)

pub returns-in-None-clause-printed : goal.returns-in-None-clause-printed
returns-in-None-clause-printed g c =
    let p = c.args.image.now in
    let total = c.args.total in
    let old : ℕ × Option (List ℕ) = (g.W.Sink.failures c.args.out.now, g.W.Sink.taken c.args.out.now) in
    let new : ℕ × Option (List ℕ) = (g.W.Sink.failures c.print_rest.new.out, g.W.Sink.taken c.print_rest.new.out) in
    let tells : List Mark → List ℕ → Type 0 = g.F.Format.tells c.print_rest.new.format p total in
    let begun = nothing_printed (g.F.Format.tells c.begin.new.self p total) old (c.begin.ensures.begins p total) in
    subst (λ (stop : Option PrintFault). HasPrinted tells c.args.marks.now stop old new) c.in-None.is (c.print_rest.ensures.printed old begun)
