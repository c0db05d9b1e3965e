use Rattle.std.proofs.Common.{◌≡◌, ℕ, List, Option, Some, None, false, subst, sym, ◌∙◌}
use Rattle.std.specs.Prelude.{is_some}
use Rattle.plan_machine.specs.declared.event.Mark.{Mark}
use Rattle.plan_status.specs.declared.fault.PrintFault.TheVariants.{Write}
use Rattle.plan_status.specs.Printing.{Prints}
use Rattle.plan_status.proofs.FormatLemmas.{none_printed, one_printed, stop_stays}
use Rattle.plan_status.proofs.tap.print_mark.Goals as goal

pub returns-in-Ok-write_all-clause-printed : goal.returns-in-Ok-write_all-clause-printed
returns-in-Ok-write_all-clause-printed g c = λ start marks.
    let p = c.args.image.now in
    let was : List Mark → List ℕ → Type 0 = g.F.Format.tells c.args.format.now p c.args.total in
    let is : List Mark → List ℕ → Type 0 = g.F.Format.tells c.line.new.self p c.args.total in
    let line : List ℕ = c.in-Ok.line.items in
    let old : ℕ × Option (List ℕ) = (g.W.Sink.failures c.args.out.now, g.W.Sink.taken c.args.out.now) in
    let new : ℕ × Option (List ℕ) = (g.W.Sink.failures c.write_all.new.sink, g.W.Sink.taken c.write_all.new.sink) in
    let going : is_some c.args.stop ≡ false = sym c.is_some.ensures ∙ c.if-is_some.false in
    let printed : Prints line None old new = subst (λ (t : List ℕ). Prints t None old new) c.deref.ensures.value c.in-Ok-write_all.ensures in
    one_printed was is c.join_laws.ensures.join marks c.args.mark line c.args.stop None start old new going c.in-Ok.ensures.tells printed

pub returns-in-Ok-clause-printed : goal.returns-in-Ok-clause-printed
returns-in-Ok-clause-printed g c = λ start marks.
    let p = c.args.image.now in
    let was : List Mark → List ℕ → Type 0 = g.F.Format.tells c.args.format.now p c.args.total in
    let is : List Mark → List ℕ → Type 0 = g.F.Format.tells c.line.new.self p c.args.total in
    let line : List ℕ = c.in-Ok.line.items in
    let old : ℕ × Option (List ℕ) = (g.W.Sink.failures c.args.out.now, g.W.Sink.taken c.args.out.now) in
    let new : ℕ × Option (List ℕ) = (g.W.Sink.failures c.write_all.new.sink, g.W.Sink.taken c.write_all.new.sink) in
    let going : is_some c.args.stop ≡ false = sym c.is_some.ensures ∙ c.if-is_some.false in
    let printed : Prints line (Some Write) old new = subst (λ (t : List ℕ). Prints t (Some Write) old new) c.deref.ensures.value c.in-Err-write_all.ensures in
    one_printed was is c.join_laws.ensures.join marks c.args.mark line c.args.stop (Some Write) start old new going c.in-Ok.ensures.tells printed

pub returns-clause-printed : goal.returns-clause-printed
returns-clause-printed g c = λ start marks.
    let p = c.args.image.now in
    let was : List Mark → List ℕ → Type 0 = g.F.Format.tells c.args.format.now p c.args.total in
    let is : List Mark → List ℕ → Type 0 = g.F.Format.tells c.line.new.self p c.args.total in
    let old : ℕ × Option (List ℕ) = (g.W.Sink.failures c.args.out.now, g.W.Sink.taken c.args.out.now) in
    let going : is_some c.args.stop ≡ false = sym c.is_some.ensures ∙ c.if-is_some.false in
    none_printed was is marks c.args.mark c.args.stop start old going
    (λ before text told. subst (λ f. g.F.Format.tells f p c.args.total before text) (sym c.in-Err.ensures.refused) told) c.join_laws.ensures.join

pub returns-then-is_some-clause-printed : goal.returns-then-is_some-clause-printed
returns-then-is_some-clause-printed g c = λ start marks.
    let was : List Mark → List ℕ → Type 0 = g.F.Format.tells c.args.format.now c.args.image.now c.args.total in
    let old : ℕ × Option (List ℕ) = (g.W.Sink.failures c.args.out.now, g.W.Sink.taken c.args.out.now) in
    stop_stays was was marks c.args.mark c.args.stop start old (sym c.is_some.ensures ∙ c.if-is_some.true)
