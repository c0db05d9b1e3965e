use Rattle.std.proofs.Common.{◌∷◌, ◌++◌, [], ◌∙◌, true, false, refl, subst, sym}
use Rattle.plan_machine.specs.declared.event.Mark.{Mark as Told}
use Rattle.plan_machine.specs.declared.event.Mark.TheVariants as mark
use Rattle.plan_status.specs.Consoles.{AreNoted}
use Rattle.plan_status.proofs.ConsolesLemmas.{noted_kept, noted_set, silent, took_other}
use Rattle.plan_status.proofs.consoles.Consoles.note.Goals as goal

pub returns-then-in_console-clause-noted : goal.returns-then-in_console-clause-noted
returns-then-in_console-clause-noted c = λ before noted.
    let p = c.args.parts.now in
    let e = c.in-Took.edge in
    subst (λ (m : Told). AreNoted p (before ++ m ∷ []) c.set.new.self) (sym c.in-Took.is)
    (noted_set p before (mark.Took e) c.args.self.now c.set.new.self e true noted c.set.ensures.holding c.set.ensures.held (λ f held. refl) (λ raised. sym c.in_console.ensures ∙ c.if-in_console.true))

pub returns-else-in_console-clause-noted : goal.returns-else-in_console-clause-noted
returns-else-in_console-clause-noted c = λ before noted.
    let p = c.args.parts.now in
    let e = c.in-Took.edge in
    subst (λ (m : Told). AreNoted p (before ++ m ∷ []) c.args.self.now) (sym c.in-Took.is)
    (noted_kept p before (mark.Took e) c.args.self.now noted (λ f held console. took_other p e f held (sym c.in_console.ensures ∙ c.if-in_console.false) console))

pub returns-in_default : goal.returns-in_default
returns-in_default c = record {
  noted = λ before noted. noted_kept c.args.parts.now before c.args.mark c.args.self.now noted (λ f held console. silent c.args.mark f held c.in_default.not-Took c.in_default.not-Released c.in_default.not-Failed);
  same = (refl, refl);
}

pub returns-in-Released-clause-noted : goal.returns-in-Released-clause-noted
returns-in-Released-clause-noted c = λ before noted.
    let p = c.args.parts.now in
    let e = c.in-Released.edge in
    subst (λ (m : Told). AreNoted p (before ++ m ∷ []) c.set-in-Released.new.self) (sym c.in-Released.is)
    (noted_set p before (mark.Released e) c.args.self.now c.set-in-Released.new.self e false noted c.set-in-Released.ensures.holding c.set-in-Released.ensures.held (λ f held. refl) (λ raised. absurd cc))

pub returns-in-Failed-clause-noted : goal.returns-in-Failed-clause-noted
returns-in-Failed-clause-noted c = λ before noted.
    let p = c.args.parts.now in
    let e = c.in-Failed.edge in
    subst (λ (m : Told). AreNoted p (before ++ m ∷ []) c.set-in-Failed.new.self) (sym c.in-Failed.is)
    (noted_set p before (mark.Failed e c.in-Failed.field-1) c.args.self.now c.set-in-Failed.new.self e false noted c.set-in-Failed.ensures.holding c.set-in-Failed.ensures.held (λ f held. refl) (λ raised. absurd cc))
