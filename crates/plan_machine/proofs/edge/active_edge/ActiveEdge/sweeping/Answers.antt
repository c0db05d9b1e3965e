use Rattle.std.proofs.Common.{◌≡◌, Some, true, ap, sym, subst, ◌∙◌}
use Rattle.std.specs.Prelude.{slice_get}
use Rattle.plan_image.specs.Code.{code}
use Rattle.plan_image.specs.declared.body.Instr.{Instr}
use Rattle.plan_image.specs.declared.body.Instr.TheVariants as op
use Rattle.plan_verify.specs.Turn.{Local}
use Rattle.plan_machine.specs.Working.{IsSweeping}
use Rattle.plan_machine.proofs.AskingLemmas.{sweeps_in}
use Rattle.plan_machine.proofs.SweepLemmas.{sweeping_has}
use Rattle.plan_machine.proofs.edge.active_edge.ActiveEdge.sweeping.Goals as goal

pub paths_at-swept-requires : goal.paths_at-swept-requires
paths_at-swept-requires c =
    let asked : c.args.self.now.asked ≡ true = sym (ap (λ (l : Local). l.asked) c.self.view_is) ∙ c.if-not-self.false in
    let at : Some op.Sweep ≡ slice_get (code c.args.image.now c.args.edge) c.args.self.now.place =
    subst (λ (l : Local). Some op.Sweep ≡ slice_get (code c.args.image.now c.args.edge) l.place) c.self.view_is (ap (λ (i : Instr). Some i) (sym c.in-Some-Sweep.field-0-is) ∙ c.in-Some-Sweep.ensures) in
    sweeping_has c.self.inside.stack
    (subst (λ (l : Local). IsSweeping l.stack) (sym c.self.view_is) (sweeps_in c.args.image.now c.args.edge c.args.self.now op.Sweep at asked c.requires.asks))

pub returns-in-Some-Sweep-clause-some : goal.returns-in-Some-Sweep-clause-some
returns-in-Some-Sweep-clause-some c =
    let asked : c.args.self.now.asked ≡ true = sym (ap (λ (l : Local). l.asked) c.self.view_is) ∙ c.if-not-self.false in
    let at : Some op.Sweep ≡ slice_get (code c.args.image.now c.args.edge) c.args.self.now.place =
    subst (λ (l : Local). Some op.Sweep ≡ slice_get (code c.args.image.now c.args.edge) l.place) c.self.view_is (ap (λ (i : Instr). Some i) (sym c.in-Some-Sweep.field-0-is) ∙ c.in-Some-Sweep.ensures) in (
      record { asked = asked; at = at; left = sweeps_in c.args.image.now c.args.edge c.args.self.now op.Sweep at asked c.requires.asks },
      ap (λ (l : Local). slice_get l.stack 0) (sym c.self.view_is) ∙ c.paths_at-swept.ensures,
    )
