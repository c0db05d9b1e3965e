use Rattle.std.proofs.Common.{◌≡◌, ℕ, ◌∷◌, Some, refl, sym, subst, ◌∙◌}
use Rattle.std.specs.Prelude.{Ok, slice_get}
use Rattle.plan_image.specs.declared.image.Parts.{Parts}
use Rattle.plan_verify.specs.Turn.{Local}
use Rattle.plan_machine.specs.declared.event.Event.TheVariants.{Reply as Hear}
use Rattle.plan_machine.specs.Applying.{Applied, CanTurn}
use Rattle.plan_machine.specs.Depfile.{depfile}
use Rattle.plan_machine.specs.RunState.{RunState}
use Rattle.plan_machine.specs.Hearing.{CanHear}
use Rattle.plan_machine.specs.Kept.{AreKept}
use Rattle.plan_machine.specs.Limits.{Limits}
use Rattle.plan_machine.specs.Replaying.{RunsTo}
use Rattle.plan_machine.specs.Runs.{Runs}
use Rattle.plan_machine.specs.LocalRuns.{moves_of, local_run_events, local_run_marks, steps_of}
use Rattle.plan_machine.specs.State.{Active, State}
use Rattle.plan_machine.proofs.LocalRunLemmas.{all_local_run, follow_behind, follow_run, follow_state, run_turns}
use Rattle.plan_machine.proofs.StateLemmas.{can_hear, can_turn, state_stands}
use Rattle.plan_machine.proofs.run.state.State.follow.Goals as goal

pub change-requires-clause-turns : goal.change-requires-clause-turns
change-requires-clause-turns c e l at =
    let r = c.args.self.now in
    let laws = c.turn_laws.ensures in
    let stands = state_stands laws c.args.image.now c.image-tables.ensures.shaped r c.requires in
    subst (λ (p : Parts). CanTurn p r.run_state.now.slots e l) (sym c.image-tables.ensures.same) (can_turn laws c.args.image.now c.image-tables.ensures.shaped r.run_state.limits r.run_state.now stands e l at)

pub change-requires-clause-hears : goal.change-requires-clause-hears
change-requires-clause-hears c e a l at =
    let r = c.args.self.now in
    let laws = c.turn_laws.ensures in
    let stands = state_stands laws c.args.image.now c.image-tables.ensures.shaped r c.requires in
    subst (λ (p : Parts). CanHear p e a l) (sym c.image-tables.ensures.same) (can_hear laws laws.ignore_slots c.args.image.now r.run_state.now stands e a l at)

pub run_local_steps-local_run-requires-clause-turns : goal.run_local_steps-local_run-requires-clause-turns
run_local_steps-local_run-requires-clause-turns c =
    let r = c.args.self.now in
    let e = c.args.edge in
    let p = c.args.image.now in
    let x = Hear e c.args.reply in
    let told = c.in_ok-mark.mark in
    let mid = c.change.new.self.run_state in
    let laws = c.turn_laws.ensures in
    let applied : Applied p r.run_state x (Ok told) mid = subst (λ (y : Parts). Applied y r.run_state x (Ok told) mid) c.image-tables.ensures.same c.in_ok-mark.ensures.applied in
    subst (λ (y : Parts). (n : ℕ) (s : State) → Runs depfile y mid.limits mid.now (steps_of e n) (moves_of e n) s → (l : Local) → slice_get s.edges e ≡ Some (Active l) → CanTurn y s.slots e l)
    (sym c.image-tables.ensures.same)
    (λ n s run l at. run_turns laws p c.image-tables.ensures.shaped r c.requires (x ∷ steps_of e n) (told ∷ moves_of e n) s
    (mid.now, applied.0, subst (λ (limits : Limits). Runs depfile p limits mid.now (steps_of e n) (moves_of e n) s) applied.1 run) e l at)

pub note-requires : goal.note-requires
note-requires c =
    let r = c.args.self.now in
    let e = c.args.edge in
    let p = c.image-tables.result.now in
    let local_run = c.run_local_steps-local_run.result in
    let x = Hear e c.args.reply in
    let kept : AreKept p r.run_state.now r.plan r.schedule = subst (λ (y : Parts). AreKept y r.run_state.now r.plan r.schedule) (sym c.image-tables.ensures.same) c.requires.kept in
    follow_behind p r c.run_local_steps-local_run.new.self e x (local_run_events e local_run) (c.in_ok-mark.mark ∷ local_run_marks e local_run) kept
    (follow_run p r.run_state c.change.new.self.run_state c.run_local_steps-local_run.new.self.run_state x c.in_ok-mark.mark (local_run_events e local_run) (local_run_marks e local_run) c.in_ok-mark.ensures.applied c.run_local_steps-local_run.ensures.runs)
    refl (all_local_run e local_run) (c.run_local_steps-local_run.ensures.plan ∙ c.in_ok-mark.ensures.plan) (c.run_local_steps-local_run.ensures.schedule ∙ c.in_ok-mark.ensures.schedule)

pub returns-clause-state : goal.returns-clause-state
returns-clause-state c =
    let r = c.args.self.now in
    let e = c.args.edge in
    let p = c.image-tables.result.now in
    let local_run = c.run_local_steps-local_run.result in
    let x = Hear e c.args.reply in
    let told = c.in_ok-mark.mark in
    let new = c.note.new.self in
    let ran : RunsTo p r.run_state (x ∷ local_run_events e local_run) (told ∷ local_run_marks e local_run) c.run_local_steps-local_run.new.self.run_state =
    follow_run p r.run_state c.change.new.self.run_state c.run_local_steps-local_run.new.self.run_state x told (local_run_events e local_run) (local_run_marks e local_run) c.in_ok-mark.ensures.applied c.run_local_steps-local_run.ensures.runs in
    let ran_so : RunsTo c.args.image.now r.run_state (x ∷ local_run_events e local_run) (told ∷ local_run_marks e local_run) new.run_state =
    subst (λ (y : Parts). RunsTo y r.run_state (x ∷ local_run_events e local_run) (told ∷ local_run_marks e local_run) new.run_state) c.image-tables.ensures.same
    (subst (λ (g : RunState). RunsTo p r.run_state (x ∷ local_run_events e local_run) (told ∷ local_run_marks e local_run) g) (sym c.note.ensures.run_state) ran) in
    follow_state c.args.image.now r new e x (local_run_events e local_run) (told ∷ local_run_marks e local_run) c.requires ran_so refl (all_local_run e local_run)
    (c.note.ensures.total ∙ c.run_local_steps-local_run.ensures.total ∙ c.in_ok-mark.ensures.total)
    (subst (λ (y : Parts). AreKept y new.run_state.now new.plan new.schedule) c.image-tables.ensures.same c.note.ensures.kept)
