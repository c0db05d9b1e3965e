use Rattle.std.proofs.Common.{◌≡◌, ℕ, Some, sym, subst, ◌∙◌}
use Rattle.std.specs.Prelude.{slice_get}
use Rattle.plan_image.specs.declared.image.Parts.{Parts}
use Rattle.plan_verify.specs.Turn.{Local}
use Rattle.plan_machine.specs.Applying.{CanTurn}
use Rattle.plan_machine.specs.Depfile.{depfile}
use Rattle.plan_machine.specs.RunState.{RunState}
use Rattle.plan_machine.specs.Kept.{AreKept}
use Rattle.plan_machine.specs.Replaying.{RunsTo}
use Rattle.plan_machine.specs.Runs.{Runs}
use Rattle.plan_machine.specs.LocalRuns.{moves_of, local_run_events, local_run_marks, steps_of}
use Rattle.plan_machine.specs.State.{Active, State}
use Rattle.plan_machine.proofs.LocalRunLemmas.{run_turns, local_run_behind, local_run_state}
use Rattle.plan_machine.proofs.run.state.State.run_locally.Goals as goal

pub run_local_steps-local_run-requires-clause-turns : goal.run_local_steps-local_run-requires-clause-turns
run_local_steps-local_run-requires-clause-turns c =
    let r = c.args.self.now in
    let e = c.args.edge in
    let p = c.args.image.now in
    let laws = c.turn_laws.ensures in
    subst (λ (x : Parts). (n : ℕ) (s : State) → Runs depfile x r.run_state.limits r.run_state.now (steps_of e n) (moves_of e n) s → (l : Local) → slice_get s.edges e ≡ Some (Active l) → CanTurn x s.slots e l)
    (sym c.image-tables.ensures.same)
    (λ n s run l at. run_turns laws p c.image-tables.ensures.shaped r c.requires (steps_of e n) (moves_of e n) s run e l at)

pub note-requires : goal.note-requires
note-requires c =
    let r = c.args.self.now in
    let p = c.image-tables.result.now in
    let kept : AreKept p r.run_state.now r.plan r.schedule = subst (λ (x : Parts). AreKept x r.run_state.now r.plan r.schedule) (sym c.image-tables.ensures.same) c.requires.kept in
    local_run_behind p r c.run_local_steps-local_run.new.self c.args.edge c.run_local_steps-local_run.result kept c.run_local_steps-local_run.ensures.runs (sym c.is_still.ensures ∙ c.if-is_still.false) c.run_local_steps-local_run.ensures.plan c.run_local_steps-local_run.ensures.schedule

pub returns-clause-state : goal.returns-clause-state
returns-clause-state c =
    let r = c.args.self.now in
    let e = c.args.edge in
    let new = c.note.new.self in
    let local_run = c.run_local_steps-local_run.result in
    let ran : RunsTo c.args.image.now r.run_state (local_run_events e local_run) (local_run_marks e local_run) c.run_local_steps-local_run.new.self.run_state =
    subst (λ (x : Parts). RunsTo x r.run_state (local_run_events e local_run) (local_run_marks e local_run) c.run_local_steps-local_run.new.self.run_state) c.image-tables.ensures.same c.run_local_steps-local_run.ensures.runs in
    let ran_so : RunsTo c.args.image.now r.run_state (local_run_events e local_run) (local_run_marks e local_run) new.run_state =
    subst (λ (g : RunState). RunsTo c.args.image.now r.run_state (local_run_events e local_run) (local_run_marks e local_run) g) (sym c.note.ensures.run_state) ran in
    local_run_state c.args.image.now r new e local_run c.requires ran_so (sym c.is_still.ensures ∙ c.if-is_still.false) (c.note.ensures.total ∙ c.run_local_steps-local_run.ensures.total)
    (subst (λ (x : Parts). AreKept x new.run_state.now new.plan new.schedule) c.image-tables.ensures.same c.note.ensures.kept)
