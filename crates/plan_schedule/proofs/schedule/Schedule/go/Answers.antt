use Rattle.std.proofs.Common.{◌≡◌, ◌<◌, ◌∙◌, ℕ, List, Option, None, ap, arith, get_or, length, set, subst, sym}
use Rattle.std.specs.Prelude.{slice_index}
use Rattle.plan_schedule.specs.declared.phase.Phase.{Phase}
use Rattle.plan_schedule.specs.Scheduling.{IsFailedWait, count_unsucceeded, waits_of}
use Rattle.plan_schedule.proofs.WaitLemmas.{failed_wait_kept, unsucceeded_same}
use Rattle.plan_schedule.proofs.schedule.Schedule.go.Goals as goal

pub returns-clause-schedule : goal.returns-clause-schedule
returns-clause-schedule c =
    let b = c.args.self.now in
    let n = c.enter.new.self in
    let old = c.requires.schedule in
    let plan = c.args.plan.now in
    let e = c.args.edge in
    let h : e < length b.phases.items = omega (arith, c.requires.here, old.kept.phases_sized) in
    record {
      kept = c.enter.ensures.kept;
      waiting = λ x lt. ap (λ (l : List ℕ). slice_index l x) c.enter.ensures.waiting ∙ (old.waiting x lt
          ∙ (sym (unsucceeded_same b.phases.items e c.args.phase (waits_of plan x) h c.requires.well) ∙ ap (λ (l : List Phase). count_unsucceeded l (waits_of plan x)) (sym c.enter.ensures.phases)));
      failed_waits_are = λ x lt. subst (λ (l : List Phase). IsFailedWait l (waits_of plan x) (get_or n.failed_wait.items x None)) (sym c.enter.ensures.phases)
          (subst (λ (l : List (Option ℕ)). IsFailedWait (set b.phases.items e c.args.phase) (waits_of plan x) (get_or l x None)) (sym c.enter.ensures.failed_wait)
          (failed_wait_kept b.phases.items e c.args.phase (waits_of plan x) (get_or b.failed_wait.items x None) h c.requires.ill (old.failed_waits_are x lt)));
    }
