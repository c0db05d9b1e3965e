use Rattle.std.proofs.Common.{◌≡◌, ◌+◌, ◌<◌, ℕ, List, [], get_or, set, take}
use Rattle.std.specs.Prelude.{slice_index}
use Rattle.plan_schedule.specs.BucketContents.{bucket_len}
use Rattle.plan_schedule.specs.declared.phase.Phase.TheVariants.{Succeeded}
use Rattle.plan_schedule.specs.Scheduling.{IsKept, edges_of, dependents_of}
use Rattle.plan_schedule.proofs.schedule.Schedule.end_successfully.Given as goal

abbrev pub invariant-loop-dependent : goal.invariant-loop-dependent
invariant-loop-dependent l = record {
  kept : IsKept l.plan l.self;
  phases : l.self.phases.items ≡ set l.fn.self.phases.items l.edge Succeeded;
  failed_wait : l.self.failed_wait.items ≡ l.fn.self.failed_wait.items;
  dependents : l.dependents ≡ dependents_of l.plan l.edge;
  waiting : (x : ℕ) → x < edges_of l.plan → slice_index l.self.waiting.items x + bucket_len x (take l.dependent-index l.dependents) ≡ slice_index l.fn.self.waiting.items x;
}
