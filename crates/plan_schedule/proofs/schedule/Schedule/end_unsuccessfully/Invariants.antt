use Rattle.std.proofs.Common.{◌≡◌, ◌+◌, ◌<◌, ◌⊎◌, ℕ, List, [], None, Some, get_or, set, take}
use Rattle.std.specs.Prelude.{Contains, slice_index}
use Rattle.plan_schedule.specs.Scheduling.{IsKept, edges_of, dependents_of}
use Rattle.plan_schedule.specs.BucketRules.{failed_wait_at}
use Rattle.plan_schedule.proofs.schedule.Schedule.end_unsuccessfully.Given as goal

abbrev pub invariant-loop-dependent : goal.invariant-loop-dependent
invariant-loop-dependent l = record {
  kept : IsKept l.plan l.self;
  phases : l.self.phases.items ≡ set l.fn.self.phases.items l.edge l.fn.next;
  waiting : l.self.waiting.items ≡ l.fn.self.waiting.items;
  dependents : l.dependents ≡ dependents_of l.plan l.edge;
  failed_wait : (x : ℕ) → x < edges_of l.plan → ((failed_wait_at l.self.failed_wait.items x ≡ Some l.edge) × Contains l.dependents x)
      ⊎ ((failed_wait_at l.self.failed_wait.items x ≡ failed_wait_at l.fn.self.failed_wait.items x) × (Contains (take l.dependent-index l.dependents) x → ⊥));
}
