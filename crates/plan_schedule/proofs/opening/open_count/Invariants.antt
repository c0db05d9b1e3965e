use Rattle.std.proofs.Common.{◌≡◌, take}
use Rattle.std.specs.Prelude.{count_by}
use Rattle.plan_schedule.specs.Phases.{is_open}
use Rattle.plan_schedule.proofs.opening.open_count.Given as goal

abbrev pub invariant-loop-phase : goal.invariant-loop-phase
invariant-loop-phase l = l.count ≡ count_by is_open (take l.phase-index l.phases)
