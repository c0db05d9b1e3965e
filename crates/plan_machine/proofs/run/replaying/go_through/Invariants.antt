use Rattle.std.proofs.Common.{take}
use Rattle.plan_machine.specs.Kept.{IsStateOf}
use Rattle.plan_machine.specs.Replaying.{RunsTo}
use Rattle.plan_machine.proofs.run.replaying.go_through.Given as goal

abbrev pub invariant-loop-i : goal.invariant-loop-i
invariant-loop-i l = RunsTo l.image l.fn.state.run_state (take l.i l.events) l.marks.items l.state.run_state × IsStateOf l.image l.state
