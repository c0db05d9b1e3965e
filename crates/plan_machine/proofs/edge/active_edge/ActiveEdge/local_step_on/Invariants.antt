use Rattle.std.proofs.Common.{◌≤◌}
use Rattle.plan_machine.specs.LocalRuns.{StepsLocallyTo}
use Rattle.plan_machine.proofs.edge.active_edge.ActiveEdge.local_step_on.Given as goal

abbrev pub invariant-loop-turn : goal.invariant-loop-turn
invariant-loop-turn l = StepsLocallyTo l.image l.edge l.steps l.fn.self l.fn.slots.items l.self l.slots.items × (l.steps ≤ l._turn)
