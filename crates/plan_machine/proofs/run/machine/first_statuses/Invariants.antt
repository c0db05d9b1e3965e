use Rattle.std.proofs.Common.{◌≡◌, map, take}
use Rattle.plan_machine.specs.Runs.{at_first}
use Rattle.plan_machine.proofs.run.machine.first_statuses.Given as goal

abbrev pub invariant-loop-is_wanted : goal.invariant-loop-is_wanted
invariant-loop-is_wanted l = l.edges.items ≡ map at_first (take l.is_wanted-index l.wanted)
