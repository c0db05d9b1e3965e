use Rattle.std.proofs.Common.{◌≡◌, ◌++◌, drop}
use Rattle.plan_machine.specs.Loads.{loads_in}
use Rattle.plan_machine.proofs.run.loads.all_loads.Given as goal

abbrev pub invariant-loop-place : goal.invariant-loop-place
invariant-loop-place l = l.loads.items ++ loads_in l.slots (drop l.place l.view) ≡ loads_in l.slots l.view
