use Rattle.std.proofs.Common.{◌≡◌, ◌≤◌}
use Rattle.plan_machine.specs.Total.{commands_among}
use Rattle.plan_machine.proofs.run.machine.Machine.total.Given as goal

abbrev pub invariant-loop-edge : goal.invariant-loop-edge
invariant-loop-edge l = (l.total ≡ commands_among l.parts l.self.now l.edge) × (l.total ≤ l.edge)
