use Rattle.std.proofs.Common.{◌≡◌, ◌≤◌}
use Rattle.plan_status.specs.Consoles.{HasLooked}
use Rattle.plan_status.proofs.consoles.Consoles.look.Given as goal

abbrev pub invariant-loop-at : goal.invariant-loop-at
invariant-loop-at l = HasLooked l.parts l.marks l.self × (l.self.looked ≡ l.at) × (l.fn.self.free ≤ l.self.free)
