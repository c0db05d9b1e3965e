use Rattle.std.proofs.Common.{◌≡◌, drop, length}
use Rattle.plan_machine.specs.Walk.{meet_all}
use Rattle.plan_machine.proofs.run.wanted.Walk.meet_all.Given as goal

abbrev pub invariant-loop-e : goal.invariant-loop-e
invariant-loop-e l = (meet_all l.self (drop l.e-index l.edges) ≡ meet_all l.fn.self l.edges) × (length l.self.met ≡ length l.fn.self.met)
