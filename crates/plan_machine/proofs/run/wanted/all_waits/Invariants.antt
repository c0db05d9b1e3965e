use Rattle.std.proofs.Common.{◌≡◌}
use Rattle.plan_verify.specs.Tables.{waits_of}
use Rattle.plan_machine.specs.Firsts.{first_of}
use Rattle.plan_machine.proofs.run.wanted.all_waits.Given as goal

abbrev pub invariant-loop-edge : goal.invariant-loop-edge
invariant-loop-edge l = l.rows.items ≡ first_of (waits_of l.parts) l.edge
