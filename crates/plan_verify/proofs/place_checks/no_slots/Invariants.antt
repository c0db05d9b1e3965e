use Rattle.std.proofs.Common.{◌≡◌}
use Rattle.std.specs.Prelude.{replicate}
use Rattle.plan_verify.specs.OwnSlots.{none}
use Rattle.plan_verify.proofs.place_checks.no_slots.Given as goal

abbrev pub invariant-loop : goal.invariant-loop
invariant-loop l = l.edges.items ≡ replicate l.counter none
