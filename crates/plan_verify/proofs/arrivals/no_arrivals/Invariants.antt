use Rattle.std.proofs.Common.{◌≡◌}
use Rattle.std.specs.Prelude.{replicate}
use Rattle.plan_verify.specs.declared.arrivals.Arrival.TheVariants as arrival
use Rattle.plan_verify.proofs.arrivals.no_arrivals.Given as goal

abbrev pub invariant-loop : goal.invariant-loop
invariant-loop l = l.all.items ≡ replicate l.counter arrival.Nothing
