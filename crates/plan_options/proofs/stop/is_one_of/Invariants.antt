use Rattle.std.proofs.Common.{◌≡◌, drop, map}
use Rattle.plan_options.specs.Stops as defined
use Rattle.plan_options.proofs.stop.is_one_of.Given as goal

abbrev pub invariant-loop-at : goal.invariant-loop-at
invariant-loop-at l = defined.is_one_of l.text (map (λ n. n.now) (drop l.at l.names)) ≡ defined.is_one_of l.text (map (λ n. n.now) l.names)
