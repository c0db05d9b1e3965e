use Rattle.std.proofs.Common.{◌≡◌, ◌++◌, drop, filter}
use Rattle.std.specs.Prelude.{nat_eq}
use Rattle.std.specs.List.{starts_with}
use Rattle.plan_options.specs.LongOptions as defined
use Rattle.plan_options.proofs.long_option.flags_named.Given as goal

abbrev pub invariant-loop-at : goal.invariant-loop-at
invariant-loop-at l = l.found.items ++ filter (λ f. starts_with nat_eq (defined.name_of f) l.front) (drop l.at defined.named) ≡ defined.flags_named l.front
