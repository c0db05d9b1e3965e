use Rattle.std.proofs.Common.{◌≡◌, drop, option_map}
use Rattle.plan_options.specs.Saying as defined
use Rattle.plan_options.proofs.command_line.last_value.Given as goal

abbrev pub invariant-loop-at : goal.invariant-loop-at
invariant-loop-at l =
    defined.or_else (defined.last_value l.setting (drop l.at l.arguments)) (option_map (λ v. v.now) l.last) ≡ defined.last_value l.setting l.arguments
