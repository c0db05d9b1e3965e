use Rattle.std.proofs.Common.{◌≡◌, drop, Some}
use Rattle.std.specs.List.{list_any}
use Rattle.plan_tools.specs.Cleaning.{is_counted}
use Rattle.plan_tools.proofs.cleaning.has_counted.Given as goal

-- none of the outputs so far counts
abbrev pub invariant-loop-output : goal.invariant-loop-output
invariant-loop-output l = list_any (is_counted (Some l.counted)) (drop l.output-index l.outputs) ≡ list_any (is_counted (Some l.counted)) l.outputs
