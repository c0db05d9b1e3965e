use Rattle.std.proofs.Common.{◌≡◌, ◌++◌, map, drop, option_map}
use Rattle.std.specs.Prelude.{filter}
use Rattle.plan_tools.specs.Listings.{path_at}
use Rattle.plan_tools.specs.Cleaning.{is_counted}
use Rattle.plan_tools.proofs.cleaning.add_outputs.Given as goal

-- what was appended, and what is appended behind it
abbrev pub invariant-loop-output : goal.invariant-loop-output
invariant-loop-output l =
    l.files ++ map (path_at l.graph) (filter (is_counted (option_map (λ c. c.now) l.counted)) (drop l.output-index l.outputs))
    ≡ l.fn.files ++ map (path_at l.graph) (filter (is_counted (option_map (λ c. c.now) l.counted)) l.outputs)
