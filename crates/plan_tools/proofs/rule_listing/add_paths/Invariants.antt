use Rattle.std.proofs.Common.{◌≡◌, ◌++◌, map, drop}
use Rattle.plan_tools.specs.Listings.{path_at}
use Rattle.plan_tools.proofs.rule_listing.add_paths.Given as goal

-- the paths so far, and those that follow
abbrev pub invariant-loop-number : goal.invariant-loop-number
invariant-loop-number l =
    map (λ p. p.now) l.paths.items ++ map (path_at l.graph) (drop l.number-index l.numbers) ≡ map (λ p. p.now) l.fn.paths.items ++ map (path_at l.graph) l.numbers
