use Rattle.plan_graph.specs.Files.{paths_in}
use Rattle.plan_tools.specs.Suggestion.{IsBest, distance_at}
use Rattle.plan_tools.proofs.suggestion.closest_number.Given as goal

-- the best of the paths so far
abbrev pub invariant-loop-number : goal.invariant-loop-number
invariant-loop-number l = IsBest (distance_at (paths_in l.graph.files) l.word) l.number l.best
