use Rattle.std.proofs.Common.{map}
use Rattle.plan_tools.specs.Suggestion.{IsBest, distance_at}
use Rattle.plan_tools.proofs.suggestion.closest_of.Given as goal

-- the best of the words so far
abbrev pub invariant-loop-number : goal.invariant-loop-number
invariant-loop-number l = IsBest (distance_at (map (λ w. w.now) l.words) l.word) l.number l.best
