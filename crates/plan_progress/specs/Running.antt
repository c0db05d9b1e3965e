-- Edges whose commands run: they took job tokens, and neither released them nor ended.
use Rattle.std.specs.Prelude.{ℕ, ◌==◌, List, [], ◌∷◌, ◌++◌, if◌then◌else◌}
use Rattle.plan_machine.specs.declared.event.Mark.{Mark}
use Rattle.plan_machine.specs.declared.event.Mark.TheVariants.{Ended, Failed, Released, Took}

-- an edge, if it isn't this one
abbrev pub other_than : ℕ → ℕ → List ℕ
other_than edge other = if other == edge then [] else other ∷ []

-- edges without one of them
abbrev pub without : ℕ → List ℕ → List ℕ
without edge [] = []
without edge (other ∷ others) = other_than edge other ++ without edge others

-- the edges after one more mark, in the order in which they took their tokens
abbrev pub running_then : List ℕ → Mark → List ℕ
running_then running (Took e) = running ++ e ∷ []
running_then running (Released e) = without e running
running_then running (Ended e ran) = without e running
running_then running (Failed e cause) = without e running
running_then running mark = running

-- the edges after more marks
abbrev pub running_all : List ℕ → List Mark → List ℕ
running_all running [] = running
running_all running (mark ∷ marks) = running_all (running_then running mark) marks

-- the edges after the marks of a run
abbrev pub running_of : List Mark → List ℕ
running_of marks = running_all [] marks
