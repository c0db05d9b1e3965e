-- What a world replies about the record, and the paths of it that are in a set.
use Rattle.std.specs.Prelude.{◌≡◌, ◌⊎◌, ℕ, List, [], ◌∷◌, ◌++◌, Contains}
use Rattle.plan_verify.specs.Turn.{Recall}
use Rattle.plan_machine.specs.declared.event.reply.Reply.{Reply}
use Rattle.plan_machine.specs.declared.event.reply.Reply.TheVariants as reply
use Rattle.plan_lanes.specs.Journals.{Rule}

-- The paths that the entry in a reply names. None if the reply is no entry.
abbrev pub paths_of : Reply → List (List ℕ)
paths_of (reply.Entry recorded) = recorded.paths
paths_of r = []

-- The rule allows, under some number, a reply to the recall of this output whose entry names these paths.
abbrev pub MayRecall : Rule → (output : List ℕ) → (paths : List (List ℕ)) → Type 0
MayRecall rule output paths = (n : ℕ) × (r : Reply) × rule n (Recall output) r × (paths_of r ≡ paths)

-- Some of these paths: each of them that is wanted is among them.
pub record AreAmong (wanted paths found : List (List ℕ)) : Type 0 where
  pub some : (path : List ℕ) → Contains found path → Contains paths path
  pub all : (path : List ℕ) → Contains paths path → Contains wanted path → Contains found path

-- The path comes last among those that were found, or it isn't wanted.
abbrev pub AddsWanted : (wanted : List (List ℕ)) (path : List ℕ) (old new : List (List ℕ)) → Type 0
AddsWanted wanted path old new = (new ≡ old ++ path ∷ []) ⊎ ((new ≡ old) × (Contains wanted path → ⊥))

-- The paths of an entry that may be recalled, of those that are wanted.
abbrev pub RecallsAmong : Rule → (wanted : List (List ℕ)) → (output : List ℕ) → (found : List (List ℕ)) → Type 0
RecallsAmong rule wanted output found = (paths : List (List ℕ)) × MayRecall rule output paths × AreAmong wanted paths found
