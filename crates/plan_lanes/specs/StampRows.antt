-- Stamps of paths that a lane asked for in a row.
use Rattle.std.specs.Prelude.{◌<◌, ◌≤◌, ◌+◌, ℕ, List, [], ◌∷◌, drop, length}
use Rattle.plan_verify.specs.Turn.{Stat}
use Rattle.plan_machine.specs.declared.event.reply.Reply.TheVariants.{Stamp}
use Rattle.plan_lanes.specs.Journals.{Rule}

-- the first paths have these stamps, and the rule allows each for its path, under every number
abbrev pub HaveStamps : Rule → List (List ℕ) → List ℕ → Type 0
HaveStamps rule paths [] = Unit {0}
HaveStamps rule [] (stamp ∷ stamps) = ⊥
HaveStamps rule (path ∷ paths) (stamp ∷ stamps) = ((number : ℕ) → rule number (Stat path) (Stamp stamp)) × HaveStamps rule paths stamps

-- what a contract sees of a row: the edge, the number of its question, the paths that the edge goes through, the index
-- of the first path of the row, and the stamps from that path on
pub record Stamps : Type 0 where
  pub edge : ℕ
  pub number : ℕ
  pub paths : List (List ℕ)
  pub from : ℕ
  pub stamps : List ℕ

abbrev pub stamps_of : ℕ → ℕ → List (List ℕ) → ℕ → List ℕ → Stamps
stamps_of edge number paths from stamps = record { edge = edge; number = number; paths = paths; from = from; stamps = stamps }

-- the row has at least one path
pub record IsRow (rule : Rule) (r : Stamps) : Type 0 where
  pub some : 0 < length r.stamps
  pub within : r.from + length r.stamps ≤ length r.paths
  pub allowed : HaveStamps rule (drop r.from r.paths) r.stamps
