-- Orderly marks: a property of the list of marks only, given the image's waits and pools and the options.
use Rattle.std.specs.Prelude.{◌≡◌, ℕ, ◌+◌, ◌<◌, ◌≤◌, Bool, true, false, ◌&&◌, ◌==◌, if◌then◌else◌, List, [], ◌∷◌, take, Some, slice_get}
use Rattle.plan_image.specs.declared.image.Edge.{Edge}
use Rattle.plan_image.specs.declared.image.Pool.{Pool}
use Rattle.plan_image.specs.declared.image.Parts.{Parts}
use Rattle.plan_verify.specs.Tables.{waits_of, pool_of}
use Rattle.plan_verify.specs.Members.{is_member}
use Rattle.plan_verify.specs.Turn.{Meaning}
use Rattle.plan_verify.specs.WellShaped.{IsWellShaped}
use Rattle.plan_machine.specs.Limits.{Limits}
use Rattle.plan_machine.specs.declared.event.Event.{Event}
use Rattle.plan_machine.specs.declared.event.Mark.{Mark}
use Rattle.plan_machine.specs.declared.event.Mark.TheVariants.{Started, Took, Released, Ended, Failed}
use Rattle.plan_machine.specs.State.{State}
use Rattle.plan_machine.specs.Places.{is_pool}
use Rattle.plan_machine.specs.Runs.{Reached}

-- whether an edge holds a job token after one more mark
abbrev pub holds_then : ℕ → Bool → Mark → Bool
holds_then e held (Took f) = if f == e then true else held
holds_then e held (Released f) = if f == e then false else held
holds_then e held (Failed f cause) = if f == e then false else held
holds_then e held _ = held

abbrev pub holds_after : ℕ → Bool → List Mark → Bool
holds_after e held [] = held
holds_after e held (mark ∷ marks) = holds_after e (holds_then e held mark) marks

-- the last of an edge's marks among Took, Released and Failed is Took
abbrev pub holds_by : List Mark → ℕ → Bool
holds_by marks e = holds_after e false marks

-- the number of edges that hold a job token by these marks, for the edges from e on
abbrev pub holding : List Mark → ℕ → List Edge → ℕ
holding marks e [] = 0
holding marks e (edge ∷ edges) = (if holds_by marks e then 1 else 0) + holding marks (e + 1) edges

-- the number of edges of a pool that hold a job token
abbrev pub holding_of : Parts → ℕ → List Mark → ℕ → List Edge → ℕ
holding_of p pool marks e [] = 0
holding_of p pool marks e (edge ∷ edges) = (if is_pool pool (pool_of p e) && holds_by marks e then 1 else 0) + holding_of p pool marks (e + 1) edges

pub record IsOrderly (p : Parts) (limits : Limits) (marks : List Mark) : Type 0 where
  -- no edge is started twice
  pub once : (e n k : ℕ) → slice_get marks n ≡ Some (Started e) → slice_get marks k ≡ Some (Started e) → n ≡ k
  -- before an edge is started, each edge that it waits for has succeeded
  pub after_waits : (n e w : ℕ) → slice_get marks n ≡ Some (Started e) → is_member w (waits_of p e) ≡ true → (k : ℕ) × (ran : Bool) × (k < n) × (slice_get marks k ≡ Some (Ended w ran))
  -- at each position, the number of edges that hold a job token is at most the number of jobs
  pub in_jobs : (n : ℕ) → holding (take n marks) 0 p.edges ≤ limits.jobs
  -- for each pool it is at most the pool's depth
  pub in_depth : (n pool : ℕ) (row : Pool) → slice_get p.pools pool ≡ Some row → 0 < row.depth → holding_of p pool (take n marks) 0 p.edges ≤ row.depth

-- the marks of every run are orderly
abbrev pub MarksAreOrderly : Type 0
MarksAreOrderly =
    (meaning : Meaning) (p : Parts) → IsWellShaped p → (limits : Limits) (targets : List ℕ) (events : List Event) (marks : List Mark) (s : State)
    → Reached meaning p limits targets events marks s → IsOrderly p limits marks
