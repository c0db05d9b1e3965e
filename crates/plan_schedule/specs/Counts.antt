-- The number of edges that hold a job token, failed, or have no outcome.
use Rattle.std.specs.Prelude.{◌≡◌, ◌==◌, ◌<◌, ◌+◌, ◌&&◌, Bool, true, false, ℕ, List, [], ◌∷◌, cond, count_by, length, slice_index}
use Rattle.plan_schedule.specs.declared.phase.Phase.{Phase}
use Rattle.plan_schedule.specs.Phases.{has_failed, holds, is_open}

abbrev pub one : Bool → ℕ
one b = cond b 1 0

-- the number of edges of a pool that hold a job token
abbrev pub holders_of : ℕ → List ℕ → List Phase → ℕ
holders_of p [] phases = 0
holders_of p (q ∷ pools) [] = 0
holders_of p (q ∷ pools) (x ∷ phases) = one ((q == p) && holds x) + holders_of p pools phases

-- each number equals its count
pub record AreCounts (pools : List ℕ) (phases : List Phase) (pool_holders : List ℕ) (holders failures open_edges : ℕ) : Type 0 where
  pub pool_holders_are : (p : ℕ) → p < length pool_holders → slice_index pool_holders p ≡ holders_of p pools phases
  pub holders_are : holders ≡ count_by holds phases
  pub failures_are : failures ≡ count_by has_failed phases
  pub open_are : open_edges ≡ count_by is_open phases
