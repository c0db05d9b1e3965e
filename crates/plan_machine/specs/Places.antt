-- Job tokens: one for each job and, in a pool, one for each of its depth. An edge holds one from Take to
-- Release.
use Rattle.std.specs.Prelude.{ℕ, ◌+◌, Bool, true, false, not, ◌||◌, ◌&&◌, List, [], ◌∷◌, Option, Some, None, nat_lt, nat_le, ◌==◌, if◌then◌else◌, slice_get, count_by}
use Rattle.plan_image.specs.declared.body.Instr.{Instr}
use Rattle.plan_image.specs.declared.body.Instr.TheVariants.{Take}
use Rattle.plan_image.specs.declared.image.Pool.{Pool}
use Rattle.plan_image.specs.declared.image.Parts.{Parts}
use Rattle.plan_image.specs.Code.{code}
use Rattle.plan_verify.specs.Tables.{pool_of}
use Rattle.plan_verify.specs.Turn.{Local}
use Rattle.plan_machine.specs.Limits.{Limits}
use Rattle.plan_machine.specs.State.{Status, State, has_failed, is_holder}

abbrev pub is_pool : ℕ → Option ℕ → Bool
is_pool pool (Some other) = other == pool
is_pool pool None = false

-- the number of edges of a pool that hold a job token, for the edges from e on
abbrev pub holders_from : Parts → ℕ → ℕ → List Status → ℕ
holders_from p pool e [] = 0
holders_from p pool e (status ∷ rest) = (if is_pool pool (pool_of p e) && is_holder status then 1 else 0) + holders_from p pool (e + 1) rest

-- a pool of depth 0 has any number of job tokens
abbrev pub allows : Option Pool → ℕ → Bool
allows (Some pool) holders = (pool.depth == 0) || nat_lt holders pool.depth
allows None holders = true

-- a pool has a free job token
abbrev pub has_room : Parts → State → Option ℕ → Bool
has_room p s (Some pool) = allows (slice_get p.pools pool) (holders_from p pool 0 s.edges)
has_room p s None = true

-- the failure limit has been reached
abbrev pub is_spent : Limits → State → Bool
is_spent limits s = nat_lt 0 limits.keep && nat_le limits.keep (count_by has_failed s.edges)

-- an edge may take a job token
abbrev pub is_free : Parts → Limits → State → ℕ → Bool
is_free p limits s e = has_room p s (pool_of p e) && nat_lt (count_by is_holder s.edges) limits.jobs && not (is_spent limits s)

abbrev pub is_take : Option Instr → Bool
is_take (Some Take) = true
is_take _ = false

-- the edge's next instruction is Take
abbrev pub at_take : Parts → ℕ → Local → Bool
at_take p e l = is_take (slice_get (code p e) l.place)
