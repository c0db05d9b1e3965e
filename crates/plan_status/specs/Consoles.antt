-- Console edges: those whose commands have the terminal to themselves.
use Rattle.std.specs.Prelude.{◌≡◌, ℕ, ◌<◌, ◌≤◌, Bool, true, false, List, length, take, get_or, Option, Some, None, slice_get, bytes_eq, codes}
use Rattle.plan_image.specs.declared.image.Pool.{Pool}
use Rattle.plan_image.specs.declared.image.Parts.{Parts}
use Rattle.plan_verify.specs.Tables.{pool_of}
use Rattle.plan_machine.specs.declared.event.Mark.{Mark}
use Rattle.plan_machine.specs.Orderly.{holds_by}
use Rattle.plan_status.specs.declared.consoles.Consoles.{Consoles}
use Rattle.plan_status.specs.Trues.{trues}

-- a pool has the name `console`
abbrev pub is_console_name : Option Pool → Bool
is_console_name (Some pool) = bytes_eq pool.name (codes "console")
is_console_name None = false

abbrev pub is_console_pool : Parts → Option ℕ → Bool
is_console_pool p (Some pool) = is_console_name (slice_get p.pools pool)
is_console_pool p None = false

-- an edge's pool has that name
abbrev pub is_console : Parts → ℕ → Bool
is_console p e = is_console_pool p (pool_of p e)

-- after these marks no console edge holds a job token: its command has ended or has not begun
abbrev pub IsFree : Parts → List Mark → Type 0
IsFree p marks = (e : ℕ) → is_console p e ≡ true → holds_by marks e ≡ false

-- the greatest number of marks, from the first on, after which none does
pub record AreFree (p : Parts) (marks : List Mark) (n : ℕ) : Type 0 where
  pub within : n ≤ length marks
  pub free : IsFree p (take n marks)
  pub most : (k : ℕ) → n < k → k ≤ length marks → IsFree p (take k marks) → ⊥

-- ---- what is kept while marks come

-- which console edges hold job tokens after these marks, and the number of these edges
pub record AreNoted (p : Parts) (marks : List Mark) (c : Consoles) : Type 0 where
  pub all : length c.holding.items ≡ length p.edges
  pub holding : (e : ℕ) → is_console p e ≡ true → get_or c.holding.items e false ≡ holds_by marks e
  pub others : (e : ℕ) → is_console p e ≡ false → get_or c.holding.items e false ≡ false
  pub held : c.held ≡ trues c.holding.items

-- the first `looked` of these marks are noted, of which `free` are free
pub record HasLooked (p : Parts) (marks : List Mark) (c : Consoles) : Type 0 where
  pub within : c.looked ≤ length marks
  pub noted : AreNoted p (take c.looked marks) c
  pub free : AreFree p (take c.looked marks) c.free
