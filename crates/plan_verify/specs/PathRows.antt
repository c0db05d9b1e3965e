-- The storage of a list of paths.
use Rattle.std.specs.Prelude.{ℕ, List}
use Rattle.plan_verify.specs.declared.value.PathRows.{PathRows}
use Rattle.plan_verify.specs.declared.value.PathRows.TheVariants.{Own, Shared}

-- the paths
abbrev pub rows_in : PathRows → List (List ℕ)
rows_in (Own rows) = rows
rows_in (Shared rows) = rows
