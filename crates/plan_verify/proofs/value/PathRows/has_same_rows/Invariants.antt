use Rattle.std.proofs.Common.{◌≡◌, ◌<◌, ℕ, []}
use Rattle.std.specs.Prelude.{get_or}
use Rattle.plan_verify.specs.PathRows.{rows_in}
use Rattle.plan_verify.proofs.value.PathRows.has_same_rows.Given as goal

abbrev pub invariant-loop-number : goal.invariant-loop-number
invariant-loop-number l = (k : ℕ) → k < l.number → get_or (rows_in l.self) k [] ≡ get_or (rows_in l.other) k []
