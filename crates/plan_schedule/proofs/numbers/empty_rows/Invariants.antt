use Rattle.std.proofs.Common.{◌≡◌, [], ℕ, get_or, length}
use Rattle.plan_schedule.proofs.numbers.empty_rows.Given as goal

abbrev pub invariant-loop-i : goal.invariant-loop-i
invariant-loop-i l = (length l.rows.items ≡ l.i) × ((w : ℕ) → get_or l.rows.items w [] ≡ [])
