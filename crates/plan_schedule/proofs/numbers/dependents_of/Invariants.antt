use Rattle.std.proofs.Common.{◌≡◌, ◌<◌, ◌≤◌, [], ℕ, get_or, length}
use Rattle.std.specs.Prelude.{All}
use Rattle.plan_schedule.specs.BucketContents.{bucket_len}
use Rattle.plan_schedule.proofs.numbers.dependents_of.Given as goal

abbrev pub invariant-loop-row : goal.invariant-loop-row
invariant-loop-row l = record {
  edge : l.edge ≡ l.row-index;
  len : length l.rows.items ≡ length l.waits;
  kept : (w : ℕ) → w < length l.waits → All (λ u. u < length l.waits) (get_or l.rows.items w []);
  done : (e w : ℕ) → e < l.edge → w < length l.waits → bucket_len e (get_or l.rows.items w []) ≡ bucket_len w (get_or l.waits e []);
  open_yet : (e w : ℕ) → l.edge ≤ e → w < length l.waits → bucket_len e (get_or l.rows.items w []) ≡ 0;
}
