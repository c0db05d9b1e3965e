use Rattle.std.proofs.Common.{◌≡◌, ◌<◌, ◌++◌, [], ℕ, get_or, length, take}
use Rattle.std.specs.Prelude.{replicate}
use Rattle.plan_schedule.specs.BucketContents.{bucket_len}
use Rattle.plan_schedule.proofs.numbers.add.Given as goal

abbrev pub invariant-loop-wait : goal.invariant-loop-wait
invariant-loop-wait l = record {
  len : length l.rows.items ≡ length l.fn.rows.items;
  rows : (w : ℕ) → w < length l.fn.rows.items → get_or l.rows.items w [] ≡ get_or l.fn.rows.items w [] ++ replicate (bucket_len w (take l.wait-index l.waits)) l.edge;
}
