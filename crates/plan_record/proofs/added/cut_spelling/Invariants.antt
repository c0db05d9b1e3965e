use Rattle.std.proofs.Common.{◌≡◌, ◌≤◌, ◌<◌, ◌++◌, length}
use Rattle.plan_chunks.specs.Joining.{AreBelow, Keeps, joined}
use Rattle.plan_record.proofs.added.cut_spelling.Given as goal

-- The chunks so far, followed by the rest, are the spelling.
abbrev pub invariant-loop-rest : goal.invariant-loop-rest
invariant-loop-rest l = record {
  so_far : joined l.chunks l.numbers.items ++ l.rest ≡ l.spelling;
  below : AreBelow (length l.chunks) l.numbers.items;
  keeps : Keeps l.fn.chunks l.chunks;
  within : l.len ≤ length l.rest;
  some : 0 < length l.rest → 0 < l.len;
}

abbrev pub decreases-loop-rest : goal.decreases-loop-rest
decreases-loop-rest l = length l.rest
