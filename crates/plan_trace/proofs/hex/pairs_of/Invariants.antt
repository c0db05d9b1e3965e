use Rattle.std.proofs.Common.{◌≡◌, length}
use Rattle.plan_trace.specs.Words.{pairs_of}
use Rattle.plan_trace.proofs.WordsLemmas.{behind}
use Rattle.plan_trace.proofs.hex.pairs_of.Given as goal

abbrev pub invariant-loop-high : goal.invariant-loop-high
invariant-loop-high l = behind l.bytes.items (pairs_of l.rest) ≡ pairs_of l.digits

abbrev pub decreases-loop-high : goal.decreases-loop-high
decreases-loop-high l = length l.rest
