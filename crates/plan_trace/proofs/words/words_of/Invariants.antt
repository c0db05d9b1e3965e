use Rattle.std.proofs.Common.{◌≡◌, ◌++◌, length, map}
use Rattle.plan_trace.specs.Words.{parts_at}
use Rattle.plan_trace.proofs.words.words_of.Given as goal

abbrev pub invariant-loop-word : goal.invariant-loop-word
invariant-loop-word l = map (λ word. word.now) l.words.items ++ parts_at 32 l.rest ≡ parts_at 32 l.line

abbrev pub decreases-loop-word : goal.decreases-loop-word
decreases-loop-word l = length l.rest
