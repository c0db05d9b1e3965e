use Rattle.std.proofs.Common.{◌≡◌, fold}
use Rattle.plan_text.specs.HashWords.{first_words}
use Rattle.plan_text.proofs.hashing.feed_whole_words.Given as goal

abbrev pub invariant-loop-number : goal.invariant-loop-number
invariant-loop-number g l = l.state ≡ fold g.H.Hasher.write l.fn.state (first_words l.text l.number)
