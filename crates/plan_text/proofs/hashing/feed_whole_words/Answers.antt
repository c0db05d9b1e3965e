use Rattle.plan_text.proofs.HashWordsLemmas.{next_word}
use Rattle.plan_text.proofs.hashing.feed_whole_words.Goals as goal

pub loop-number-preserved : goal.loop-number-preserved
loop-number-preserved g c = next_word g.H.Hasher.write c.args.state.now c.loop-number.state c.write.new.self c.args.text.now c.loop-number.number c.loop-number.invariant c.write.ensures
