use Rattle.plan_text.proofs.HashWordsLemmas.{last_word}
use Rattle.plan_text.proofs.hashing.feed_words.Goals as goal

pub returns : goal.returns
returns g c = last_word g.H.Hasher.write c.args.state.now c.feed_whole_words.new.state c.write.new.self c.args.text.now c.feed_whole_words.ensures c.write.ensures
