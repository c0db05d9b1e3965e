use Rattle.plan_text.proofs.PieceReaderLemmas.{plain_pieces}
use Rattle.plan_text.proofs.laws.plain_is_read.Goals as goal

pub returns : goal.returns
returns c mode at text plain = plain_pieces mode at text plain
