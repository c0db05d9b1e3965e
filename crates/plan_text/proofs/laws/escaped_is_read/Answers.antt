use Rattle.plan_text.proofs.EscapeLaw.{escaped_read}
use Rattle.plan_text.proofs.laws.escaped_is_read.Goals as goal

pub returns : goal.returns
returns c mode bytes h = escaped_read mode 0 bytes h
