use Rattle.std.proofs.Common.{◌∙◌, sym}
use Rattle.plan_image.proofs.BodyLemmas.{filled_len}
use Rattle.plan_image.proofs.body.Body.filled_len.Goals as goal

pub returns : goal.returns
returns c = c.len.ensures ∙ sym (filled_len c.args.self.now c.args._numbers.now)
