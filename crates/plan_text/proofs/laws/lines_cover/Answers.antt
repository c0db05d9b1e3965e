use Rattle.plan_text.proofs.CoverLaw.{covers}
use Rattle.plan_text.proofs.laws.lines_cover.Goals as goal

pub returns : goal.returns
returns c text = covers 0 text
