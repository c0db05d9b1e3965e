use Rattle.plan_parse.proofs.WholeLaw.{all_whole}
use Rattle.plan_parse.proofs.laws.statements_are_whole.Goals as goal

pub returns : goal.returns
returns c text statements e = all_whole text statements e
