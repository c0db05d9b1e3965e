use Rattle.plan_parse.proofs.JoinLaw.{joined}
use Rattle.plan_parse.proofs.laws.statements_join.Goals as goal

pub returns : goal.returns
returns c front back xs ys is_ended begins short first second = joined c.lines_join.ensures front back xs ys is_ended begins short first second
