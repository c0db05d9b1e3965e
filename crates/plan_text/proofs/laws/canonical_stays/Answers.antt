use Rattle.plan_text.proofs.CanonicalLaw.{stays}
use Rattle.plan_text.proofs.laws.canonical_stays.Goals as goal

pub returns : goal.returns
returns c path form e = stays path form e
