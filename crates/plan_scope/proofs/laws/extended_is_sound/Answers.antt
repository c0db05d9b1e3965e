use Rattle.plan_scope.proofs.ExtendedLemmas.{extended_sound}
use Rattle.plan_scope.proofs.laws.extended_is_sound.Goals as goal

pub returns : goal.returns
returns c = extended_sound
