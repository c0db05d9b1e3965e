use Rattle.plan_scope.proofs.SoundLemmas.{manifest_sound}
use Rattle.plan_scope.proofs.laws.manifests_are_sound.Goals as goal

pub returns : goal.returns
returns c = manifest_sound c.canonical_stays.ensures
