use Rattle.plan_compile.proofs.SoundLemmas.{sound}
use Rattle.plan_compile.proofs.image_laws.manifests_are_sound.Goals as goal

pub returns : goal.returns
returns c = λ rule m g whole graph.
    sound rule m g graph c.files_complete.ensures c.producers_waited.ensures c.ranks_rise.ensures c.waits_ascend.ensures c.defaults_ascend.ensures whole
