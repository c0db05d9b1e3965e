use Rattle.plan_compile.proofs.LoadedLemmas.{inputs_are_loaded}
use Rattle.plan_compile.proofs.image_laws.inputs_are_loaded.Goals as goal

pub returns : goal.returns
returns c = inputs_are_loaded c.split_law.ensures.split
