use Rattle.plan_compile.proofs.FactLemmas.{layouts_are_facts}
use Rattle.plan_compile.proofs.image_laws.layouts_are_facts.Goals as goal

pub returns : goal.returns
returns c = layouts_are_facts
