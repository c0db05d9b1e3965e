use Rattle.plan_commands.proofs.SourcesLemmas.{all_there}
use Rattle.plan_commands.proofs.sources.check_sources.Goals as goal

pub returns-in-Ok-None-clause-has : goal.returns-in-Ok-None-clause-has
returns-in-Ok-None-clause-has g c =
    all_there g.W.World.allows c.args.image.now c.image.result.now c.parts.result.now c.args.targets.now c.in-Ok.wanted.items c.deref.result.now c.in-Ok-None.field-0
    c.image.ensures.same c.parts.ensures.tables c.in-Ok.ensures c.deref.ensures.value c.in-Ok-None.ensures c.in-Ok-None.field-0-is
