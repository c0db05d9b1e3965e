use Rattle.plan_commands.proofs.SourcesLemmas.{all_found}
use Rattle.plan_commands.proofs.sources.lack_by_four.Goals as goal

pub returns-in-None : goal.returns-in-None
returns-in-None g c =
    all_found g.W.World.allows c.args.image.now c.args.wanted.now 0 c.middle_of.result c.args.to c.lacks_farther-first.result.0 c.lacks_farther-first.result.1 c.in_ok-lack.field-0 c.in_ok-lack.was c.in-None.is c.lacks_farther-first.ensures.first c.lacks_farther-first.ensures.second
