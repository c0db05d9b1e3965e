use Rattle.plan_commands.proofs.SourcesLemmas.{all_found}
use Rattle.plan_commands.proofs.sources.lack_by_two.Goals as goal

pub returns-in-None : goal.returns-in-None
returns-in-None g c =
    all_found g.W.World.allows c.args.image.now c.args.wanted.now c.args.from c.middle_of-middle.result c.args.to c.lacks_apart-first.result.0 c.lacks_apart-first.result.1 c.in_ok-lack.field-0 c.in_ok-lack.was c.in-None.is c.lacks_apart-first.ensures.first c.lacks_apart-first.ensures.second
