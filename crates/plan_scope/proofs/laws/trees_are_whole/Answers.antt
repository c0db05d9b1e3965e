use Rattle.plan_scope.specs.Loading.{IsMissing}
use Rattle.plan_scope.proofs.TreeLemmas.{loaded_makes}
use Rattle.plan_scope.proofs.laws.trees_are_whole.Goals as goal

pub returns : goal.returns
returns g c source before now path statements loaded =
    let gives = g.S.Source.gives source in
    loaded_makes c.statements_are_whole.ensures gives (IsMissing gives (g.S.Source.fails source) before now) path statements loaded
