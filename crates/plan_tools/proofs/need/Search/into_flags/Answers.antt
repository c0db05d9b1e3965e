use Rattle.std.proofs.Common.{Bool, List, ap, sym, subst}
use Rattle.plan_tools.specs.Need.{AreNeededFlags, IsSearch, Reached}
use Rattle.plan_tools.proofs.NeedLemmas.{all_needed}
use Rattle.plan_tools.proofs.need.Search.into_flags.Goals as goal

pub returns : goal.returns
returns c =
    let is : IsSearch c.args.self = subst IsSearch c.self.view_is c.self.invariant in
    subst (λ (met : List Bool). AreNeededFlags c.args.self.graph c.args.self.targets met) (ap (λ (r : Reached). r.met) (sym c.self.view_is))
    (all_needed c.args.self is c.requires.targets c.requires.queue)
