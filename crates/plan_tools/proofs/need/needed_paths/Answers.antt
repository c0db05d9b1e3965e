use Rattle.std.proofs.Common.{List, ℕ, get_or, sym, subst}
use Rattle.std.specs.Prelude.{Contains}
use Rattle.std.proofs.lemmas.List.Elements.{Contains-get_or}
use Rattle.plan_tools.specs.Need.{target}
use Rattle.plan_tools.proofs.need.needed_paths.Goals as goal

pub meet_all-requires : goal.meet_all-requires
meet_all-requires c k d below =
    let targets : List ℕ = c.args.targets.now in
    target (subst (λ (ts : List ℕ). Contains ts (get_or targets k d)) (sym c.in_ok-search.ensures.targets) (Contains-get_or targets k d below))
