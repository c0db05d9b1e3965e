use Rattle.std.proofs.Common.{◌≡◌, ℕ, List, get_or, sym, subst}
use Rattle.std.specs.Prelude.{Contains}
use Rattle.std.proofs.lemmas.List.Elements.{Contains-get_or}
use Rattle.plan_tools.specs.Order.{IsNeeded, target}
use Rattle.plan_tools.proofs.order.build_order.Goals as goal

pub visit-requires : goal.visit-requires
visit-requires c =
    let targets : List ℕ = c.args.targets.now in
    let i : ℕ = c.loop-target.target-index in
    target (subst (λ (ts : List ℕ). Contains ts (get_or targets i 0)) (sym c.loop-target.invariant.1) (Contains-get_or targets i 0 c.loop-target-test.true))
