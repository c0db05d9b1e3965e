use Rattle.std.proofs.Common.{◌≡◌, ℕ, List, sym, subst}
use Rattle.plan_tools.specs.Order.{IsNeeded, Walked, input}
use Rattle.plan_tools.proofs.order.Walk.step.Goals as goal

pub enter-requires : goal.enter-requires
enter-requires c =
    let need : IsNeeded c.self.inside.graph.now c.self.inside.targets.now c.args.last = subst (λ (w : Walked). IsNeeded w.graph w.targets c.args.last) (sym c.self.view_is) c.requires in
    let made = c.in-Some.ensures in
    input need made.1 made.2
