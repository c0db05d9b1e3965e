use Rattle.std.proofs.Common.{◌≡◌, Bool, List, subst}
use Rattle.std.specs.Prelude.{All}
use Rattle.plan_tools.specs.Order.{IsBuildOrder, Walked, is_done}
use Rattle.plan_tools.proofs.OrderLemmas.{order_of, walked}
use Rattle.plan_tools.proofs.order.Walk.into_order.Goals as goal

pub returns : goal.returns
returns c =
    let w : Walked = walked c.self.inside.graph.now c.self.inside.targets.now c.self.inside.done.items c.self.inside.order.items c.self.inside.path.items in
    let all : All (is_done w.done) w.targets = subst (λ (flags : List Bool). All (is_done flags) w.targets) c.deref.ensures.value c.in_ok-check_all_done.ensures in
    subst (λ (v : Walked). IsBuildOrder v.graph v.targets c.self.inside.order.items) c.self.view_is (order_of w c.self.invariant all)
