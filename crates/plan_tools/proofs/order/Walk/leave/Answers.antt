use Rattle.std.proofs.Common.{◌≡◌, ◌<◌, [], ℕ, Bool, true, false, List, length, get_or, sym, subst, set}
use Rattle.std.specs.Prelude.{All}
use Rattle.std.proofs.lemmas.List.Elements.{All-pop}
use Rattle.plan_tools.specs.Order.{IsNeeded, IsWalk, Walked, is_done}
use Rattle.plan_tools.proofs.OrderLemmas.{left, on_path, walked}
use Rattle.plan_tools.proofs.order.Walk.leave.Goals as goal

pub invariant_of-self-in_err-push : goal.invariant_of-self-in_err-push
invariant_of-self-in_err-push c =
    let g = c.self.inside.graph.now in
    let targets : List ℕ = c.self.inside.targets.now in
    let done : List Bool = c.self.inside.done.items in
    let order : List ℕ = c.self.inside.order.items in
    let shorter : List ℕ = c.pop.new.self.items in
    let begun = (All-pop (IsNeeded g targets) c.self.inside.path.items shorter c.pop.result c.pop.ensures.items c.self.invariant.begun).0 in
    subst (λ (es : List ℕ). IsWalk (walked g targets done es shorter)) (sym c.in_err-push.ensures.items) (on_path g targets done order c.self.inside.path.items shorter c.self.invariant begun)

pub invariant_of-self-2 : goal.invariant_of-self-2
invariant_of-self-2 c =
    let g = c.self.inside.graph.now in
    let targets : List ℕ = c.self.inside.targets.now in
    let done : List Bool = c.self.inside.done.items in
    let order : List ℕ = c.self.inside.order.items in
    let shorter : List ℕ = c.pop.new.self.items in
    let last : ℕ = c.args.last in
    let begun = (All-pop (IsNeeded g targets) c.self.inside.path.items shorter c.pop.result c.pop.ensures.items c.self.invariant.begun).0 in
    let need : IsNeeded g targets last = subst (λ (w : Walked). IsNeeded w.graph w.targets last) (sym c.self.view_is) c.requires in
    let all : All (is_done done) c.row.result.now = subst (λ (flags : List Bool). All (is_done flags) c.row.result.now) c.deref-2.ensures.value c.in_ok-check_all_done.ensures in
    let waits : All (is_done done) (get_or g.waits last []) = subst (All (is_done done)) c.row.ensures all in
    let within : last < length done = subst (λ (flags : List Bool). last < length flags) c.deref.ensures.value c.in_ok-check_left.ensures.within in
    let fresh : get_or done last false ≡ false = subst (λ (flags : List Bool). get_or flags last false ≡ false) c.deref.ensures.value c.in_ok-check_left.ensures.fresh in
    subst (λ (es : List ℕ). IsWalk (walked g targets (set done last true) es shorter)) (sym c.in_ok-push.ensures.items)
    (left g targets done order c.self.inside.path.items shorter last c.self.invariant begun need within fresh waits)
