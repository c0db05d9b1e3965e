use Rattle.std.proofs.Common.{◌≡◌, ◌≤◌, ℕ, List, length, take, subst, arith}
use Rattle.std.specs.Prelude.{All}
use Rattle.std.proofs.lemmas.List.{take_all}
use Rattle.std.proofs.lemmas.List.Elements.{All-more}
use Rattle.plan_tools.specs.Order.{is_done}
use Rattle.plan_tools.proofs.order.check_all_done.Goals as goal

pub loop-edge-preserved : goal.loop-edge-preserved
loop-edge-preserved c = All-more (is_done c.args.done.now) c.args.edges.now c.loop-edge.edge-index 0 c.loop-edge-test.true c.loop-edge.invariant c.in_ok-check_done.ensures

pub returns : goal.returns
returns c =
    let past : length c.args.edges.now ≤ c.loop-edge.edge-index = omega (arith, c.loop-edge-test.false) in
    subst (All (is_done c.args.done.now)) (take_all c.loop-edge.edge-index c.args.edges.now past) c.loop-edge.invariant
