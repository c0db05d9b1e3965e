use Rattle.std.proofs.Common.{IfSome, List, Option, ℕ, subst, sym}
use Rattle.std.specs.Prelude.{All}
use Rattle.plan_scope.specs.declared.edge.addition.Addition.{Addition}
use Rattle.plan_graph.specs.FurtherWaits.{ClosesCycle}
use Rattle.plan_graph.specs.declared.further_waits.Wait.{Wait}
use Rattle.plan_commands.specs.Recorded.{AreSome, IsRecalled, IsWaitOf, MayLeaveIn, paths_for}
use Rattle.plan_commands.proofs.RecordedLemmas.{leaves_cycle, recorded_recalled, recorded_some}
use Rattle.plan_commands.proofs.recorded.without_cycles.Goals as goal

pub loop-preserved : goal.loop-preserved
loop-preserved g c =
    let rule = g.W.World.allows in
    let m = c.args.manifest.now in
    let graph = c.args.graph.now in
    let old = c.loop.left.items in
    let new = c.in_ok-left-in-Some.left.items in
    let waits = c.in_ok-waits.waits.items in
    let cycle = c.as_slice-in-Some.result.now in
    let of : All (IsWaitOf graph old) waits = subst (λ (l : List Addition). All (IsWaitOf graph l) waits) c.deref-in-loop.ensures.value c.in_ok-waits.ensures in
    let some_cycle : ClosesCycle graph.waits c.deref-in-loop-2.result.now c.in-Some.cycle = subst (λ (o : Option (List ℕ)). IfSome o (λ es. ClosesCycle graph.waits c.deref-in-loop-2.result.now es)) c.in-Some.is c.in_ok-cycle.ensures in
    let closes : ClosesCycle graph.waits waits cycle = subst (ClosesCycle graph.waits waits) (sym c.as_slice-in-Some.ensures) (subst (λ (l : List Wait). ClosesCycle graph.waits l c.in-Some.cycle) c.deref-in-loop-2.ensures.value some_cycle) in
    recorded_some rule m graph (MayLeaveIn graph cycle) old new c.requires.graph (recorded_recalled rule m old c.loop.invariant)
    (leaves_cycle rule m graph old waits c.requires.graph c.loop.invariant of cycle closes)
    (λ e. subst (λ (l : List Addition). AreSome (MayLeaveIn graph cycle e) (paths_for e l) (paths_for e new)) c.deref-in-Some-2.ensures.value (c.in_ok-left-in-Some.ensures.some e))
    (λ k r. c.in_ok-left-in-Some.ensures.only k (subst (All (IsRecalled k)) (sym c.deref-in-Some-2.ensures.value) r))
