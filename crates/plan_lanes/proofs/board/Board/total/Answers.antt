use Rattle.std.proofs.Common.{subst, sym}
use Rattle.plan_machine.specs.Total.{total_of}
use Rattle.plan_lanes.specs.Progress.{Progress, progress}
use Rattle.plan_lanes.specs.Reports.{IsTotalOf}
use Rattle.plan_lanes.proofs.TotalLemmas.{total_for_all}
use Rattle.plan_lanes.proofs.board.Board.total.Goals as goal

pub returns-clause-all : goal.returns-clause-all
returns-clause-all g c =
    let b = c.self.inside in
    let p : Progress = progress b.image.now b.targets.items b.state.run_state b.journal_builder.events b.marks.items in
    let so_far : IsTotalOf g.W.World.allows p.opened (total_of p.opened.parts p.state) = total_for_all g.W.World.allows b.numbers.items b.state p c.self.invariant in
    let counted = c.total.ensures b.image.now c.self.invariant.state in
    subst (λ (q : Progress). IsTotalOf g.W.World.allows q.opened c.total.result) c.self.view_is (subst (IsTotalOf g.W.World.allows p.opened) (sym counted) so_far)
