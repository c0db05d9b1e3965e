use Rattle.std.proofs.Common.{◌≡◌, subst}
use Rattle.plan_machine.specs.State.{has_ended}
use Rattle.plan_lanes.specs.Progress.{Progress, progress}
use Rattle.plan_lanes.proofs.board.Board.has_ended.Goals as goal

pub returns : goal.returns
returns g c =
    let b = c.self.inside in
    let p : Progress = progress b.image.now b.targets.items b.state.run_state b.journal_builder.events b.marks.items in
    let counted : c.ended.result ≡ has_ended p.state = c.ended.ensures b.image.now c.self.invariant.state in
    subst (λ (q : Progress). c.ended.result ≡ has_ended q.state) c.self.view_is counted
