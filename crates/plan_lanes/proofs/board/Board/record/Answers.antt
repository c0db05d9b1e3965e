use Rattle.std.proofs.Common.{subst, sym, refl}
use Rattle.plan_lanes.specs.Boards.{MayJournal}
use Rattle.plan_lanes.specs.Progress.{Progress, progress}
use Rattle.plan_lanes.proofs.BoardLemmas.{kept_more}
use Rattle.plan_lanes.proofs.board.Board.record.Goals as goal

pub invariant_of-self-in-Ok : goal.invariant_of-self-in-Ok
invariant_of-self-in-Ok g c =
    let b = c.self.inside in
    let p : Progress = progress b.image.now b.targets.items b.state.run_state b.journal_builder.events b.marks.items in
    rw (c.keep.ensures, c.put.ensures, c.reserve.ensures.items, c.edge_of-edge.ensures, c.len-number.ensures, c.in_ok-push.ensures.ok)
    (kept_more g.W.World.allows b.numbers.items b.state c.apply.new.self p c.args.event c.in-Ok.mark c.self.invariant (subst (λ (v : Progress). MayJournal g.W.World.allows v c.args.event) (sym c.self.view_is) c.requires)
    refl c.in-Ok.ensures.applied.0 c.in-Ok.ensures.applied.1 c.in-Ok.ensures.state)
