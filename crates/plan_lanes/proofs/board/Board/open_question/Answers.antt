use Rattle.std.proofs.Common.{subst, sym}
use Rattle.plan_lanes.specs.Proceeds.{AwaitsReply}
use Rattle.plan_lanes.specs.Progress.{Progress, progress}
use Rattle.plan_lanes.proofs.ListLemmas.{none_within}
use Rattle.plan_lanes.proofs.board.Board.open_question.Goals as goal

pub unreachable-requires : goal.unreachable-requires
unreachable-requires g c =
    let b = c.self.inside in
    let awaits : AwaitsReply (progress b.image.now b.targets.items b.state.run_state b.journal_builder.events b.marks.items) c.args.edge = subst (λ (v : Progress). AwaitsReply v c.args.edge) (sym c.self.view_is) c.requires in
    let known = c.self.invariant.numbered c.args.edge awaits.0 awaits.1 in
    none_within b.numbers.items c.deref.result.now c.args.edge known.0 known.1 c.deref.ensures.value c.in-None.ensures.lookup.0
