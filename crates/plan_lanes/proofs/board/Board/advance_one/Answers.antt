use Rattle.std.proofs.Common.{refl}
use Rattle.plan_lanes.specs.Progress.{Progress, progress}
use Rattle.plan_lanes.proofs.LocalRunLemmas.{goes_none}
use Rattle.plan_lanes.proofs.StepLemmas.{awaits_so, ended_so, none_so}
use Rattle.plan_lanes.proofs.board.Board.advance_one.Goals as goal

pub returns-then-ended-clause-ok : goal.returns-then-ended-clause-ok
returns-then-ended-clause-ok g c =
    let b = c.self.inside in
    let v : Progress = progress b.image.now b.targets.items b.state.run_state b.journal_builder.events b.marks.items in
    (refl, ended_so v c.args.self.now c.ended.result c.self.view_is (c.ended.ensures b.image.now c.self.invariant.state) c.if-ended.true)

pub returns-in_default-clause-ok : goal.returns-in_default-clause-ok
returns-in_default-clause-ok g c =
    let b = c.self.inside in
    let v : Progress = progress b.image.now b.targets.items b.state.run_state b.journal_builder.events b.marks.items in
    (refl, none_so v c.args.self.now c.self.view_is c.in_default.ensures.none, awaits_so v c.args.self.now c.ended.result c.self.view_is (c.ended.ensures b.image.now c.self.invariant.state) c.if-ended.false c.in_default.ensures.waits)

pub returns-then-ended-clause-proceeds : goal.returns-then-ended-clause-proceeds
returns-then-ended-clause-proceeds g c =
    let b = c.self.inside in
    let v : Progress = progress b.image.now b.targets.items b.state.run_state b.journal_builder.events b.marks.items in
    (refl, ended_so v c.args.self.now c.ended.result c.self.view_is (c.ended.ensures b.image.now c.self.invariant.state) c.if-ended.true)

pub returns-in_default-clause-proceeds : goal.returns-in_default-clause-proceeds
returns-in_default-clause-proceeds g c =
    let b = c.self.inside in
    let v : Progress = progress b.image.now b.targets.items b.state.run_state b.journal_builder.events b.marks.items in
    (refl, (none_so v c.args.self.now c.self.view_is c.in_default.ensures.none, awaits_so v c.args.self.now c.ended.result c.self.view_is (c.ended.ensures b.image.now c.self.invariant.state) c.if-ended.false c.in_default.ensures.waits))

pub returns-then-ended-clause-goes : goal.returns-then-ended-clause-goes
returns-then-ended-clause-goes g c = goes_none c.args.self.now c.args.self.now refl

pub returns-in_default-clause-goes : goal.returns-in_default-clause-goes
returns-in_default-clause-goes g c = goes_none c.args.self.now c.args.self.now refl
