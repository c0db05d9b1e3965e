use Rattle.std.proofs.Common.{◌≡◌, ◌+◌, ◌<◌, ◌∙◌, refl, suc, arith}
use Rattle.plan_commands.specs.Showing.{by_format}
use Rattle.plan_commands.proofs.BuildingLemmas.{no_rounds, round_so, err_so, on_ok, files_stay, then_remade, then_fails, then_idle, then_stops, all_built, all_stopped}
use Rattle.plan_commands.proofs.building.build_in_rounds.Goals as goal

pub loop-init : goal.loop-init
loop-init g c = (refl, no_rounds (g.S.Source.gives c.args.source.now) (g.S.Source.fails c.args.source.now) (g.S.Source.failures c.args.source.now) (by_format g.F.Format.kept g.F.Format.tells (g.F.Format.kept c.args.printer.format)) g.W.World.allows _ _)

pub returns-in-Ok-Failed-clause-done : goal.returns-in-Ok-Failed-clause-done
returns-in-Ok-Failed-clause-done g c =
    let few : c.loop.counter < 100 = omega (arith, c.loop-test.true) in
    then_fails _ _ _ _ _ _ _ _ _ _ _ _ c.loop.invariant.1 _ few (round_so _ c.update_manifest-round.result.0 c.in-Ok-Failed.field-0 _ c.in-Ok-Failed.is c.in-Ok-Failed.field-0-is (c.update_manifest-round.ensures.round _ c.loop.invariant.0))

pub returns-in-Ok-NothingToDo-clause-done : goal.returns-in-Ok-NothingToDo-clause-done
returns-in-Ok-NothingToDo-clause-done g c =
    let few : c.loop.counter < 100 = omega (arith, c.loop-test.true) in
    then_idle _ _ _ _ _ _ _ _ _ _ _ _ c.loop.invariant.1 _ few (round_so _ c.update_manifest-round.result.0 c.in-Ok-NothingToDo.field-0 _ c.in-Ok-NothingToDo.is c.in-Ok-NothingToDo.field-0-is (c.update_manifest-round.ensures.round _ c.loop.invariant.0))

pub returns-in-Ok-NothingToDo-clause-same : goal.returns-in-Ok-NothingToDo-clause-same
returns-in-Ok-NothingToDo-clause-same g c = files_stay _ _ _ _ _ _ _ _ _ _ _ _ c.loop.invariant.1 _ _ c.update_manifest-round.ensures.same

pub returns-in-Ok-Failed-clause-same : goal.returns-in-Ok-Failed-clause-same
returns-in-Ok-Failed-clause-same g c = files_stay _ _ _ _ _ _ _ _ _ _ _ _ c.loop.invariant.1 _ _ c.update_manifest-round.ensures.same

pub returns-in-Ok-UpToDate-clause-same : goal.returns-in-Ok-UpToDate-clause-same
returns-in-Ok-UpToDate-clause-same g c = files_stay _ _ _ _ _ _ _ _ _ _ _ _ c.loop.invariant.1 _ _ c.update_manifest-round.ensures.same

pub returns-in-Err-clause-same : goal.returns-in-Err-clause-same
returns-in-Err-clause-same g c = files_stay _ _ _ _ _ _ _ _ _ _ _ _ c.loop.invariant.1 _ _ c.update_manifest-round.ensures.same

pub returns-in-Ok-UpToDate-clause-done : goal.returns-in-Ok-UpToDate-clause-done
returns-in-Ok-UpToDate-clause-done g c =
    let few : c.loop.counter < 100 = omega (arith, c.loop-test.true) in
    all_built _ _ _ _ _ _ _ _ _ _ _ _ c.loop.invariant.1 c.in-Ok-UpToDate.image _ _ c.build_targets.result.0 few
    (round_so _ c.update_manifest-round.result.0 c.in-Ok-UpToDate.field-0 _ c.in-Ok-UpToDate.is c.in-Ok-UpToDate.field-0-is (c.update_manifest-round.ensures.round _ c.loop.invariant.0)) (c.build_targets.ensures.done _ (c.update_manifest-round.ensures.format ∙ c.loop.invariant.0))

pub returns-in-Ok-UpToDate-clause-refused : goal.returns-in-Ok-UpToDate-clause-refused
returns-in-Ok-UpToDate-clause-refused g c =
    let few : c.loop.counter < 100 = omega (arith, c.loop-test.true) in
    all_stopped _ _ _ _ _ _ _ _ _ _ _ _ c.loop.invariant.1 _ c.in-Ok-UpToDate.image _ _ c.build_targets.result.0 few
    (round_so _ c.update_manifest-round.result.0 c.in-Ok-UpToDate.field-0 _ c.in-Ok-UpToDate.is c.in-Ok-UpToDate.field-0-is (c.update_manifest-round.ensures.round _ c.loop.invariant.0)) (c.build_targets.ensures.refused _ (c.update_manifest-round.ensures.format ∙ c.loop.invariant.0))

pub returns-in-Err-clause-refused : goal.returns-in-Err-clause-refused
returns-in-Err-clause-refused g c =
    let few : c.loop.counter < 100 = omega (arith, c.loop-test.true) in
    then_stops _ _ _ _ _ _ _ _ _ _ _ _ c.loop.invariant.1 (g.S.Source.failures c.update_manifest-round.new.source) _ c.in-Err.fault few
    (err_so _ c.update_manifest-round.result.0 c.in-Err.fault c.in-Err.is (c.update_manifest-round.ensures.refused _ c.loop.invariant.0))

pub loop-preserved : goal.loop-preserved
loop-preserved g c =
    let same : c.loop.counter + 1 ≡ suc c.loop.counter = omega arith in
    rw same (
      c.update_manifest-round.ensures.format ∙ c.loop.invariant.0,
      then_remade _ _ _ _ _ _ _ _ _ _ _ _ c.loop.invariant.1 _ _ _ _
          (round_so _ c.update_manifest-round.result.0 c.in-Ok-Remade.field-0 _ c.in-Ok-Remade.is c.in-Ok-Remade.field-0-is (c.update_manifest-round.ensures.round _ c.loop.invariant.0)) c.update_manifest-round.ensures.same
          (on_ok _ c.update_manifest-round.result.0 c.in-Ok-Remade.field-0 c.in-Ok-Remade.is c.update_manifest-round.ensures.whole),
    )
