use Rattle.std.proofs.Common.{inl, inr, refl}
use Rattle.plan_commands.proofs.BuildingLemmas.{err_so, round_so}
use Rattle.plan_commands.proofs.DryLemmas.{previewed, stopped}
use Rattle.plan_commands.specs.Dry.{dry_rule}
use Rattle.plan_commands.specs.Showing.{by_format}
use Rattle.plan_commands.proofs.dry.build_dry.Goals as goal

pub returns-in-Ok-Remade-clause-done : goal.returns-in-Ok-Remade-clause-done
returns-in-Ok-Remade-clause-done g c =
    inl (round_so _ c.update_manifest-round.result.0 c.in-Ok-Remade.field-0 _ c.in-Ok-Remade.is c.in-Ok-Remade.field-0-is (c.update_manifest-round.ensures.round _ refl))

pub returns-in-Ok-Failed-clause-done : goal.returns-in-Ok-Failed-clause-done
returns-in-Ok-Failed-clause-done g c =
    round_so _ c.update_manifest-round.result.0 c.in-Ok-Failed.field-0 _ c.in-Ok-Failed.is c.in-Ok-Failed.field-0-is (c.update_manifest-round.ensures.round _ refl)

pub returns-in-Ok-NothingToDo-clause-done : goal.returns-in-Ok-NothingToDo-clause-done
returns-in-Ok-NothingToDo-clause-done g c =
    inr (round_so _ c.update_manifest-round.result.0 c.in-Ok-NothingToDo.field-0 _ c.in-Ok-NothingToDo.is c.in-Ok-NothingToDo.field-0-is (c.update_manifest-round.ensures.round _ refl))

pub returns-in-Ok-UpToDate-clause-done : goal.returns-in-Ok-UpToDate-clause-done
returns-in-Ok-UpToDate-clause-done g c =
    previewed (g.S.Source.gives c.args.source.now) (by_format g.F.Format.kept g.F.Format.tells (g.F.Format.kept c.args.printer.format)) (dry_rule g.W.World.allows) _ c.in-Ok-UpToDate.image _ _ _
    (round_so _ c.update_manifest-round.result.0 c.in-Ok-UpToDate.field-0 _ c.in-Ok-UpToDate.is c.in-Ok-UpToDate.field-0-is (c.update_manifest-round.ensures.round _ refl)) c.build_targets.result.0 (c.build_targets.ensures.done _ c.update_manifest-round.ensures.format)

pub returns-in-Ok-UpToDate-clause-refused : goal.returns-in-Ok-UpToDate-clause-refused
returns-in-Ok-UpToDate-clause-refused g c =
    stopped (g.S.Source.gives c.args.source.now) (by_format g.F.Format.kept g.F.Format.tells (g.F.Format.kept c.args.printer.format)) (dry_rule g.W.World.allows) _ c.in-Ok-UpToDate.image _ _ _
    (round_so _ c.update_manifest-round.result.0 c.in-Ok-UpToDate.field-0 _ c.in-Ok-UpToDate.is c.in-Ok-UpToDate.field-0-is (c.update_manifest-round.ensures.round _ refl)) _ c.build_targets.result.0 (c.build_targets.ensures.refused _ c.update_manifest-round.ensures.format)

pub returns-in-Err-clause-refused : goal.returns-in-Err-clause-refused
returns-in-Err-clause-refused g c =
    inl (err_so _ c.update_manifest-round.result.0 c.in-Err.fault c.in-Err.is (c.update_manifest-round.ensures.refused _ refl))
