use Rattle.plan_commands.specs.Showing.{by_format}
use Rattle.plan_commands.proofs.BuildingLemmas.{not_checked, not_tried}
use Rattle.plan_commands.proofs.building.run_with_sources.Goals as goal

pub returns-in-Ok-clause-refused : goal.returns-in-Ok-clause-refused
returns-in-Ok-clause-refused g c = λ kept is.
    not_tried c.args.number (by_format g.F.Format.kept g.F.Format.tells kept) g.W.World.allows _ _ _ c.run_edges.result.0 (c.run_edges.ensures.refused kept is)

pub returns-in-Err-clause-refused : goal.returns-in-Err-clause-refused
returns-in-Err-clause-refused g c = λ kept is.
    not_checked c.args.number (by_format g.F.Format.kept g.F.Format.tells kept) g.W.World.allows _ _ c.in-Err.fault c.in-Err.ensures.refused
