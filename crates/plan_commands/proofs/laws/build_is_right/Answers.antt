use Rattle.plan_commands.specs.Showing.{by_format}
use Rattle.plan_commands.proofs.BuildRightLemmas.{build_is_right}
use Rattle.plan_commands.proofs.laws.build_is_right.Goals as goal

pub returns : goal.returns
returns g c = λ source kept. build_is_right (g.S.Source.gives source) (by_format g.F.Format.kept g.F.Format.tells kept) g.W.World.allows c.finished_runs_are_right.ensures
