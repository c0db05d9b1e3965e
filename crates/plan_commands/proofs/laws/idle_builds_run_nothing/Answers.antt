use Rattle.plan_commands.specs.Showing.{by_format}
use Rattle.plan_commands.proofs.BuildRightLemmas.{idle_builds_run_nothing}
use Rattle.plan_commands.proofs.laws.idle_builds_run_nothing.Goals as goal

pub returns : goal.returns
returns g c = λ source kept. idle_builds_run_nothing (g.S.Source.gives source) (by_format g.F.Format.kept g.F.Format.tells kept) g.W.World.allows c.commands_run_once.ensures
