use Rattle.plan_commands.specs.Showing.{by_format}
use Rattle.plan_commands.proofs.BuildRightLemmas.{idle_builds_are_right}
use Rattle.plan_commands.proofs.laws.idle_builds_are_right.Goals as goal

pub returns : goal.returns
returns g c = λ source kept. idle_builds_are_right (g.S.Source.gives source) (by_format g.F.Format.kept g.F.Format.tells kept) g.W.World.allows c.ends_are_plain.ensures
