use Rattle.plan_commands.specs.MakerMaps.{AreMakers}
use Rattle.plan_commands.proofs.targets.all_makers.Given as goal

abbrev pub invariant-loop-number : goal.invariant-loop-number
invariant-loop-number l = AreMakers l.image l.number l.makers
