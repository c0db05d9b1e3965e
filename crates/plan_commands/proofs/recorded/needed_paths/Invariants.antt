use Rattle.std.proofs.Common.{take}
use Rattle.std.specs.Prelude.{All}
use Rattle.plan_commands.specs.Recorded.{AreSome, IsMadeIn, MayLeaveIn}
use Rattle.plan_commands.proofs.recorded.needed_paths.Given as goal

abbrev pub invariant-loop-number : goal.invariant-loop-number
invariant-loop-number l = AreSome (MayLeaveIn l.graph l.cycle l.addition.edge) (take l.number l.addition.order_only) l.kept × All (IsMadeIn l.graph l.addition.edge) l.kept
