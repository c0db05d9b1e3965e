use Rattle.std.proofs.Common.{ℕ, take}
use Rattle.std.specs.Prelude.{All}
use Rattle.plan_commands.specs.Recorded.{AreSome, IsNeeded, IsRecalled, MayLeaveIn, paths_for}
use Rattle.plan_commands.proofs.recorded.needed.Given as goal

abbrev pub invariant-loop-number : goal.invariant-loop-number
invariant-loop-number l =
    ((e : ℕ) → AreSome (MayLeaveIn l.graph l.cycle e) (paths_for e (take l.number l.additions)) (paths_for e l.kept.items))
    × ((k : ℕ) → All (IsRecalled k) l.additions → All (IsNeeded l.graph k) l.kept.items)
