use Rattle.std.proofs.Common.{ℕ, ◌<◌, [], get_or}
use Rattle.plan_world.specs.Askable.{IsAskable}
use Rattle.plan_world.proofs.askable.are_rows_askable.Given as goal

-- the system can be asked about the paths so far
abbrev pub invariant-loop-number : goal.invariant-loop-number
invariant-loop-number l = (number : ℕ) → number < l.number → IsAskable (get_or l.paths number [])
