use Rattle.std.proofs.Common.{◌≡◌, drop}
use Rattle.plan_commands.specs.Explaining.{value_in}
use Rattle.plan_commands.proofs.explaining.value_in.Given as goal

abbrev pub invariant-loop-loaded : goal.invariant-loop-loaded
invariant-loop-loaded l = value_in (drop l.loaded-index l.slots) l.number ≡ value_in l.slots l.number
