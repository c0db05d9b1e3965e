use Rattle.std.proofs.Common.{◌≡◌, None, Option, replicate}
use Rattle.plan_verify.specs.declared.value.Value.{Value}
use Rattle.plan_machine.proofs.run.machine.unset_slots.Given as goal

abbrev pub invariant-loop-i : goal.invariant-loop-i
invariant-loop-i l = l.slots.items ≡ replicate {A = Option Value} l._i None
