-- The value of a slot, as the code stores it.
use Rattle.std.specs.Prelude.{Option, Some, None}
use Rattle.plan_verify.specs.declared.value.Value.{Value}
use Rattle.plan_verify.specs.declared.value.Value.TheVariants.{Stamp, Flag, Text, Paths, Swept}
use Rattle.plan_machine.specs.declared.edge.stack.Stored.{Stored}
use Rattle.plan_machine.specs.declared.edge.stack.Stored.TheVariants as stored

abbrev pub value_of : Stored → Option Value
value_of stored.Unset = None
value_of (stored.Stamp n) = Some (Stamp n)
value_of (stored.Flag b) = Some (Flag b)
value_of (stored.Text t) = Some (Text t)
value_of (stored.Paths swept all) = Some (Paths swept all)
value_of (stored.Swept all) = Some (Swept all)
