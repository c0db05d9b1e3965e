-- A running edge that has no values.
use Rattle.std.specs.Prelude.{false, []}
use Rattle.plan_verify.specs.Turn.{Local}
use Rattle.plan_machine.specs.declared.edge.status.Parked.{Parked}

-- it awaits no reply
abbrev pub parked_local : Parked → Local
parked_local r = record { place = r.place; stack = []; holding = r.holding; ran = r.ran; asked = false }
