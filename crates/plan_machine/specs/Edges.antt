-- The edge of an event.
use Rattle.std.specs.Prelude.{ℕ}
use Rattle.plan_machine.specs.declared.event.Event.{Event}
use Rattle.plan_machine.specs.declared.event.Event.TheVariants.{Start, Skip, Stop, Step, Reply}

abbrev pub edge_of : Event → ℕ
edge_of (Start e) = e
edge_of (Skip e w) = e
edge_of (Stop e) = e
edge_of (Step e) = e
edge_of (Reply e r) = e
