-- The turn that the code made, by its result and the edge after it.
use Rattle.std.specs.Prelude.{◌≡◌, ℕ, Some, slice_set}
use Rattle.plan_verify.specs.declared.value.Value.{Value}
use Rattle.plan_machine.specs.declared.edge.turns.Turned.{Turned}
use Rattle.plan_machine.specs.declared.edge.turns.Turned.TheVariants as turned
use Rattle.plan_verify.specs.Turn.{Slots, Local, Request, Turn, Goes, Sets, Moved, Took, Released, Asks, Ends, Fails}
use Rattle.plan_verify.specs.Sound.{asking}

-- a turn that sets no slot: its result, and the edge before and after
abbrev pub IsMade : Turned → Local → Local → Turn → Type 0
IsMade turned.Moved old new t = t ≡ Goes Moved new
IsMade turned.Stored old new t = ⊥
IsMade turned.Took old new t = t ≡ Goes Took new
IsMade turned.Released old new t = t ≡ Goes Released new
IsMade turned.Asked old new t = (q : Request) × (t ≡ Asks q) × (new ≡ asking old)
IsMade turned.Ended old new t = (t ≡ Ends) × (new ≡ old)
IsMade (turned.Failed cause) old new t = t ≡ Fails cause

-- a turn, with the slots before and after
abbrev pub IsTurned : Turned → Local → Local → Slots → Slots → Turn → Type 0
IsTurned turned.Stored old new slots after t = (k : ℕ) × (v : Value) × (t ≡ Sets k v new) × (after ≡ slice_set slots k (Some v))
IsTurned r old new slots after t = IsMade r old new t × (after ≡ slots)
