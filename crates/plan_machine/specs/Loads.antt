-- The slots that the code of an edge loads.
use Rattle.std.specs.Prelude.{ℕ, List, [], ◌∷◌, ◌++◌, slice_get}
use Rattle.plan_image.specs.declared.body.Instr.{Instr}
use Rattle.plan_image.specs.declared.body.Instr.TheVariants as op
use Rattle.plan_image.specs.declared.image.Parts.{Parts}
use Rattle.plan_image.specs.Code.{code}
use Rattle.plan_verify.specs.Turn.{Slots}
use Rattle.plan_machine.specs.declared.run.loads.LoadedSlot.{LoadedSlot}
use Rattle.plan_machine.specs.State.{State}
use Rattle.plan_machine.specs.Working.{filling}

-- the slot that an instruction loads, with its value
abbrev pub load_of : Slots → Instr → List LoadedSlot
load_of slots (op.Load k) = record { number = k; value = filling (slice_get slots k) } ∷ []
load_of slots _ = []

-- those of many instructions, in their order
abbrev pub loads_in : Slots → List Instr → List LoadedSlot
loads_in slots [] = []
loads_in slots (instr ∷ instrs) = load_of slots instr ++ loads_in slots instrs

-- The slots that the code of an edge loads, in its order, as they are in a state. Each is the edge's own or one of an
-- edge that it waits for (plan_verify, Shape: `bad_slot`).
abbrev pub loads_of : Parts → State → ℕ → List LoadedSlot
loads_of p s e = loads_in s.slots (code p e)
