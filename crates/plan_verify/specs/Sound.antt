-- An edge whose values have the kinds of the shape at its place.
use Rattle.std.specs.Prelude.{◌≡◌, ℕ, true, false, List, [], length, map, Some, IsSome, IfSome, slice_get, slice_set}
use Rattle.std.specs.List.{list_all}
use Rattle.plan_image.specs.declared.body.Instr.{Instr}
use Rattle.plan_image.specs.declared.image.Parts.{Parts}
use Rattle.plan_image.specs.Code.{code}
use Rattle.plan_verify.specs.declared.value.Value.{Value}
use Rattle.plan_verify.specs.declared.kinds.Shape.{Shape}
use Rattle.plan_verify.specs.Members.{is_member}
use Rattle.plan_verify.specs.Tables.{owns, is_lent, own_slots, slot_kind}
use Rattle.plan_verify.specs.Turn.{kind_of, Slots, is_set, Local, Turn, Goes, Sets, Asks, Ends, Fails, Wrong, Meaning, Reply, turn, heard, question}
use Rattle.plan_verify.specs.WellShaped.{AreAllShapes}
use Rattle.plan_verify.specs.Fits.{Fits}

-- each slot that is set has a value of its kind
pub record AreTyped (p : Parts) (slots : Slots) : Type 0 where
  pub table : length slots ≡ length p.slots
  pub kinds : (s : ℕ) (v : Value) → slice_get slots s ≡ Some (Some v) → kind_of v ≡ slot_kind p s

-- the slots of the edges that this one waits for are set
abbrev pub AreLentSet : Parts → ℕ → Slots → Type 0
AreLentSet p e slots = (s : ℕ) → is_lent p e s ≡ true → is_set slots s ≡ true

-- an edge's own slots are set
abbrev pub AreOwnSet : Parts → ℕ → Slots → Type 0
AreOwnSet p e slots = list_all (is_set slots) (own_slots p e) ≡ true

-- the edge is as the shape at its place describes, and if it has asked, there is a question
pub record IsTyped (p : Parts) (e : ℕ) (shapes : List Shape) (slots : Slots) (l : Local) : Type 0 where
  pub shape : Shape
  pub here : slice_get shapes l.place ≡ Some shape
  pub inside : IsSome (slice_get (code p e) l.place)
  pub kinds : map kind_of l.stack ≡ shape.kinds
  pub holding : l.holding ≡ shape.holding
  pub set : (s : ℕ) → is_member s shape.set ≡ true → is_set slots s ≡ true
  pub awaits : l.asked ≡ true → IsSome (question p e slots l)

abbrev pub asking : Local → Local
asking l = record { place = l.place; stack = l.stack; holding = l.holding; ran = l.ran; asked = true }

-- A turn of this edge isn't wrong. If it goes on, the edge is typed again. If it sets a slot, the slot is its
-- own and gets a value of its kind. If it ends, nothing is left or held and all its slots are set.
abbrev pub IsSafe : Parts → ℕ → List Shape → Slots → Local → Turn → Type 0
IsSafe p e shapes slots l (Goes did m) = IsTyped p e shapes slots m
IsSafe p e shapes slots l (Sets s v m) = (owns p e s ≡ true) × (kind_of v ≡ slot_kind p s) × IsTyped p e shapes (slice_set slots s (Some v)) m
IsSafe p e shapes slots l (Asks q) = IsTyped p e shapes slots (asking l)
IsSafe p e shapes slots l Ends = (l.stack ≡ []) × (l.holding ≡ false) × AreOwnSet p e slots
IsSafe p e shapes slots l (Fails cause) = Unit {0}
IsSafe p e shapes slots l (Wrong flaw) = ⊥

-- ---- laws

-- in an edge with shapes each instruction fits its place
abbrev pub InstructionsFit : Type 0
InstructionsFit =
    (p : Parts) (e : ℕ) (shapes : List Shape) → AreAllShapes p e shapes
    → (place : ℕ) (i : Instr) (s : Shape) → slice_get (code p e) place ≡ Some i → slice_get shapes place ≡ Some s → Fits p e shapes place s i

-- a step of a typed edge is safe
abbrev pub StepsAreSafe : Type 0
StepsAreSafe =
    (p : Parts) (e : ℕ) (shapes : List Shape) → AreAllShapes p e shapes
    → (slots : Slots) (l : Local) → AreTyped p slots → AreLentSet p e slots → IsTyped p e shapes slots l → IsSafe p e shapes slots l (turn p e slots l)

-- the effect of a matching reply on a typed edge is safe
abbrev pub RepliesAreSafe : Type 0
RepliesAreSafe =
    (p : Parts) (e : ℕ) (shapes : List Shape) → AreAllShapes p e shapes
    → (slots : Slots) (l : Local) (meaning : Meaning) (r : Reply) → IsTyped p e shapes slots l → IfSome (heard meaning p e l r) (IsSafe p e shapes slots l)
