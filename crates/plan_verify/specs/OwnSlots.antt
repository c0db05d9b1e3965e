-- The own slots of all edges, counted in one pass.
use Rattle.std.specs.Prelude.{◌≡◌, ℕ, ◌+◌, ◌≤◌, false, ◌||◌, List, [], ◌∷◌, length, drop, Some, ◌==◌, if◌then◌else◌, slice_get}
use Rattle.std.specs.List.{list_any}
use Rattle.plan_image.specs.declared.image.Slot.{Slot}
use Rattle.plan_image.specs.declared.image.Parts.{Parts}
use Rattle.plan_verify.specs.declared.place_checks.OwnSlots.{OwnSlots}
use Rattle.plan_verify.specs.Tables.{own_slots, slot_kind}
use Rattle.plan_verify.specs.Shape.{is_paths}

abbrev pub none : OwnSlots
none = record { count = 0; has_paths = false }

-- counts one more slot
abbrev pub more : OwnSlots → Slot → OwnSlots
more own slot = record { count = own.count + 1; has_paths = own.has_paths || is_paths slot.kind }

-- the own slots of an edge among these, added to those counted before
abbrev pub counted : ℕ → OwnSlots → List Slot → OwnSlots
counted e own [] = own
counted e own (slot ∷ slots) = counted e (if slot.owner == e then more own slot else own) slots

-- counts one more slot for its owner
pub record CountsMore (old : List OwnSlots) (slot : Slot) (new : List OwnSlots) : Type 0 where
  pub long : length new ≡ length old
  pub each : (e : ℕ) (own : OwnSlots) → slice_get new e ≡ Some own
      → (before : OwnSlots) × (slice_get old e ≡ Some before) × (own ≡ (if slot.owner == e then more before slot else before))

-- the slots before a place are counted
pub record AreCounted (p : Parts) (place : ℕ) (all : List OwnSlots) : Type 0 where
  pub long : length all ≡ length p.edges
  pub each : (e : ℕ) (own : OwnSlots) → slice_get all e ≡ Some own → (own.count ≤ place) × (counted e own (drop place p.slots) ≡ counted e none p.slots)

-- the counted values are those of the edge's own slots in the table
pub record IsOwn (p : Parts) (e : ℕ) (own : OwnSlots) : Type 0 where
  pub count : own.count ≡ length (own_slots p e)
  pub paths : own.has_paths ≡ list_any (λ s. is_paths (slot_kind p s)) (own_slots p e)

pub record AreOwnSlots (p : Parts) (all : List OwnSlots) : Type 0 where
  pub long : length all ≡ length p.edges
  pub each : (e : ℕ) (own : OwnSlots) → slice_get all e ≡ Some own → IsOwn p e own
