-- The invariant of every state that a run of a well-shaped image reaches.
use Rattle.std.specs.Prelude.{◌≡◌, ℕ, true, List, length, Some, slice_get}
use Rattle.plan_image.specs.declared.image.Parts.{Parts}
use Rattle.plan_verify.specs.declared.kinds.Shape.{Shape}
use Rattle.plan_verify.specs.Tables.{waits_of}
use Rattle.plan_verify.specs.Members.{is_member}
use Rattle.plan_verify.specs.Turn.{Local}
use Rattle.plan_verify.specs.WellShaped.{AreAllShapes}
use Rattle.plan_verify.specs.Sound.{AreTyped, AreOwnSet, IsTyped}
use Rattle.plan_machine.specs.declared.event.Outcome.TheVariants.{NotWanted}
use Rattle.plan_machine.specs.State.{Unbegun, Active, Over, State, has_succeeded, stands}

-- an edge has begun: it is as the shape at its place describes, and all edges that it waits for succeeded
pub record IsUnderWay (p : Parts) (s : State) (e : ℕ) (l : Local) : Type 0 where
  pub shapes : List Shape
  pub all : AreAllShapes p e shapes
  pub typed : IsTyped p e shapes s.slots l
  pub waited : (w : ℕ) → is_member w (waits_of p e) ≡ true → stands has_succeeded s w ≡ true

pub record Stands (p : Parts) (s : State) : Type 0 where
  pub long : length s.edges ≡ length p.edges
  pub typed : AreTyped p s.slots
  pub active : (e : ℕ) (l : Local) → slice_get s.edges e ≡ Some (Active l) → IsUnderWay p s e l
  -- an edge that succeeded has set its slots
  pub set : (e : ℕ) → stands has_succeeded s e ≡ true → AreOwnSet p e s.slots
  -- the waits of an edge that has not begun are in the image, and wanted
  pub needed : (e w : ℕ) → slice_get s.edges e ≡ Some Unbegun → is_member w (waits_of p e) ≡ true → slice_get s.edges w ≡ Some (Over NotWanted) → ⊥
