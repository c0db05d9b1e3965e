-- The invariant of one pass from left to right.
use Rattle.std.specs.Prelude.{◌≡◌, ℕ, ◌≤◌, ◌⊎◌, Bool, true, false, List, [], ◌∷◌, ◌++◌, length, Option, Some, None, ◌==◌, if◌then◌else◌, slice_get}
use Rattle.plan_image.specs.declared.body.Instr.{Instr}
use Rattle.plan_image.specs.declared.body.Instr.TheVariants as op
use Rattle.plan_image.specs.declared.image.Parts.{Parts}
use Rattle.plan_verify.specs.declared.kinds.Shape.{Shape}
use Rattle.plan_verify.specs.declared.arrivals.Arrival.{Arrival}
use Rattle.plan_verify.specs.declared.arrivals.Flow.{Flow}
use Rattle.plan_verify.specs.declared.fault.Refusal.{Refusal}
use Rattle.plan_verify.specs.declared.fault.Refusal.TheVariants as refusal
use Rattle.plan_verify.specs.declared.fault.CodeFault.{CodeFault}
use Rattle.plan_verify.specs.declared.fault.CodeFault.TheVariants as fault
use Rattle.plan_verify.specs.Arrivals.{Describes}
use Rattle.plan_verify.specs.WellShaped.{arriving, IsShapeAmong, Differ, AreShapes, IsFirstRefusal}

-- whether an instruction can continue to the next place
abbrev pub goes_on : Instr → Bool
goes_on op.End = false
goes_on (op.Jump d) = false
goes_on _ = true

-- the shape that is carried along, if it arrives at this place
abbrev pub brought : Flow → List Shape
brought flow = if flow.falls then flow.shape ∷ [] else []

-- the same for any place: the shape that is carried along, if it arrives there
abbrev pub brought_to : Flow → ℕ → ℕ → List Shape
brought_to flow place m = if place == m then brought flow else []

-- the one shape of those that arrived, or the reason why there is none
abbrev pub IsMet : List Shape → Shape → Option Refusal → Type 0
IsMet arrived s None = IsShapeAmong s arrived
IsMet arrived s (Some r) = ((r ≡ refusal.DeadCode) × (arrived ≡ [])) ⊎ ((r ≡ refusal.ShapesDiffer) × Differ arrived)

-- the result of meeting, whatever shapes the jumps brought
pub record MeetsAs (a : Arrival) (old new : Flow) (result : Option Refusal) : Type 0 where
  pub meets : (jumped : List Shape) → Describes a jumped → IsMet (jumped ++ brought old) new.shape result

-- The arrival that is stored for each later place describes the shapes that jumps bring there from the places
-- with these shapes. The rest of the shapes that arrive are carried along.
pub record Keeps (p : Parts) (e : ℕ) (shapes : List Shape) (arrivals : List Arrival) (flow : Flow) : Type 0 where
  pub each : (m : ℕ) (a : Arrival) → length shapes ≤ m → slice_get arrivals m ≡ Some a
      → (jumped : List Shape) × (arriving p e shapes m ≡ jumped ++ brought_to flow (length shapes) m) × Describes a jumped

-- the shapes of the places before this one, and the arrivals stored for the places from it on
pub record Reached (p : Parts) (e place : ℕ) (arrivals : List Arrival) (flow : Flow) : Type 0 where
  pub shapes : List Shape
  pub count : length shapes ≡ place
  pub are : AreShapes p e shapes
  pub kept : Keeps p e shapes arrivals flow

-- the first refusal of an edge, unless memory ran out
abbrev pub IsCodeFault : Parts → ℕ → CodeFault → Type 0
IsCodeFault p e fault.Memory = Unit {0}
IsCodeFault p e (fault.Refused r place) = IsFirstRefusal p e place r
