-- The facts that the crates above take from a well-shaped image.
use Rattle.std.specs.Prelude.{◌≡◌, ℕ, ◌<◌, ◌^◌, false, List, length, Some, slice_get, Contains, All}
use Rattle.plan_image.specs.declared.image.Slot.{Slot}
use Rattle.plan_image.specs.declared.image.Edge.{Edge}
use Rattle.plan_image.specs.declared.image.Parts.{Parts}
use Rattle.plan_image.specs.Code.{code}
use Rattle.plan_image.specs.Spelling.{HasSpelling}
use Rattle.plan_verify.specs.declared.fault.Refusal.{Refusal}
use Rattle.plan_verify.specs.Turn.{Slots, Request, Reply, Meaning}
use Rattle.plan_verify.specs.Shape.{is_paths}
use Rattle.plan_verify.specs.WellShaped.{IsShapedEdge, IsFirstRefusal, IsWellShaped, IsRefused}
use Rattle.plan_verify.specs.Sound.{AreTyped, AreLentSet}
use Rattle.plan_verify.specs.Alone.{Alone, at_begin, RunsAlone, IsFine}

-- an edge's numbers are inside the tables, and each edge that it waits for has a lesser rank
pub record IsEdgeInRange (p : Parts) (x : Edge) : Type 0 where
  pub waits : (w : ℕ) → Contains x.waits w → (maker : Edge) × (slice_get p.edges w ≡ Some maker) × (maker.rank < x.rank)
  pub pool : (pool : ℕ) → x.pool ≡ Some pool → pool < length p.pools
  pub label : x.label < length p.texts
  pub some_output : 0 < length x.outputs
  pub outputs : All (λ f. f < length p.files) x.outputs

-- a slot's owner is an edge, and the slot holds no list of paths
pub record IsSlotInRange (p : Parts) (slot : Slot) : Type 0 where
  pub owner : slot.owner < length p.edges
  pub kind : is_paths slot.kind ≡ false

pub record AreInRange (p : Parts) : Type 0 where
  pub edges : (e : ℕ) (x : Edge) → slice_get p.edges e ≡ Some x → IsEdgeInRange p x
  pub slots : (s : ℕ) (slot : Slot) → slice_get p.slots s ≡ Some slot → IsSlotInRange p slot
  pub defaults : (e : ℕ) → Contains p.defaults e → e < length p.edges

-- ---- laws

-- the tables of a well-shaped image are in range
abbrev pub TablesAreInRange : Type 0
TablesAreInRange = (p : Parts) → IsWellShaped p → AreInRange p

-- the place of an instruction fits into four bytes
abbrev pub CodesAreShort : Type 0
CodesAreShort = (p : Parts) (e : ℕ) → HasSpelling p → length (code p e) < 2 ^ 32

-- an edge of a well-shaped image, run alone from slots that fit, never goes wrong, and when it ends, its slots
-- are set
abbrev pub VerifiedNeverGoesWrong : Type 0
VerifiedNeverGoesWrong =
    (p : Parts) (e : ℕ) → IsWellShaped p → e < length p.edges → (slots : Slots) → AreTyped p slots → AreLentSet p e slots
    → (meaning : Meaning) (n : ℕ) (told : List (Request × Reply)) (x : Alone) → RunsAlone meaning p e n (at_begin slots) told x → AreTyped p x.slots × IsFine p e x.slots x.stage

-- a refused edge has no shapes, and a refused image isn't well shaped
pub record RefusalsAreTrue : Type 0 where
  pub edge : (p : Parts) (e place : ℕ) (r : Refusal) → IsFirstRefusal p e place r → IsShapedEdge p e → ⊥
  pub image : (p : Parts) (e place : ℕ) (r : Refusal) → IsRefused p e place r → IsWellShaped p → ⊥
