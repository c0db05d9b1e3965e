-- What is stored of the shapes that arrive at a place by jumps, and the lists of shapes that it describes.
use Rattle.std.specs.Prelude.{◌≡◌, ◌≢◌, ℕ, List, [], ◌∷◌, ◌++◌, length, Some, slice_get}
use Rattle.plan_image.specs.declared.body.Instr.{Instr}
use Rattle.plan_image.specs.declared.body.Instr.TheVariants as op
use Rattle.plan_verify.specs.declared.kinds.Shape.{Shape}
use Rattle.plan_verify.specs.declared.arrivals.Arrival.{Arrival}
use Rattle.plan_verify.specs.declared.arrivals.Arrival.TheVariants as arrival
use Rattle.plan_verify.specs.WellShaped.{IsShapeAmong, Differ}

abbrev pub Describes : Arrival → List Shape → Type 0
Describes arrival.Nothing arrived = arrived ≡ []
Describes (arrival.One s) arrived = IsShapeAmong s arrived
Describes arrival.Differ arrived = Differ arrived

-- if the old arrival describes some shapes, the new one describes them and one more
pub record Joins (before after : Arrival) (s : Shape) : Type 0 where
  pub more : (arrived : List Shape) → Describes before arrived → Describes after (arrived ++ s ∷ [])

-- new is old with one more shape at a place
pub record JoinsAt (old new : List Arrival) (to : ℕ) (s : Shape) : Type 0 where
  pub long : length new ≡ length old
  pub there : (a : Arrival) → slice_get old to ≡ Some a → (b : Arrival) × (slice_get new to ≡ Some b) × Joins a b s
  pub others : (m : ℕ) → m ≢ to → slice_get new m ≡ slice_get old m

-- adds the shape at several places, one after another
abbrev pub JoinsEach : List Arrival → List Arrival → List ℕ → Shape → Type 0
JoinsEach old new [] s = new ≡ old
JoinsEach old new (t ∷ ts) s = (mid : List Arrival) × JoinsAt old mid t s × JoinsEach mid new ts s

-- the places that an instruction jumps to
abbrev pub jumps_to : Instr → List ℕ
jumps_to (op.Jump d) = d ∷ []
jumps_to (op.JumpIf d) = d ∷ []
jumps_to _ = []
