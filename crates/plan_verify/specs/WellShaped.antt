-- Which images are well shaped, and which check fails first in the others.
use Rattle.std.specs.Prelude.{◌≡◌, ◌≢◌, ℕ, zero, suc, ◌+◌, ◌<◌, ◌≤◌, false, List, [], ◌∷◌, ◌++◌, length, Some, None, ◌==◌, if◌then◌else◌, slice_get, Contains, All}
use Rattle.plan_image.specs.declared.body.Instr.{Instr}
use Rattle.plan_image.specs.declared.image.Parts.{Parts}
use Rattle.plan_image.specs.Code.{code}
use Rattle.plan_verify.specs.declared.kinds.Shape.{Shape}
use Rattle.plan_verify.specs.declared.fault.Refusal.{Refusal}
use Rattle.plan_verify.specs.declared.fault.Refusal.TheVariants as refusal
use Rattle.plan_verify.specs.Shape.{left, targets, refused, table_refusal, image_refusal}

abbrev pub at_start : Shape
at_start = record { kinds = []; holding = false; set = [] }

-- ---- the shapes that arrive at a place

-- the shape that an instruction leaves, once for each time that it continues to this place
abbrev pub toward : ℕ → List ℕ → Shape → List Shape
toward place [] s = []
toward place (t ∷ ts) s = if t == place then s ∷ toward place ts s else toward place ts s

-- the shapes that arrive at a place from instructions that begin at the place `at` and have these shapes
abbrev pub arriving_from : Parts → ℕ → List Instr → List Shape → ℕ → List Shape
arriving_from p at [] shapes place = []
arriving_from p at (i ∷ is) [] place = []
arriving_from p at (i ∷ is) (s ∷ shapes) place = toward place (targets at i) (left p i s) ++ arriving_from p (at + 1) is shapes place

-- the code begins at the first place
abbrev pub begins : ℕ → List Shape
begins zero = at_start ∷ []
begins (suc place) = []

-- the shapes that arrive at a place, given the shapes of the first places
unfoldable pub arriving : Parts → ℕ → List Shape → ℕ → List Shape
arriving p e shapes place = begins place ++ arriving_from p 0 (code p e) shapes place

-- a shape arrives, and no other one does
pub record IsShapeAmong (s : Shape) (arrived : List Shape) : Type 0 where
  pub arrives : Contains arrived s
  pub alone : All (λ t. t ≡ s) arrived

abbrev pub Differ : List Shape → Type 0
Differ arrived = (s : Shape) × (t : Shape) × Contains arrived s × Contains arrived t × (s ≢ t)

-- ---- shapes of code

-- These are the shapes of the first places: each place is reached, the shapes that arrive there are exactly its
-- shape, and the instruction there is not refused.
pub record AreShapes (p : Parts) (e : ℕ) (shapes : List Shape) : Type 0 where
  pub within : length shapes ≤ length (code p e)
  pub each : (place : ℕ) (i : Instr) (s : Shape) → slice_get (code p e) place ≡ Some i → slice_get shapes place ≡ Some s
      → IsShapeAmong s (arriving p e shapes place) × (refused p e place i s ≡ None)

-- These are the shapes of all places of an edge whose tables pass their checks, and it has at least one place.
pub record AreAllShapes (p : Parts) (e : ℕ) (shapes : List Shape) : Type 0 where
  pub tables : table_refusal p e ≡ None
  pub some : 0 < length (code p e)
  pub long : length shapes ≡ length (code p e)
  pub are : AreShapes p e shapes

abbrev pub IsShapedEdge : Parts → ℕ → Type 0
IsShapedEdge p e = (shapes : List Shape) × AreAllShapes p e shapes

pub record IsWellShaped (p : Parts) : Type 0 where
  pub edges : (e : ℕ) → e < length p.edges → IsShapedEdge p e
  pub tables : image_refusal p ≡ None

-- ---- the first refusal

-- the reason why a place is refused, given the shapes of the places before it
pub data IsRefusedAt (p : Parts) (e : ℕ) (shapes : List Shape) : Refusal → Type 0 where
  not_reached : arriving p e shapes (length shapes) ≡ [] → IsRefusedAt p e shapes refusal.DeadCode
  shapes_differ : Differ (arriving p e shapes (length shapes)) → IsRefusedAt p e shapes refusal.ShapesDiffer
  check_fails : {r : Refusal} (s : Shape) (i : Instr) → slice_get (code p e) (length shapes) ≡ Some i → IsShapeAmong s (arriving p e shapes (length shapes))
      → refused p e (length shapes) i s ≡ Some r → IsRefusedAt p e shapes r

-- the first refusal of an edge, and its place: it is about its tables, about empty code, or about the place
-- after some that have shapes
pub data IsFirstRefusal (p : Parts) (e : ℕ) : ℕ → Refusal → Type 0 where
  tables_fail : {r : Refusal} → table_refusal p e ≡ Some r → IsFirstRefusal p e 0 r
  no_code : table_refusal p e ≡ None → code p e ≡ [] → IsFirstRefusal p e 0 refusal.FallsOff
  place_fails : {r : Refusal} (shapes : List Shape) → table_refusal p e ≡ None → length shapes < length (code p e) → AreShapes p e shapes → IsRefusedAt p e shapes r
      → IsFirstRefusal p e (length shapes) r

-- the first refusal of an image: it is about an edge after some that are shaped, or about the tables after all
-- of them
pub data IsRefused (p : Parts) : ℕ → ℕ → Refusal → Type 0 where
  edge_fails : {e place : ℕ} {r : Refusal} → e < length p.edges → ((d : ℕ) → d < e → IsShapedEdge p d) → IsFirstRefusal p e place r → IsRefused p e place r
  all_fail : {r : Refusal} → ((d : ℕ) → d < length p.edges → IsShapedEdge p d) → image_refusal p ≡ Some r → IsRefused p 0 0 r
