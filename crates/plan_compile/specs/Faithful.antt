-- The facts of a manifest in its image, and the conditions on the manifest.
use Rattle.std.specs.Prelude.{◌≡◌, ◌≢◌, ◌<◌, ◌==◌, ℕ, zero, true, false, List, [], ◌∷◌, length, map, flat_map, Option, Some, None, nat_lt, nat_le, slice_get, AllPairs, Contains}
use Rattle.std.specs.List.{list_any, range_with_len}
use Rattle.plan_scope.specs.declared.manifest.Manifest.{Manifest}
use Rattle.plan_scope.specs.Sound.{IsSound as IsSoundManifest}
use Rattle.plan_graph.specs.declared.graph_data.Graph.{Graph}
use Rattle.plan_graph.specs.Graph.{IsGraph}
use Rattle.plan_image.specs.declared.image.EdgeCode.{EdgeCode}
use Rattle.plan_image.specs.declared.image.EdgeCode.TheVariants.{Own, Shared}
use Rattle.plan_image.specs.declared.image.Edge.{Edge}
use Rattle.plan_image.specs.declared.image.Pool.{Pool}
use Rattle.plan_image.specs.declared.image.Parts.{Parts}
use Rattle.plan_verify.specs.Members.{is_member}
use Rattle.plan_compile.specs.declared.baseline.OutOfDateRule.{OutOfDateRule}
use Rattle.plan_compile.specs.declared.layout.Output.{Output}
use Rattle.plan_compile.specs.BodyKeys.{Body}
use Rattle.plan_compile.specs.Builds.{Build, Builds, builds}
use Rattle.plan_compile.specs.Slots.{base, made, all_made, find}
use Rattle.plan_compile.specs.Names.{label_of, pool_in, used_pools, declared}
use Rattle.plan_compile.specs.Images.{sort_of, image_of}
use Rattle.plan_compile.specs.Numbering.{once}

abbrev pub IsEdge : Builds → ℕ → Build → Type 0
IsEdge t e x = slice_get t.edges e ≡ Some x

-- the numbers of files are in the table
abbrev pub AreInside : Builds → List ℕ → Type 0
AreInside t fs = list_any (λ f. nat_le (length t.files) f) fs ≡ false

-- the facts that the graph of a manifest ensures
pub record IsSound (t : Builds) : Type 0 where
  pub makes : (e : ℕ) (x : Build) → IsEdge t e x → x.outputs ≡ [] → ⊥
  pub outputs : (e : ℕ) (x : Build) → IsEdge t e x → AreInside t x.outputs
  pub named : (e : ℕ) (x : Build) → IsEdge t e x → AreInside t x.named
  pub order_only : (e : ℕ) (x : Build) → IsEdge t e x → AreInside t x.order_only
  -- an edge waits for the producers of its named inputs, which have lesser ranks
  pub waits : (e : ℕ) (x : Build) (w : ℕ) (y : Build) (f : ℕ) → IsEdge t e x → IsEdge t w y → is_member f x.named ≡ true → is_member f y.outputs ≡ true
      → is_member w x.waits ≡ true
  pub ranks : (e : ℕ) (x : Build) (w : ℕ) → IsEdge t e x → is_member w x.waits ≡ true → (y : Build) × IsEdge t w y × (nat_lt y.rank x.rank ≡ true)
  -- no file is produced twice
  pub once : (e : ℕ) (x : Build) (i : ℕ) (d : ℕ) (y : Build) (j : ℕ) (f : ℕ) → IsEdge t e x → IsEdge t d y → slice_get x.outputs i ≡ Some f → slice_get y.outputs j ≡ Some f
      → (e ≡ d) × (i ≡ j)
  pub defaults : list_any (λ e. nat_le (length t.edges) e) t.defaults ≡ false

-- ---- the image has the facts of the manifest

abbrev pub HasPool : Parts → Option ℕ → List (List ℕ) → Type 0
HasPool p None [] = Unit {0}
HasPool p (Some n) (name ∷ []) = (pool : Pool) × (slice_get p.pools n ≡ Some pool) × (pool.name ≡ name)
HasPool p _ _ = ⊥

pub record IsEdgeOf (p : Parts) (x : Build) (y : Edge) : Type 0 where
  pub sort : y.sort ≡ sort_of x.edge.phony
  pub outputs : y.outputs ≡ x.outputs
  pub waits : y.waits ≡ x.waits
  pub rank : y.rank ≡ x.rank
  pub label : slice_get p.texts y.label ≡ Some (label_of x)
  pub pool : HasPool p y.pool (pool_in x)

-- the bodies of an image; none if edges have their own code
abbrev pub bodies_in : Option (List Body) → List Body
bodies_in (Some bodies) = bodies
bodies_in None = []

-- the number of the body that a code shares
abbrev pub body_number : EdgeCode → List ℕ
body_number (Shared body operands) = body ∷ []
body_number (Own is) = []

-- the numbers of the bodies that edges share, edge by edge
abbrev pub body_numbers : List Edge → List ℕ
body_numbers ys = flat_map (λ y. body_number y.code) ys

pub record IsFaithful (t : Builds) (p : Parts) : Type 0 where
  pub files : p.files ≡ t.files
  pub count : length p.edges ≡ length t.edges
  pub edges : (e : ℕ) (x : Build) → IsEdge t e x → (y : Edge) × (slice_get p.edges e ≡ Some y) × IsEdgeOf p x y
  pub pools : p.pools ≡ map (declared t.pools) (used_pools t.edges)
  pub defaults : p.defaults ≡ t.defaults
  -- no two bodies are equal
  pub apart : AllPairs (λ a b. a ≢ b) (bodies_in p.bodies)
  -- each body is used by an edge
  pub used : (n : ℕ) → n < length (bodies_in p.bodies) → Contains (body_numbers p.edges) n
  -- bodies are in the order of first use: the body numbers of edges, without repetitions, count up
  pub ordered : once (λ m n. m == n) (body_numbers p.edges) ≡ range_with_len 0 (length (bodies_in p.bodies))

abbrev pub ImageIsFaithful : Type 0
ImageIsFaithful = (t : Builds) → IsFaithful t (image_of t)

-- an edge sets for an output the slots that each edge with this input reads
abbrev pub OneAssignment : Type 0
OneAssignment =
    (t : Builds) → IsSound t → (e : ℕ) (x : Build) (i : ℕ) (o : Output) → IsEdge t e x → slice_get (made (base t.edges e) x) i ≡ Some o
    → find o.file (all_made zero t.edges) ≡ Some o

-- a manifest that has a graph is sound
abbrev pub ManifestsAreSound : Type 0
ManifestsAreSound = (rule : OutOfDateRule) (m : Manifest) (g : Graph) → IsSoundManifest m → IsGraph m g → IsSound (builds rule m g)
