-- The image of a manifest that has a graph is in order, and each of its edges has its body.
use Rattle.std.proofs.Common.{◌≡◌, ℕ, zero, suc, List, [], ◌∷◌, map, get_or, Option, Some, None, refl, sym, ap, subst, ◌∙◌, arith}
use Rattle.std.specs.Prelude.{slice_get, option_map}
use Rattle.std.specs.List.{AllByRecursion}
use Rattle.std.specs.List.Sorted.{IsStrictlyIncreasing}
use Rattle.std.proofs.lemmas.Option.{slice_get-map}
use Rattle.plan_scope.specs.Edge.{Edge as ManifestEdge}
use Rattle.plan_scope.specs.declared.manifest.Manifest.{Manifest}
use Rattle.plan_graph.specs.declared.graph_data.Graph.{Graph}
use Rattle.plan_graph.specs.Graph.{IsGraph}
use Rattle.plan_graph.specs.Laws.{DefaultsAscend, WaitsAscend}
use Rattle.plan_image.specs.declared.body.Instr.{Instr}
use Rattle.plan_image.specs.declared.image.Edge.{Edge}
use Rattle.plan_image.specs.Bodies.{body_of, IsSplit, opens}
use Rattle.plan_image.specs.Code.{HasBody}
use Rattle.plan_image.specs.Spelling.{AscendsFrom, IsFilled, IsInOrder}
use Rattle.plan_compile.specs.declared.baseline.OutOfDateRule.{OutOfDateRule}
use Rattle.plan_compile.specs.BodyKeys.{Body, same_body}
use Rattle.plan_compile.specs.Builds.{Build, Builds, builds, builds_from}
use Rattle.plan_compile.specs.Images.{codes, compiled, edges_of, image_of, shared, used_bodies}
use Rattle.plan_compile.specs.Names.{Text, all_texts, used_pools}
use Rattle.plan_compile.specs.Numbering.{number}
use Rattle.plan_compile.specs.Refusals.{ImageIsSpelled}
use Rattle.plan_compile.proofs.AscendLemmas.{rises_from}
use Rattle.plan_compile.proofs.BodyKeyLemmas.{bodies_decide}
use Rattle.plan_compile.proofs.MemberLemmas.{get_lt}
use Rattle.plan_compile.proofs.NumberingLemmas.{found}

-- ---- order

ascending : (xs : List ℕ) → IsStrictlyIncreasing xs → AscendsFrom 0 xs
ascending xs h = rises_from 0 xs (λ some. omega arith) h

builds_in_order : (rule : OutOfDateRule) (g : Graph) (n : ℕ) (es : List ManifestEdge) → ((k : ℕ) → AscendsFrom 0 (get_or g.waits k [])) → AllByRecursion (λ (x : Build). AscendsFrom 0 x.waits) (builds_from rule g n es)
builds_in_order rule g n [] h = tt
builds_in_order rule g n (e ∷ es) h = (h n, builds_in_order rule g (suc n) es h)

edges_in_order : (texts pools : List Text) (bodies : List Body) (all : List (List Instr)) (xs : List Build) → AllByRecursion (λ (x : Build). AscendsFrom 0 x.waits) xs
    → AllByRecursion (λ (y : Edge). AscendsFrom 0 y.waits) (edges_of texts pools bodies all xs)
edges_in_order texts pools bodies [] xs h = tt
edges_in_order texts pools bodies (is ∷ all) [] h = tt
edges_in_order texts pools bodies (is ∷ all) (x ∷ xs) h = (h.0, edges_in_order texts pools bodies all xs h.1)

module _ (rule : OutOfDateRule) (m : Manifest) (g : Graph) (graph : IsGraph m g) where
  waits_ascend : WaitsAscend → (k : ℕ) → AscendsFrom 0 (get_or g.waits k [])
  waits_ascend ascend k = subst (λ (rows : List (List ℕ)). AscendsFrom 0 (get_or rows k [])) (sym graph.waits) (ascending _ (ascend m.edges k).0)

  defaults_ascend : DefaultsAscend → AscendsFrom 0 g.defaults
  defaults_ascend ascend = subst (λ (ds : List ℕ). AscendsFrom 0 ds) (sym graph.defaults) (ascending _ (ascend m.edges m.defaults).0)

  in_order : WaitsAscend → DefaultsAscend → IsInOrder (compiled rule m g)
  in_order waits defaults =
      let xs : List Build = (builds rule m g).edges in
      record {
        waits = edges_in_order (all_texts xs) (used_pools xs) (used_bodies (codes xs)) (codes xs) xs (builds_in_order rule g 0 m.edges (waits_ascend waits));
        defaults = defaults_ascend defaults;
      }

-- ---- bodies

abbrev or_empty : Option Body → Body
or_empty (Some is) = is
or_empty None = []

has_body : IsSplit → (all : List (List Instr)) (k : ℕ) (is : List Instr) → slice_get all k ≡ Some is → HasBody (Some (used_bodies all)) (shared (used_bodies all) is)
has_body split all k is at =
    let n : ℕ = number same_body (body_of is) (used_bodies all) in
    let there : slice_get (used_bodies all) n ≡ Some (body_of is) = found same_body bodies_decide (map body_of all) k (body_of is) (slice_get-map body_of all k ∙ ap (option_map body_of) at) in
    (get_lt (used_bodies all) n (body_of is) there, (split is).1 ∙ sym (ap (λ (b : Option Body). opens (or_empty b)) there))

edges_filled : (texts pools : List Text) (bodies : List Body) (all : List (List Instr)) (xs : List Build) → ((k : ℕ) (is : List Instr) → slice_get all k ≡ Some is → HasBody (Some bodies) (shared bodies is))
    → AllByRecursion (λ (y : Edge). HasBody (Some bodies) y.code) (edges_of texts pools bodies all xs)
edges_filled texts pools bodies [] xs h = tt
edges_filled texts pools bodies (is ∷ all) [] h = tt
edges_filled texts pools bodies (is ∷ all) (x ∷ xs) h = (h zero is refl, edges_filled texts pools bodies all xs (λ k js at. h (suc k) js at))

filled : IsSplit → (t : Builds) → IsFilled (image_of t)
filled split t = edges_filled (all_texts t.edges) (used_pools t.edges) (used_bodies (codes t.edges)) (codes t.edges) t.edges (has_body split (codes t.edges))

pub image_is_spelled : IsSplit → WaitsAscend → DefaultsAscend → ImageIsSpelled
image_is_spelled split waits defaults rule m g graph within = record { limits = within; order = in_order rule m g graph waits defaults; filled = filled split (builds rule m g) }
