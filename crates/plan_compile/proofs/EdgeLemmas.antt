-- The edges of an image, and the facts in it about them.
use Rattle.std.proofs.Common.{◌≡◌, ℕ, zero, suc, ◌+◌, ◌≤◌, Bool, true, false, List, [], ◌∷◌, length, map, Option, Some, None, refl, ap, ◌∙◌, arith}
use Rattle.std.specs.Prelude.{slice_get, option_map, flat_map, bytes_eq}
use Rattle.std.specs.List.{range_with_len}
use Rattle.std.proofs.lemmas.Option.{slice_get-map}
use Rattle.plan_scope.specs.declared.manifest.Pool.{Pool as ManifestPool}
use Rattle.plan_image.specs.declared.body.Instr.{Instr}
use Rattle.plan_image.specs.declared.image.Edge.{Edge}
use Rattle.plan_image.specs.declared.image.Pool.{Pool}
use Rattle.plan_image.specs.declared.image.Parts.{Parts}
use Rattle.plan_image.specs.Bodies.{body_of, operands_of, with_operands, IsSplit}
use Rattle.plan_image.specs.Code.{code}
use Rattle.plan_compile.specs.declared.layout.Output.{Output}
use Rattle.plan_compile.specs.Builds.{Build, Builds}
use Rattle.plan_compile.specs.BodyKeys.{Body, same_body}
use Rattle.plan_compile.specs.Emit.{code_of}
use Rattle.plan_compile.specs.Slots.{base, own_len, all_made}
use Rattle.plan_compile.specs.Names.{Text, text_number, unless_empty, label_of, texts_in, all_texts, pool_by, pool_in, used_pools, pool_number, declared}
use Rattle.plan_compile.specs.Images.{layout_of, codes_from, codes, used_bodies, edge_of, edges_of, image_of}
use Rattle.plan_compile.specs.Numbering.{number, once}
use Rattle.plan_compile.specs.Faithful.{IsEdge, HasPool, IsFaithful, body_numbers}
use Rattle.plan_compile.proofs.ListLemmas.{some_is, get_front, get_past}
use Rattle.plan_compile.proofs.NumberingLemmas.{texts_decide, found}
use Rattle.plan_compile.proofs.BodyKeyLemmas.{bodies_decide}
use Rattle.plan_compile.proofs.UseLemmas.{all_apart, each_used, numbers_count, same_number}

-- ---- the part of each edge in a concatenated list

pub flat_at : {A B : Type 0} (f : A → List B) (xs : List A) (e : ℕ) (x : A) → slice_get xs e ≡ Some x → (k : ℕ) (y : B) → slice_get (f x) k ≡ Some y
    → (n : ℕ) × (slice_get (flat_map f xs) n ≡ Some y)
flat_at f [] e x h k y g = absurd cc
flat_at f (z ∷ xs) zero x h k y g = (k, get_front (f z) (flat_map f xs) k y (ap (λ v. slice_get (f v) k) (some_is z x h) ∙ g))
flat_at f (z ∷ xs) (suc e) x h k y g =
    let r = flat_at f xs e x h k y g in
    (length (f z) + r.0, get_past (f z) (flat_map f xs) r.0 ∙ r.1)

pub text_found : (xs : List Build) (e : ℕ) (x : Build) → slice_get xs e ≡ Some x → (k : ℕ) (t : Text) → slice_get (texts_in x) k ≡ Some t
    → slice_get (all_texts xs) (text_number (all_texts xs) t) ≡ Some t
text_found xs e x h k t g = let at = flat_at texts_in xs e x h k t g in found bytes_eq texts_decide (flat_map texts_in xs) at.0 t at.1

pub pool_found : (xs : List Build) (e : ℕ) (x : Build) → slice_get xs e ≡ Some x → (k : ℕ) (name : Text) → slice_get (pool_in x) k ≡ Some name
    → slice_get (used_pools xs) (text_number (used_pools xs) name) ≡ Some name
pool_found xs e x h k name g = let at = flat_at pool_in xs e x h k name g in found bytes_eq texts_decide (flat_map pool_in xs) at.0 name at.1

-- ---- codes

pub code_at : (texts : List Text) (outputs : List Output) (b : ℕ) (xs : List Build) (e : ℕ) (x : Build) (c : ℕ) → c ≡ b + base xs e → slice_get xs e ≡ Some x
    → slice_get (codes_from texts outputs b xs) e ≡ Some (code_of (layout_of texts outputs c x))
code_at texts outputs b [] e x c is h = absurd cc
code_at texts outputs b (y ∷ xs) zero x c is h =
    let eq : b ≡ c = omega (arith, is) in
    ap (λ (n : ℕ). Some (code_of (layout_of texts outputs n y))) eq ∙ ap (λ (z : Build). Some (code_of (layout_of texts outputs c z))) (some_is y x h)
code_at texts outputs b (y ∷ xs) (suc e) x c is h =
    let deep : c ≡ b + own_len y + base xs e = omega (arith, is) in
    code_at texts outputs (b + own_len y) xs e x c deep h

-- the code of the edge with this number
abbrev pub code_in : Builds → ℕ → Build → List Instr
code_in t e x = code_of (layout_of (all_texts t.edges) (all_made zero t.edges) (base t.edges e) x)

pub code_stands : (t : Builds) (e : ℕ) (x : Build) → IsEdge t e x → slice_get (codes t.edges) e ≡ Some (code_in t e x)
code_stands t e x at = code_at (all_texts t.edges) (all_made zero t.edges) zero t.edges e x (base t.edges e) (let eq : base t.edges e ≡ zero + base t.edges e = omega arith in eq) at

-- ---- edges

pub edge_at : (texts pools : List Text) (bodies : List Body) (all : List (List Instr)) (xs : List Build) (e : ℕ) (is : List Instr) (x : Build)
    → slice_get all e ≡ Some is → slice_get xs e ≡ Some x → slice_get (edges_of texts pools bodies all xs) e ≡ Some (edge_of texts pools bodies is x)
edge_at texts pools bodies [] xs e is x h g = absurd cc
edge_at texts pools bodies (js ∷ all) [] e is x h g = absurd cc
edge_at texts pools bodies (js ∷ all) (y ∷ xs) zero is x h g =
    ap (λ (ks : List Instr). Some (edge_of texts pools bodies ks y)) (some_is js is h) ∙ ap (λ (z : Build). Some (edge_of texts pools bodies is z)) (some_is y x g)
edge_at texts pools bodies (js ∷ all) (y ∷ xs) (suc e) is x h g = edge_at texts pools bodies all xs e is x h g

pub codes_length : (texts : List Text) (outputs : List Output) (b : ℕ) (xs : List Build) → length (codes_from texts outputs b xs) ≡ length xs
codes_length texts outputs b [] = refl
codes_length texts outputs b (x ∷ xs) = ap suc (codes_length texts outputs (b + own_len x) xs)

pub edges_length : (texts pools : List Text) (bodies : List Body) (all : List (List Instr)) (xs : List Build) → length all ≡ length xs
    → length (edges_of texts pools bodies all xs) ≡ length xs
edges_length texts pools bodies [] [] h = refl
edges_length texts pools bodies [] (x ∷ xs) h = absurd (omega (arith, h))
edges_length texts pools bodies (is ∷ all) [] h = absurd (omega (arith, h))
edges_length texts pools bodies (is ∷ all) (x ∷ xs) h = ap suc (edges_length texts pools bodies all xs (omega (arith, h)))

-- the image's edge with this number
abbrev pub edge_in : Builds → ℕ → Build → Edge
edge_in t e x = edge_of (all_texts t.edges) (used_pools t.edges) (used_bodies (codes t.edges)) (code_in t e x) x

pub image_edge : (t : Builds) (e : ℕ) (x : Build) → IsEdge t e x → slice_get (image_of t).edges e ≡ Some (edge_in t e x)
image_edge t e x at =
    edge_at (all_texts t.edges) (used_pools t.edges) (used_bodies (codes t.edges)) (codes t.edges) t.edges e (code_in t e x) x (code_stands t e x at) at

-- ---- the image has the facts of the manifest

pool_named : (pools : List ManifestPool) (names own : List Text) → ((k : ℕ) (name : Text) → slice_get own k ≡ Some name → slice_get names (text_number names name) ≡ Some name)
    → (few : length own ≤ 1) → (p : Parts) → p.pools ≡ map (declared pools) names → HasPool p (pool_number names own) own
pool_named pools names [] h few p is = tt
pool_named pools names (name ∷ []) h few p is =
    let at : slice_get (map (declared pools) names) (text_number names name) ≡ Some (declared pools name) =
    slice_get-map (declared pools) names (text_number names name) ∙ ap (option_map (declared pools)) (h zero name refl) in
    (declared pools name, ap (λ (ps : List Pool). slice_get ps (text_number names name)) is ∙ at, refl)
pool_named pools names (name ∷ other ∷ own) h few p is = absurd (omega (arith, few))

few_pools : (x : Build) → length (pool_in x) ≤ 1
few_pools x = by_sort x.edge.phony x.edge.pool
  where
    by_name : (name : Text) → length (unless_empty name) ≤ 1
    by_name [] = omega arith
    by_name (c ∷ cs) = omega arith

    by_sort : (phony : Bool) (name : Text) → length (pool_by phony name) ≤ 1
    by_sort false name = by_name name
    by_sort true name = omega arith

pub has_pool : (t : Builds) (e : ℕ) (x : Build) → IsEdge t e x → HasPool (image_of t) (pool_number (used_pools t.edges) (pool_in x)) (pool_in x)
has_pool t e x at = pool_named t.pools (used_pools t.edges) (pool_in x) (pool_found t.edges e x at) (few_pools x) (image_of t) refl

pub image_count : (t : Builds) → length (image_of t).edges ≡ length t.edges
image_count t =
    edges_length (all_texts t.edges) (used_pools t.edges) (used_bodies (codes t.edges)) (codes t.edges) t.edges
    (codes_length (all_texts t.edges) (all_made zero t.edges) zero t.edges)

-- the body numbers of edges, by their codes
numbers_of : (texts pools : List Text) (bodies : List Body) (all : List (List Instr)) (xs : List Build) → length all ≡ length xs
    → body_numbers (edges_of texts pools bodies all xs) ≡ map (λ b. number same_body b bodies) (map body_of all)
numbers_of texts pools bodies [] [] h = refl
numbers_of texts pools bodies [] (x ∷ xs) h = absurd (omega (arith, h))
numbers_of texts pools bodies (is ∷ all) [] h = absurd (omega (arith, h))
numbers_of texts pools bodies (is ∷ all) (x ∷ xs) h =
    ap (λ (ns : List ℕ). number same_body (body_of is) bodies ∷ ns) (numbers_of texts pools bodies all xs (omega (arith, h)))

bodies_ordered : (t : Builds) → once same_number (body_numbers (image_of t).edges) ≡ range_with_len 0 (length (used_bodies (codes t.edges)))
bodies_ordered t =
    ap (λ (ns : List ℕ). once same_number ns)
    (numbers_of (all_texts t.edges) (used_pools t.edges) (used_bodies (codes t.edges)) (codes t.edges) t.edges
    (codes_length (all_texts t.edges) (all_made zero t.edges) zero t.edges))
    ∙ numbers_count same_body bodies_decide (map body_of (codes t.edges))

pub faithful : (t : Builds) → IsFaithful t (image_of t)
faithful t = record {
  files = refl;
  count = image_count t;
  edges = λ e x at. (
    edge_in t e x,
    image_edge t e x at,
    record {
      sort = refl;
      outputs = refl;
      waits = refl;
      rank = refl;
      label = text_found t.edges e x at zero (label_of x) refl;
      pool = has_pool t e x at;
    },
  );
  pools = refl;
  defaults = refl;
  apart = all_apart same_body bodies_decide (map body_of (codes t.edges));
  used = λ n inside. each_used (body_numbers (image_of t).edges) (length (used_bodies (codes t.edges))) n (bodies_ordered t) inside;
  ordered = bodies_ordered t;
}

-- ---- the code of the image

abbrev or_empty : Option Body → Body
or_empty (Some is) = is
or_empty None = []

pub image_code : IsSplit → (t : Builds) (e : ℕ) (x : Build) → IsEdge t e x → code (image_of t) e ≡ code_in t e x
image_code split t e x at =
    let is : List Instr = code_in t e x in
    let place = found same_body bodies_decide (map body_of (codes t.edges)) e (body_of is)
    (slice_get-map body_of (codes t.edges) e ∙ ap (option_map body_of) (code_stands t e x at)) in
    ap (λ (edge : Option Edge). Rattle.plan_image.specs.Code.edge_code (Some (used_bodies (codes t.edges))) edge) (image_edge t e x at)
    ∙ ap (λ (b : Option Body). with_operands (or_empty b) (operands_of is)) place
    ∙ (split is).0
