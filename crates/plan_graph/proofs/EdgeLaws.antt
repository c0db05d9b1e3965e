-- Laws about the files, waits and defaults of all edges.
use Rattle.std.proofs.Common.{◌≡◌, ◌≢◌, ◌<◌, ◌+◌, ◌++◌, ◌∷◌, [], ◌∙◌, inl, inr, Bool, true, false, List, ℕ, zero, suc, Some, ap, arith, bytes_eq, get_or, length, map, refl, subst, sym}
use Rattle.std.specs.Prelude.{◌||◌, All, Contains, flat_map, if◌then◌else◌, slice_get, slice_index}
use Rattle.std.specs.Cmp.Lexicographic.{nat_list_eq_equiv}
use Rattle.std.specs.List.{AllPairs}
use Rattle.std.specs.List.Sorted.{IsStrictlyIncreasing}
use Rattle.std.proofs.lemmas.List.{get_or-map}
use Rattle.std.proofs.lemmas.List.Quantifiers.{all_pairs_push}
use Rattle.std.proofs.lemmas.Map.Views.{list_any-from_Contains}
use Rattle.std.proofs.lemmas.Option.{get_or_from_slice_get, slice_get_within}
use Rattle.std.proofs.lemmas.Slice.Eq.{bytes_eq-Decides}
use Rattle.plan_scope.specs.declared.manifest.DefaultTarget.{DefaultTarget}
use Rattle.plan_scope.specs.Edge.{Edge}
use Rattle.plan_scope.specs.Edges.{is_among}
use Rattle.plan_graph.specs.Cycles.{WaitsFor}
use Rattle.plan_graph.specs.Files.{Path, number_of, with_path, with_paths}
use Rattle.plan_graph.specs.Graph.{all_waits, default_edges, files_of, inputs_named, inputs_of, is_last, producer_of, produces_any, numbers_from, outputs_of, waits_of}
use Rattle.plan_graph.proofs.BuildGraphLemmas.{numbers_below, row_of}
use Rattle.plan_graph.proofs.MemberLemmas.{In, Rises, contained, in_any, in_flat, in_list, some_is}
use Rattle.plan_graph.proofs.NumberLemmas.{among_given, among_kept, names}
use Rattle.plan_graph.proofs.WaitsLemmas.{producer_found, numbers_kept, numbers_rise}

-- a list of numbers, each less than the next
rises_order : (n : ℕ) (xs : List ℕ) → Rises n xs → IsStrictlyIncreasing xs
rises_order n [] r k h = absurd (omega (arith, h))
rises_order n (x ∷ []) r k h = absurd (omega (arith, h))
rises_order n (x ∷ y ∷ xs) r zero h = omega (arith, r.1.0)
rises_order n (x ∷ y ∷ xs) r (suc k) h =
    let next : suc (k + 1) ≡ suc k + 1 = omega arith in
    subst (λ j. slice_index (x ∷ y ∷ xs) (suc k) < slice_index (x ∷ y ∷ xs) j) next (rises_order (x + 1) (y ∷ xs) r.1 k (omega (arith, h)))

numbers_ascend : (test : Edge → Bool) (edges : List Edge) → IsStrictlyIncreasing (numbers_from 0 test edges)
numbers_ascend test edges = rises_order 0 (numbers_from 0 test edges) (numbers_rise 0 test edges)

nothing_ascends : IsStrictlyIncreasing []
nothing_ascends k h = absurd (omega (arith, h))

-- the waits of an edge ascend, and are edges
pub waits_in_order : (edges : List Edge) (n : ℕ) → IsStrictlyIncreasing (get_or (all_waits edges) n []) × All (λ w. w < length edges) (get_or (all_waits edges) n [])
waits_in_order edges n = elim (row_of (waits_of edges) edges n) [
  | inl empty ↦ subst (λ (row : List ℕ). IsStrictlyIncreasing row × All (λ w. w < length edges) row) (sym empty) (nothing_ascends, λ k d h. absurd (omega (arith, h)))
  | inr some ↦
      subst (λ (row : List ℕ). IsStrictlyIncreasing row × All (λ w. w < length edges) row) (sym some.1)
      (numbers_ascend (produces_any (inputs_of some.0)) edges, numbers_below (produces_any (inputs_of some.0)) edges)
]

-- the default edges ascend, and are edges
pub defaults_in_order : (edges : List Edge) (defaults : List DefaultTarget) → IsStrictlyIncreasing (default_edges edges defaults) × All (λ n. n < length edges) (default_edges edges defaults)
defaults_in_order edges [] = (numbers_ascend (is_last edges) edges, numbers_below (is_last edges) edges)
defaults_in_order edges (d ∷ ds) = let test = produces_any (map (λ t. t.path) (d ∷ ds)) in (numbers_ascend test edges, numbers_below test edges)

-- an edge waits for the producers of its inputs
pub producers_are_waited : (edges : List Edge) (n w : ℕ) (e : Edge) (path : Path) → slice_get edges n ≡ Some e → Contains (inputs_of e) path → producer_of edges path ≡ Some w → WaitsFor (all_waits edges) n w
producers_are_waited edges n w e path here used producer =
    let lt = slice_get_within edges n e here in
    let row : get_or (all_waits edges) n [] ≡ waits_of edges e = get_or-map (waits_of edges) edges n e [] lt ∙ ap (waits_of edges) (get_or_from_slice_get edges n e e here) in
    let found = producer_found 0 edges path w producer in
    let test = produces_any (inputs_of e) in
    let makes : test found.edge ≡ true = in_any (is_among (outputs_of found.edge)) (inputs_of e) path (in_list (inputs_of e) path used) found.passes in
    let kept : In (0 + found.place) (numbers_from 0 test edges) = numbers_kept 0 test edges found.place found.edge found.here makes in
    let there : In w (waits_of edges e) = subst (λ k. In k (waits_of edges e)) (sym found.counts) kept in
    subst (λ (r : List ℕ). Contains r w) (sym row) (contained (waits_of edges e) w there)

-- the path at its number
place_given : (ps : List Path) (p : Path) → is_among ps p ≡ true → slice_get ps (number_of ps p) ≡ Some p
place_given [] p h = cc
place_given (x ∷ ps) p h =
    elim (bytes_eq p x) as (λ b. bytes_eq p x ≡ b → (b || is_among ps p) ≡ true → slice_get (x ∷ ps) (if b then 0 else suc (number_of ps p)) ≡ Some p)
    [ true ↦ λ e _. ap (λ (q : Path). Some q) (sym ((bytes_eq-Decides p x).0 e)) | false ↦ λ e i. place_given ps p i ] refl h

given_later : (seen ps : List Path) (p : Path) → In p ps → is_among (with_paths seen ps) p ≡ true
given_later seen [] p h = absurd h
given_later seen (x ∷ ps) p h = elim h [
  | inl e ↦ subst (λ q. is_among (with_paths (with_path seen x) ps) q ≡ true) e (among_kept (with_path seen x) ps x (among_given seen x))
  | inr i ↦ given_later (with_path seen x) ps p i
]

edge_in : (edges : List Edge) (n : ℕ) (e : Edge) → slice_get edges n ≡ Some e → In e edges
edge_in [] n e h = cc
edge_in (x ∷ es) zero e h = inl (some_is x e h)
edge_in (x ∷ es) (suc n) e h = inr (edge_in es n e h)

-- each path that an edge names is a file, at its number
pub all_named : (edges : List Edge) (n : ℕ) (e : Edge) (path : Path) → slice_get edges n ≡ Some e → Contains (outputs_of e ++ inputs_named e) path → slice_get (files_of edges) (number_of (files_of edges) path) ≡ Some path
all_named edges n e path here named =
    place_given (files_of edges) path (given_later [] (flat_map names edges) path (in_flat names edges e path (edge_in edges n e here) (in_list (names e) path named)))

-- no path is repeated
place_of_item : (seen : List Path) (k : ℕ) (d p : Path) → k < length seen → get_or seen k d ≡ p → get_or seen k p ≡ p
place_of_item [] k d p lt same = absurd (omega (arith, lt))
place_of_item (x ∷ seen) zero d p lt same = same
place_of_item (x ∷ seen) (suc k) d p lt same = place_of_item seen k d p (omega (arith, lt)) same

apart_last : (seen : List Path) (p : Path) → is_among seen p ≡ false → (k : ℕ) (d : Path) → k < length seen → get_or seen k d ≢ p
apart_last seen p h k d lt same =
    let there : is_among seen p ≡ true = list_any-from_Contains nat_list_eq_equiv p seen (k, lt, place_of_item seen k d p lt same) in cc

distinct_step : (seen : List Path) (p : Path) → AllPairs (λ x y. x ≢ y) seen → AllPairs (λ x y. x ≢ y) (with_path seen p)
distinct_step seen p h =
    elim (is_among seen p) as (λ b. is_among seen p ≡ b → AllPairs (λ x y. x ≢ y) (if b then seen else seen ++ p ∷ []))
    [ true ↦ λ e. h | false ↦ λ e. all_pairs_push (λ x y. x ≢ y) seen p h (apart_last seen p e) ] refl

distinct_all : (seen ps : List Path) → AllPairs (λ x y. x ≢ y) seen → AllPairs (λ x y. x ≢ y) (with_paths seen ps)
distinct_all seen [] h = h
distinct_all seen (p ∷ ps) h = distinct_all (with_path seen p) ps (distinct_step seen p h)

-- no file is repeated
pub none_twice : (edges : List Edge) → AllPairs (λ x y. x ≢ y) (files_of edges)
none_twice edges = distinct_all [] (flat_map names edges) (λ i j d h g same. omega (arith, g))
