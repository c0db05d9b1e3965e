-- A manifest that has a graph is sound: its edges' files are in the table, ranks ascend along waits, and no
-- file is produced twice.
use Rattle.std.proofs.Common.{◌≡◌, ℕ, zero, suc, ◌+◌, ◌<◌, Bool, true, false, List, [], ◌∷◌, ◌++◌, length, map, take, drop, Option, Some, None, refl, sym, ap, subst, ◌∙◌, arith, cond, inl, inr}
use Rattle.std.specs.Prelude.{◌⊎◌, ◌||◌, not, slice_get, slice_index, get_or, nat_le, nat_lt, Contains, All, filter, flat_map, bytes_eq, if◌then◌else◌}
use Rattle.std.specs.List.{list_any}
use Rattle.std.proofs.lemmas.Bool.{eqb-true, eq-eqb, lt-ltb}
use Rattle.std.proofs.lemmas.Slice.Eq.{bytes_eq-Decides}
use Rattle.plan_scope.specs.Edge.{Edge as ManifestEdge}
use Rattle.plan_scope.specs.declared.manifest.DefaultTarget.{DefaultTarget}
use Rattle.plan_scope.specs.declared.manifest.Manifest.{Manifest}
use Rattle.plan_scope.specs.Edges.{is_among}
use Rattle.plan_scope.specs.Scopes.{or_else}
use Rattle.plan_scope.specs.Sound.{IsSoundEdge, names_of}
use Rattle.plan_scope.specs.Sound.{IsSound as IsSoundManifest}
use Rattle.plan_graph.specs.declared.fault.GraphFault.TheVariants.{TwoProducers}
use Rattle.plan_graph.specs.declared.graph_data.Graph.{Graph}
use Rattle.plan_graph.specs.Cycles.{WaitsFor}
use Rattle.plan_graph.specs.Files.{Path, number_of, paths_in, producer_at}
use Rattle.plan_graph.specs.Graph.{IsGraph, outputs_of, inputs_named, named_inputs_of, order_only_of, inputs_of, all_waits, files_of, producer_of, producer_from, second_producer, unknown_target, edge_limit, targets_above, fault_past}
use Rattle.plan_graph.specs.Graph.{without_own as without_own_paths}
use Rattle.plan_graph.specs.Laws.{FilesComplete, ProducersNumbered, ProducersWaited, RanksRise, WaitsAscend, DefaultsAscend}
use Rattle.plan_verify.specs.Members.{is_member}
use Rattle.plan_compile.specs.declared.baseline.OutOfDateRule.{OutOfDateRule}
use Rattle.plan_compile.specs.Builds.{Build, without_own, without_made, is_maker, named_count, build_at, builds_from, builds}
use Rattle.plan_compile.specs.Faithful.{IsEdge, IsSound}
use Rattle.plan_compile.proofs.ListLemmas.{some_is, bool_cases}
use Rattle.plan_compile.proofs.MemberLemmas.{In, in_list, contained, in_get, get_in, member_in, in_member, in_take, in_drop, filter_in, in_filter, in_map, map_in, in_append, append_left, append_right, none_above, of_all, get_lt, row_of}

-- ---- the edges

pub build_here : (rule : OutOfDateRule) (g : Graph) (n : ℕ) (es : List ManifestEdge) (e : ℕ) (x : Build) → slice_get (builds_from rule g n es) e ≡ Some x
    → (edge : ManifestEdge) × (slice_get es e ≡ Some edge) × (build_at rule g (n + e) edge ≡ x)
build_here rule g n [] e x h = absurd cc
build_here rule g n (y ∷ es) zero x h = (y, refl, ap (λ (k : ℕ). build_at rule g k y) (let eq : n + zero ≡ n = omega arith in eq) ∙ some_is (build_at rule g n y) x h)
build_here rule g n (y ∷ es) (suc e) x h =
    let r = build_here rule g (suc n) es e x h in
    (r.0, r.1, ap (λ (k : ℕ). build_at rule g k r.0) (let eq : n + suc e ≡ suc n + e = omega arith in eq) ∙ r.2)

pub here_build : (rule : OutOfDateRule) (g : Graph) (n : ℕ) (es : List ManifestEdge) (e : ℕ) (edge : ManifestEdge) → slice_get es e ≡ Some edge → slice_get (builds_from rule g n es) e ≡ Some (build_at rule g (n + e) edge)
here_build rule g n [] e edge h = absurd cc
here_build rule g n (y ∷ es) zero edge h =
    ap (λ (z : ManifestEdge). Some (build_at rule g n z)) (some_is y edge h) ∙ ap (λ (k : ℕ). Some (build_at rule g k edge)) (let eq : n ≡ n + zero = omega arith in eq)
here_build rule g n (y ∷ es) (suc e) edge h =
    here_build rule g (suc n) es e edge h ∙ ap (λ (k : ℕ). Some (build_at rule g k edge)) (let eq : suc n + e ≡ n + suc e = omega arith in eq)

pub builds_length : (rule : OutOfDateRule) (g : Graph) (n : ℕ) (es : List ManifestEdge) → length (builds_from rule g n es) ≡ length es
builds_length rule g n [] = refl
builds_length rule g n (y ∷ es) = ap suc (builds_length rule g (suc n) es)

-- ---- no path is an output of one edge twice

else_none : {V : Type 0} (a b : Option V) → or_else a b ≡ None → (a ≡ None) × (b ≡ None)
else_none (Some v) b h = absurd cc
else_none None b h = (refl, h)

second_none : (e : ManifestEdge) (above es : List ManifestEdge) (defaults : List DefaultTarget) (k : ℕ) → fault_past above defaults es ≡ None → slice_get es k ≡ Some e
    → (paths : List Path) × (second_producer paths (outputs_of e) ≡ None)
second_none e above [] defaults k h at = absurd cc
second_none e above (x ∷ es) defaults zero h at =
    let due : ℕ = targets_above (length above) defaults in
    let first = else_none (unknown_target above (take due defaults)) _ h in
    let second = else_none (second_producer (flat_map outputs_of above) (outputs_of x)) _ first.1 in
    (flat_map outputs_of above, subst (λ (y : ManifestEdge). second_producer (flat_map outputs_of above) (outputs_of y) ≡ None) (some_is x e at) second.0)
second_none e above (x ∷ es) defaults (suc k) h at =
    let due : ℕ = targets_above (length above) defaults in
    let first = else_none (unknown_target above (take due defaults)) _ h in
    let second = else_none (second_producer (flat_map outputs_of above) (outputs_of x)) _ first.1 in
    let third = else_none (edge_limit above) _ second.1 in
    second_none e (above ++ x ∷ []) es (drop due defaults) k third.1 at

among_here : (path : Path) (above more : List Path) → is_among (above ++ path ∷ more) path ≡ true
among_here path [] more = ap (λ (b : Bool). b || list_any (bytes_eq path) more) ((bytes_eq-Decides path path).1 refl)
among_here path (a ∷ above) more = or_true (bytes_eq path a) (is_among (above ++ path ∷ more) path) (among_here path above more)
  where
    or_true : (a b : Bool) → b ≡ true → (a || b) ≡ true
    or_true true b h = refl
    or_true false b h = h

-- a path that is above is not among these
not_above : (path : Path) (above more os : List Path) (j : ℕ) → second_producer (above ++ path ∷ more) os ≡ None → slice_get os j ≡ Some path → ⊥
not_above path above more [] j h at = absurd cc
not_above path above more (o ∷ os) zero h at =
    let is : o ≡ path = some_is o path at in
    let there : is_among (above ++ path ∷ more) o ≡ true = ap (λ (p : Path). is_among (above ++ path ∷ more) p) is ∙ among_here path above more in
    refused (is_among (above ++ path ∷ more) o) there h
  where
    refused : (b : Bool) → b ≡ true → (if b then Some (TwoProducers o) else second_producer ((above ++ path ∷ more) ++ o ∷ []) os) ≡ None → ⊥
    refused true e g = absurd cc
    refused false e g = absurd cc
not_above path above more (o ∷ os) (suc j) h at =
    not_above path above (more ++ o ∷ []) os j (subst (λ (ps : List Path). second_producer ps os ≡ None) (assoc above) (rest (is_among (above ++ path ∷ more) o) h)) at
  where
    rest : (b : Bool) → (if b then Some (TwoProducers o) else second_producer ((above ++ path ∷ more) ++ o ∷ []) os) ≡ None
        → second_producer ((above ++ path ∷ more) ++ o ∷ []) os ≡ None
    rest true g = absurd cc
    rest false g = g

    assoc : (xs : List Path) → (xs ++ path ∷ more) ++ o ∷ [] ≡ xs ++ path ∷ (more ++ o ∷ [])
    assoc [] = refl
    assoc (x ∷ xs) = ap (λ (ys : List Path). x ∷ ys) (assoc xs)

-- if there is no second producer, the first path is not among the others
first_apart : (above os : List Path) (o : Path) → second_producer above (o ∷ os) ≡ None → second_producer (above ++ o ∷ []) os ≡ None
first_apart above os o h = past (is_among above o) h
  where
    past : (c : Bool) → (if c then Some (TwoProducers o) else second_producer (above ++ o ∷ []) os) ≡ None → second_producer (above ++ o ∷ []) os ≡ None
    past true g = absurd cc
    past false g = g

first_once : (above os : List Path) (o path : Path) (j : ℕ) → second_producer above (o ∷ os) ≡ None → o ≡ path → slice_get os j ≡ Some path → ⊥
first_once above os o path j h is at = not_above path above [] os j (subst (λ (p : Path). second_producer (above ++ p ∷ []) os ≡ None) is (first_apart above os o h)) at

-- two indices of one path are equal
one_place : (above os : List Path) (i j : ℕ) (path : Path) → second_producer above os ≡ None → slice_get os i ≡ Some path → slice_get os j ≡ Some path → i ≡ j
one_place above [] i j path h a b = absurd cc
one_place above (o ∷ os) zero zero path h a b = refl
one_place above (o ∷ os) zero (suc j) path h a b = absurd (first_once above os o path j h (some_is o path a) b)
one_place above (o ∷ os) (suc i) zero path h a b = absurd (first_once above os o path i h (some_is o path b) a)
one_place above (o ∷ os) (suc i) (suc j) path h a b = ap suc (one_place (above ++ o ∷ []) os i j path (first_apart above os o h) a b)

-- ---- the facts about each edge in a graph

module _ (rule : OutOfDateRule) (m : Manifest) (g : Graph) (graph : IsGraph m g) (complete : FilesComplete) where
  abbrev table : List Path
  table = files_of m.edges

  abbrev numbers : List Path → List ℕ
  numbers paths = map (number_of table) paths

  pub outputs_are : (n : ℕ) (e : ManifestEdge) → slice_get m.edges n ≡ Some e → get_or g.outputs n [] ≡ numbers (outputs_of e)
  outputs_are n e at =
      ap (λ (rows : List (List ℕ)). get_or rows n []) graph.outputs ∙ row_of (λ (x : ManifestEdge). map (number_of table) (outputs_of x)) m.edges n e [] at

  pub inputs_are : (n : ℕ) (e : ManifestEdge) → slice_get m.edges n ≡ Some e → get_or g.inputs n [] ≡ numbers (inputs_named e)
  inputs_are n e at =
      ap (λ (rows : List (List ℕ)). get_or rows n []) graph.inputs ∙ row_of (λ (x : ManifestEdge). map (number_of table) (inputs_named x)) m.edges n e [] at

  -- a path that an edge names is at its number
  stands : (n : ℕ) (e : ManifestEdge) (path : Path) → slice_get m.edges n ≡ Some e → In path (outputs_of e ++ inputs_named e) → slice_get table (number_of table path) ≡ Some path
  stands n e path at there = complete m.edges n e path at (contained (outputs_of e ++ inputs_named e) path there)

  abbrev files_are : List Path
  files_are = paths_in g.files

  pub inside : (n : ℕ) (e : ManifestEdge) (path : Path) → slice_get m.edges n ≡ Some e → In path (outputs_of e ++ inputs_named e) → number_of table path < length (paths_in g.files)
  inside n e path at there =
      let lt : number_of table path < length table = get_lt table (number_of table path) path (stands n e path at there) in
      let same : length (paths_in g.files) ≡ length table = ap (λ (ps : List Path). length ps) graph.files in
      omega (arith, lt, same)

  -- ---- an edge's numbers are those of its paths

  output_path : (n : ℕ) (e : ManifestEdge) (f : ℕ) → slice_get m.edges n ≡ Some e → In f (build_at rule g n e).outputs → (path : Path) × In path (outputs_of e) × (number_of table path ≡ f)
  output_path n e f at there = in_map (number_of table) (outputs_of e) f (subst (λ (fs : List ℕ). In f fs) (outputs_are n e at) there)

  -- an input that is kept is one of the named paths, and for a phony it is no own output
  kept_input : (n : ℕ) (e : ManifestEdge) (f : ℕ) (row : List ℕ) → slice_get m.edges n ≡ Some e → ((k : ℕ) → In k row → In k (get_or g.inputs n []))
      → In f (without_own e.phony (get_or g.outputs n []) row)
      → (path : Path) × In path (inputs_named e) × (number_of table path ≡ f) × (e.phony ≡ true → is_member f (get_or g.outputs n []) ≡ false)
  kept_input n e f row at part there = by_sort e.phony refl there
    where
      by_sort : (b : Bool) → e.phony ≡ b → In f (without_own b (get_or g.outputs n []) row)
          → (path : Path) × In path (inputs_named e) × (number_of table path ≡ f) × (e.phony ≡ true → is_member f (get_or g.outputs n []) ≡ false)
      by_sort true is h =
          let r = filter_in (λ k. not (is_member k (get_or g.outputs n []))) row f h in
          let p = in_map (number_of table) (inputs_named e) f (subst (λ (fs : List ℕ). In f fs) (inputs_are n e at) (part f r.0)) in
          (p.0, p.1, p.2, λ phony. not_true (is_member f (get_or g.outputs n [])) r.1)
        where
          not_true : (c : Bool) → not c ≡ true → c ≡ false
          not_true true e = absurd cc
          not_true false e = refl
      by_sort false is h =
          let p = in_map (number_of table) (inputs_named e) f (subst (λ (fs : List ℕ). In f fs) (inputs_are n e at) (part f h)) in
          (p.0, p.1, p.2, λ phony. absurd (let clash : true ≡ false = sym phony ∙ is in cc))

  named_input : (n : ℕ) (e : ManifestEdge) (f : ℕ) → slice_get m.edges n ≡ Some e → In f (build_at rule g n e).named
      → (path : Path) × In path (inputs_named e) × (number_of table path ≡ f) × (e.phony ≡ true → is_member f (get_or g.outputs n []) ≡ false)
  named_input n e f at there = kept_input n e f (take (named_count e (get_or g.inputs n [])) (get_or g.inputs n [])) at (λ k i. in_take (named_count e (get_or g.inputs n [])) (get_or g.inputs n []) k i) there

  ordered_input : (n : ℕ) (e : ManifestEdge) (f : ℕ) → slice_get m.edges n ≡ Some e → In f (build_at rule g n e).order_only
      → (path : Path) × In path (inputs_named e) × (number_of table path ≡ f) × (e.phony ≡ true → is_member f (get_or g.outputs n []) ≡ false)
  ordered_input n e f at there = kept_input n e f (drop (named_count e (get_or g.inputs n [])) (get_or g.inputs n [])) at (λ k i. in_drop (named_count e (get_or g.inputs n [])) (get_or g.inputs n []) k i) there

  -- ---- inputs, as the graph speaks of them

  among_in : (paths : List Path) (path : Path) → is_among paths path ≡ true → In path paths
  among_in [] path h = absurd cc
  among_in (p ∷ paths) path h =
      elim (bytes_eq path p) as (λ b. bytes_eq path p ≡ b → (b || is_among paths path) ≡ true → In path (p ∷ paths))
      [ true ↦ λ e k. inl (sym ((bytes_eq-Decides path p).0 e)) | false ↦ λ e k. inr (among_in paths path k) ] refl h

  kept_path : (n : ℕ) (e : ManifestEdge) (path : Path) (paths : List Path) → slice_get m.edges n ≡ Some e → In path paths
      → (e.phony ≡ true → is_member (number_of table path) (get_or g.outputs n []) ≡ false) → In path (without_own_paths e paths)
  kept_path n e path paths at there others = by_sort e.phony refl
    where
      by_sort : (b : Bool) → e.phony ≡ b → In path (if b then filter (λ p. not (is_among (outputs_of e) p)) paths else paths)
      by_sort false is = there
      by_sort true is = in_filter (λ p. not (is_among (outputs_of e) p)) paths path there (not_own (is_among (outputs_of e) path) refl)
        where
          not_own : (c : Bool) → is_among (outputs_of e) path ≡ c → not c ≡ true
          not_own false k = refl
          not_own true k =
              let own : In (number_of table path) (numbers (outputs_of e)) = map_in (number_of table) (outputs_of e) path (among_in (outputs_of e) path k) in
              let member : is_member (number_of table path) (get_or g.outputs n []) ≡ true =
              in_member (number_of table path) (get_or g.outputs n []) (subst (λ (fs : List ℕ). In (number_of table path) fs) (sym (outputs_are n e at)) own) in
              absurd (let clash : true ≡ false = sym member ∙ others is in cc)

  real_input : (n : ℕ) (e : ManifestEdge) (path : Path) → slice_get m.edges n ≡ Some e → In path (inputs_named e)
      → (e.phony ≡ true → is_member (number_of table path) (get_or g.outputs n []) ≡ false) → In path (inputs_of e)
  real_input n e path at there others = by_part (in_append e.paths.inputs (e.paths.implicit_inputs ++ e.paths.order_only_inputs) path there)
    where
      named : In path (e.paths.inputs ++ e.paths.implicit_inputs) → In path (inputs_of e)
      named i = append_left (named_inputs_of e) (order_only_of e) path (kept_path n e path (e.paths.inputs ++ e.paths.implicit_inputs) at i others)

      by_rest : In path e.paths.implicit_inputs ⊎ In path e.paths.order_only_inputs → In path (inputs_of e)
      by_rest (inl i) = named (append_right e.paths.inputs e.paths.implicit_inputs path i)
      by_rest (inr i) = append_right (named_inputs_of e) (order_only_of e) path (kept_path n e path e.paths.order_only_inputs at i others)

      by_part : In path e.paths.inputs ⊎ In path (e.paths.implicit_inputs ++ e.paths.order_only_inputs) → In path (inputs_of e)
      by_part (inl i) = named (append_left e.paths.inputs e.paths.implicit_inputs path i)
      by_part (inr i) = by_rest (in_append e.paths.implicit_inputs e.paths.order_only_inputs path i)

  -- two paths with one number are equal
  pub one_path : (n k : ℕ) (e d : ManifestEdge) (path other : Path) (f : ℕ) → slice_get m.edges n ≡ Some e → slice_get m.edges k ≡ Some d
      → In path (outputs_of e ++ inputs_named e) → In other (outputs_of d ++ inputs_named d) → number_of table path ≡ f → number_of table other ≡ f → path ≡ other
  one_path n k e d path other f at there i j h l =
      some_is path other (sym (stands n e path at i) ∙ ap (λ (q : ℕ). slice_get table q) (h ∙ sym l) ∙ stands k d other there j)

  -- ---- the files that an edge makes

  producer_place : (k : ℕ) (es : List ManifestEdge) (path : Path) (n : ℕ) → producer_from k es path ≡ Some n
      → (j : ℕ) × (d : ManifestEdge) × (n ≡ k + j) × (slice_get es j ≡ Some d) × (is_among (outputs_of d) path ≡ true)
  producer_place k [] path n h = absurd cc
  producer_place k (d ∷ es) path n h =
      elim (bool_cases (is_among (outputs_of d) path)) as (λ c. (j : ℕ) × (x : ManifestEdge) × (n ≡ k + j) × (slice_get (d ∷ es) j ≡ Some x) × (is_among (outputs_of x) path ≡ true)) [
        | inl makes ↦
            let is : k ≡ n = some_is k n (subst (λ (b : Bool). (if b then Some k else producer_from (k + 1) es path) ≡ Some n) makes h) in
            (0, d, omega (arith, is), refl, makes)
        | inr other ↦
            let r = producer_place (k + 1) es path n (subst (λ (b : Bool). (if b then Some k else producer_from (k + 1) es path) ≡ Some n) other h) in
            (suc r.0, r.1, omega (arith, r.2), r.3, r.4)
      ]

  both_ways : (a b : Bool) → (a ≡ true → b ≡ true) → (b ≡ true → a ≡ true) → a ≡ b
  both_ways true b f h = sym (f refl)
  both_ways false true f h = h refl
  both_ways false false f h = refl

  -- an edge produces exactly its outputs
  pub own_made : ProducersNumbered → (n : ℕ) (e : ManifestEdge) (f : ℕ) → slice_get m.edges n ≡ Some e → In f (get_or g.inputs n [])
      → is_maker (producer_at g.files f) n ≡ is_member f (get_or g.outputs n [])
  own_made numbered n e f at there =
      let p = in_map (number_of table) (inputs_named e) f (subst (λ (fs : List ℕ). In f fs) (inputs_are n e at) there) in
      let named : In p.0 (outputs_of e ++ inputs_named e) = append_right (outputs_of e) (inputs_named e) p.0 p.1 in
      let maker : producer_at g.files f ≡ producer_of m.edges p.0 =
      ap (λ (k : ℕ). producer_at g.files k) (sym p.2 ∙ ap (λ (ps : List Path). number_of ps p.0) (sym graph.files)) ∙ numbered g.files p.0 ∙ graph.producers p.0 in
      both_ways (is_maker (producer_at g.files f) n) (is_member f (get_or g.outputs n []))
      (λ h. makes_it p.0 (producer_of m.edges p.0) refl (ap (λ (o : Option ℕ). is_maker o n) (sym maker) ∙ h) p.2)
      (λ h.
      let q = in_map (number_of table) (outputs_of e) f (subst (λ (fs : List ℕ). In f fs) (outputs_are n e at) (member_in f (get_or g.outputs n []) h)) in
      let same : p.0 ≡ q.0 = one_path n n e e p.0 q.0 f at at named (append_left (outputs_of e) (inputs_named e) q.0 q.1) p.2 q.2 in
      let own : producer_of m.edges p.0 ≡ Some n = ap (λ (path : Path). producer_of m.edges path) same ∙ graph.own n e q.0 at (contained (outputs_of e) q.0 q.1) in
      ap (λ (o : Option ℕ). is_maker o n) (maker ∙ own) ∙ eq-eqb n n refl)
    where
      makes_it : (path : Path) (o : Option ℕ) → producer_of m.edges path ≡ o → is_maker o n ≡ true → number_of table path ≡ f → is_member f (get_or g.outputs n []) ≡ true
      makes_it path None is h number = absurd cc
      makes_it path (Some k) is h number =
          let r = producer_place 0 m.edges path k is in
          let place : r.0 ≡ n = let eq : k ≡ n = eqb-true k n h in omega (arith, r.2, eq) in
          let edge : r.1 ≡ e = some_is r.1 e (sym r.3 ∙ ap (λ (x : ℕ). slice_get m.edges x) place ∙ at) in
          let own : In path (outputs_of e) = among_in (outputs_of e) path (ap (λ (d : ManifestEdge). is_among (outputs_of d) path) (sym edge) ∙ r.4) in
          in_member f (get_or g.outputs n []) (subst (λ (x : ℕ). In x (get_or g.outputs n [])) number
          (subst (λ (fs : List ℕ). In (number_of table path) fs) (sym (outputs_are n e at)) (map_in (number_of table) (outputs_of e) path own)))

  filter_same : (a b : ℕ → Bool) (row : List ℕ) → ((f : ℕ) → In f row → a f ≡ b f) → filter (λ f. not (a f)) row ≡ filter (λ f. not (b f)) row
  filter_same a b [] h = refl
  filter_same a b (f ∷ row) h =
      ap (λ (c : Bool). cond (not c) (f ∷ filter (λ k. not (a k)) row) (filter (λ k. not (a k)) row)) (h f (inl refl))
      ∙ ap (λ (fs : List ℕ). cond (not (b f)) (f ∷ fs) fs) (filter_same a b row (λ k i. h k (inr i)))

  pub without_same : ProducersNumbered → (n : ℕ) (e : ManifestEdge) (row : List ℕ) → slice_get m.edges n ≡ Some e → ((f : ℕ) → In f row → In f (get_or g.inputs n []))
      → (phony : Bool) → without_made g.files n phony row ≡ without_own phony (get_or g.outputs n []) row
  without_same numbered n e row at part true =
      filter_same (λ f. is_maker (producer_at g.files f) n) (λ f. is_member f (get_or g.outputs n [])) row (λ f i. own_made numbered n e f at (part f i))
  without_same numbered n e row at part false = refl

  -- ---- the record

  module _ (waited : ProducersWaited) (rise : RanksRise) (ascend : WaitsAscend) (within : DefaultsAscend) (whole : IsSoundManifest m) where
    abbrev row : ℕ → List ℕ
    row n = get_or g.waits n []

    waits_for : (n w : ℕ) → WaitsFor (all_waits m.edges) n w → is_member w (row n) ≡ true
    waits_for n w h =
        let same : get_or (all_waits m.edges) n [] ≡ row n = ap (λ (rows : List (List ℕ)). get_or rows n []) (sym graph.waits) in
        in_member w (row n) (in_list (row n) w (subst (λ (ws : List ℕ). Contains ws w) same h))

    for_waits : (n w : ℕ) → is_member w (row n) ≡ true → WaitsFor g.waits n w
    for_waits n w h = contained (row n) w (member_in w (row n) h)

    wait_inside : (n w : ℕ) → is_member w (row n) ≡ true → w < length m.edges
    wait_inside n w h =
        let same : get_or (all_waits m.edges) n [] ≡ row n = ap (λ (rows : List (List ℕ)). get_or rows n []) (sym graph.waits) in
        let at = get_in (row n) w (member_in w (row n) h) in
        of_all (λ v. v < length m.edges) (row n) at.0 w (subst (λ (ws : List ℕ). All (λ v. v < length m.edges) ws) same (ascend m.edges n).1) at.1

    some_edge : (k : ℕ) → k < length m.edges → (e : ManifestEdge) × (slice_get m.edges k ≡ Some e)
    some_edge k lt = get_edge m.edges k lt
      where
        get_edge : (es : List ManifestEdge) (j : ℕ) → j < length es → (e : ManifestEdge) × (slice_get es j ≡ Some e)
        get_edge [] j h = absurd (omega arith)
        get_edge (x ∷ es) zero h = (x, refl)
        get_edge (x ∷ es) (suc j) h = get_edge es j (omega (arith, h))

    -- an edge of the manifest with its numbers, instead of an edge of the builds
    at_edge : (P : ℕ → Build → Type 0) → ((n : ℕ) (e : ManifestEdge) → slice_get m.edges n ≡ Some e → P n (build_at rule g n e)) → (n : ℕ) (x : Build) → IsEdge (builds rule m g) n x → P n x
    at_edge P h n x at =
        let r = build_here rule g 0 m.edges n x at in
        let same : 0 + n ≡ n = omega arith in
        subst (λ (y : Build). P n y) (ap (λ (k : ℕ). build_at rule g k r.0) (sym same) ∙ r.2) (h n r.0 r.1)

    build_is : (n : ℕ) (e : ManifestEdge) → slice_get m.edges n ≡ Some e → IsEdge (builds rule m g) n (build_at rule g n e)
    build_is n e at = here_build rule g 0 m.edges n e at ∙ ap (λ (k : ℕ). Some (build_at rule g k e)) (let eq : 0 + n ≡ n = omega arith in eq)

    makes : (n : ℕ) (e : ManifestEdge) → slice_get m.edges n ≡ Some e → (build_at rule g n e).outputs ≡ [] → ⊥
    makes n e at none =
        let sound : IsSoundEdge (names_of m.pools) e = of_all (IsSoundEdge (names_of m.pools)) m.edges n e whole.edges at in
        let some = sound.made in
        no_outputs e.paths.outputs e.paths.implicit_outputs some (sym (outputs_are n e at) ∙ none)
      where
        no_outputs : (ps qs : List Path) → 0 < length ps + length qs → numbers (ps ++ qs) ≡ [] → ⊥
        no_outputs [] [] lt h = absurd (omega (arith, lt))
        no_outputs [] (q ∷ qs) lt h = absurd cc
        no_outputs (p ∷ ps) qs lt h = absurd cc

    outputs_inside : (n : ℕ) (e : ManifestEdge) → slice_get m.edges n ≡ Some e → list_any (λ f. nat_le (length (paths_in g.files)) f) (build_at rule g n e).outputs ≡ false
    outputs_inside n e at =
        none_above (length (paths_in g.files)) (build_at rule g n e).outputs λ f there.
        let p = output_path n e f at there in
        subst (λ (k : ℕ). k < length (paths_in g.files)) p.2 (inside n e p.0 at (append_left (outputs_of e) (inputs_named e) p.0 p.1))

    named_inside : (n : ℕ) (e : ManifestEdge) → slice_get m.edges n ≡ Some e → list_any (λ f. nat_le (length (paths_in g.files)) f) (build_at rule g n e).named ≡ false
    named_inside n e at =
        none_above (length (paths_in g.files)) (build_at rule g n e).named λ f there.
        let p = named_input n e f at there in
        subst (λ (k : ℕ). k < length (paths_in g.files)) p.2 (inside n e p.0 at (append_right (outputs_of e) (inputs_named e) p.0 p.1))

    ordered_inside : (n : ℕ) (e : ManifestEdge) → slice_get m.edges n ≡ Some e → list_any (λ f. nat_le (length (paths_in g.files)) f) (build_at rule g n e).order_only ≡ false
    ordered_inside n e at =
        none_above (length (paths_in g.files)) (build_at rule g n e).order_only λ f there.
        let p = ordered_input n e f at there in
        subst (λ (k : ℕ). k < length (paths_in g.files)) p.2 (inside n e p.0 at (append_right (outputs_of e) (inputs_named e) p.0 p.1))

    waits_are : (n : ℕ) (e : ManifestEdge) (w : ℕ) (d : ManifestEdge) (f : ℕ) → slice_get m.edges n ≡ Some e → slice_get m.edges w ≡ Some d
        → is_member f (build_at rule g n e).named ≡ true → is_member f (build_at rule g w d).outputs ≡ true → is_member w (row n) ≡ true
    waits_are n e w d f at there named made =
        let p = named_input n e f at (member_in f (build_at rule g n e).named named) in
        let q = output_path w d f there (member_in f (build_at rule g w d).outputs made) in
        let same : p.0 ≡ q.0 =
        one_path n w e d p.0 q.0 f at there (append_right (outputs_of e) (inputs_named e) p.0 p.1) (append_left (outputs_of d) (inputs_named d) q.0 q.1) p.2 q.2 in
        let producer : producer_of m.edges p.0 ≡ Some w = ap (λ (path : Path). producer_of m.edges path) same ∙ graph.own w d q.0 there (contained (outputs_of d) q.0 q.1) in
        let real : In p.0 (inputs_of e) =
        real_input n e p.0 at p.1 (λ phony. ap (λ (k : ℕ). is_member k (get_or g.outputs n [])) p.2 ∙ p.3 phony) in
        waits_for n w (waited m.edges n w e p.0 at (contained (inputs_of e) p.0 real) producer)

    ranks_are : (n : ℕ) (e : ManifestEdge) (w : ℕ) → slice_get m.edges n ≡ Some e → is_member w (row n) ≡ true
        → (y : Build) × IsEdge (builds rule m g) w y × (nat_lt y.rank (build_at rule g n e).rank ≡ true)
    ranks_are n e w at h =
        let d = some_edge w (wait_inside n w h) in
        (build_at rule g w d.0, build_is w d.0 d.1, lt-ltb (slice_index g.ranks w) (slice_index g.ranks n) (rise g.waits g.ranks n w graph.ranks (for_waits n w h)))

    made_once : (n : ℕ) (e : ManifestEdge) (i : ℕ) (k : ℕ) (d : ManifestEdge) (j : ℕ) (f : ℕ) → slice_get m.edges n ≡ Some e → slice_get m.edges k ≡ Some d
        → slice_get (build_at rule g n e).outputs i ≡ Some f → slice_get (build_at rule g k d).outputs j ≡ Some f → (n ≡ k) × (i ≡ j)
    made_once n e i k d j f at there a b =
        let p = place (outputs_of e) i f (ap (λ (fs : List ℕ). slice_get fs i) (sym (outputs_are n e at)) ∙ a) in
        let q = place (outputs_of d) j f (ap (λ (fs : List ℕ). slice_get fs j) (sym (outputs_are k d there)) ∙ b) in
        let in_p : In p.0 (outputs_of e) = in_get (outputs_of e) i p.0 p.1 in
        let in_q : In q.0 (outputs_of d) = in_get (outputs_of d) j q.0 q.1 in
        let same : p.0 ≡ q.0 =
        one_path n k e d p.0 q.0 f at there (append_left (outputs_of e) (inputs_named e) p.0 in_p) (append_left (outputs_of d) (inputs_named d) q.0 in_q) p.2 q.2 in
        let one : n ≡ k =
        some_is n k (sym (graph.own n e p.0 at (contained (outputs_of e) p.0 in_p)) ∙ ap (λ (path : Path). producer_of m.edges path) same ∙ graph.own k d q.0 there (contained (outputs_of d) q.0 in_q)) in
        let edge : e ≡ d = some_is e d (sym at ∙ ap (λ (x : ℕ). slice_get m.edges x) one ∙ there) in
        let second = second_none e [] m.edges m.defaults n graph.sound at in
        let mine : slice_get (outputs_of e) j ≡ Some p.0 =
        ap (λ (x : ManifestEdge). slice_get (outputs_of x) j) edge ∙ q.1 ∙ ap (λ (path : Path). Some path) (sym same) in
        (one, one_place second.0 (outputs_of e) i j p.0 second.1 p.1 mine)
      where
        place : (ps : List Path) (x f : ℕ) → slice_get (numbers ps) x ≡ Some f → (path : Path) × (slice_get ps x ≡ Some path) × (number_of table path ≡ f)
        place [] x f h = absurd cc
        place (p ∷ ps) zero f h = (p, refl, some_is (number_of table p) f h)
        place (p ∷ ps) (suc x) f h = place ps x f h

    defaults_inside : list_any (λ e. nat_le (length (builds_from rule g 0 m.edges)) e) g.defaults ≡ false
    defaults_inside =
        let all : All (λ n. n < length m.edges) g.defaults = subst (λ (ds : List ℕ). All (λ n. n < length m.edges) ds) (sym graph.defaults) (within m.edges m.defaults).1 in
        let long : length (builds_from rule g 0 m.edges) ≡ length m.edges = builds_length rule g 0 m.edges in
        none_above (length (builds_from rule g 0 m.edges)) g.defaults λ f there.
        let at = get_in g.defaults f there in
        let lt : f < length m.edges = of_all (λ n. n < length m.edges) g.defaults at.0 f all at.1 in
        omega (arith, lt, long)

    pub sound : IsSound (builds rule m g)
    sound = record {
      makes = λ n x at. at_edge (λ k y. y.outputs ≡ [] → ⊥) makes n x at;
      outputs = λ n x at. at_edge (λ k y. list_any (λ f. nat_le (length (paths_in g.files)) f) y.outputs ≡ false) outputs_inside n x at;
      named = λ n x at. at_edge (λ k y. list_any (λ f. nat_le (length (paths_in g.files)) f) y.named ≡ false) named_inside n x at;
      order_only = λ n x at. at_edge (λ k y. list_any (λ f. nat_le (length (paths_in g.files)) f) y.order_only ≡ false) ordered_inside n x at;
      waits = λ n x w y f at there.
          at_edge (λ k z. is_member f z.named ≡ true → is_member f y.outputs ≡ true → is_member w z.waits ≡ true)
          (λ k e here. at_edge (λ v z. is_member f (build_at rule g k e).named ≡ true → is_member f z.outputs ≡ true → is_member v (row k) ≡ true) (λ v d other. waits_are k e v d f here other) w y there)
          n x at;
      ranks = λ n x w at.
          at_edge (λ k z. is_member w z.waits ≡ true → (y : Build) × IsEdge (builds rule m g) w y × (nat_lt y.rank z.rank ≡ true)) (λ k e here. ranks_are k e w here) n x at;
      once = λ n x i k y j f at there.
          at_edge (λ v z. slice_get z.outputs i ≡ Some f → slice_get y.outputs j ≡ Some f → (v ≡ k) × (i ≡ j))
          (λ v e here. at_edge (λ u z. slice_get (build_at rule g v e).outputs i ≡ Some f → slice_get z.outputs j ≡ Some f → (v ≡ u) × (i ≡ j)) (λ u d other. made_once v e i u d j f here other) k y there)
          n x at;
      defaults = defaults_inside;
    }
