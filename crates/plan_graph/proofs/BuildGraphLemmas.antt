-- The facts that a graph is based on. Lemmas for src/build_graph.rt.
use Rattle.std.proofs.Common.{Bool, true, false, ◌≡◌, ◌≢◌, ◌<◌, ◌+◌, ◌++◌, ◌∷◌, [], ◌⊎◌, inl, inr, List, ℕ, zero, suc, Option, Some, None, Result, Ok, Err, ap, arith, ◌∙◌, get_or, length, refl, subst, sym}
use Rattle.std.specs.Cmp.Lexicographic.{nat_list_eq_equiv}
use Rattle.std.proofs.lemmas.Map.Views.{list_any-from_Contains}
use Rattle.std.specs.Prelude.{All, Contains, slice_get, drop, flat_map, if◌then◌else◌, map, nat_le, take}
use Rattle.std.proofs.lemmas.List.{length-map}
use Rattle.std.proofs.lemmas.List.Elements.{Contains-get_or}
use Rattle.std.proofs.lemmas.Option.{slice_get_within}
use Rattle.plan_scope.specs.declared.manifest.DefaultTarget.{DefaultTarget}
use Rattle.plan_scope.specs.Edge.{Edge}
use Rattle.plan_scope.specs.declared.manifest.Manifest.{Manifest}
use Rattle.plan_scope.specs.Scopes.{or_else}
use Rattle.plan_scope.specs.Edges.{is_among}
use Rattle.plan_graph.specs.declared.fault.GraphFault.{GraphFault}
use Rattle.plan_graph.specs.declared.fault.GraphFault.TheVariants.{Cycle, Memory, TooManyEdges, TwoProducers, UnknownDefault}
use Rattle.plan_graph.specs.Files.{Path, Table, paths_in}
use Rattle.plan_graph.specs.Fitting.{Fits}
use Rattle.plan_graph.specs.Graph.{Refuses, all_waits, targets_above, fault_past, first_fault, second_producer, produces_any, max_edges, numbers_from, edge_limit, outputs_of, rows_of, unknown_target, waits_of, inputs_named, inputs_of, producer_of}
use Rattle.plan_graph.specs.Reading.{inputs_past, outputs_past, table_of}
use Rattle.plan_graph.specs.Walking.{InRange, TellsCycle}
use Rattle.plan_graph.proofs.MemberLemmas.{in_list}
use Rattle.plan_graph.proofs.NumberLemmas.{inputs_settle, outputs_settle}
use Rattle.plan_graph.proofs.TableLemmas.{Reads, table_read}
use Rattle.plan_graph.proofs.WaitsLemmas.{numbers_given}

-- if a manifest has a table, there is no fault, and the table fits its edges
pub sound_table : (m : Manifest) (files : Table) → table_of m ≡ Ok files → (first_fault m ≡ None) × Fits files m.edges
sound_table m files e = subst (Reads m.edges (first_fault m)) e (table_read m)

refused_table : (m : Manifest) (fault : GraphFault) → table_of m ≡ Err fault → first_fault m ≡ Some fault
refused_table m fault e = subst (Reads m.edges (first_fault m)) e (table_read m)

-- a fault that is found while build lines are read
abbrev IsRead : Option GraphFault → Type 0
IsRead None = Unit {0}
IsRead (Some (Cycle es)) = ⊥
IsRead (Some Memory) = Unit {0}
IsRead (Some (TwoProducers path)) = Unit {0}
IsRead (Some (UnknownDefault path)) = Unit {0}
IsRead (Some TooManyEdges) = Unit {0}

second_producer_read : (above os : List Path) → IsRead (second_producer above os)
second_producer_read above [] = tt
second_producer_read above (o ∷ os) = elim (is_among above o) as (λ b. IsRead (if b then Some (TwoProducers o) else second_producer (above ++ o ∷ []) os)) [ true ↦ tt | false ↦ second_producer_read (above ++ o ∷ []) os ]

unknown_target_read : (above : List Edge) (ds : List DefaultTarget) → IsRead (unknown_target above ds)
unknown_target_read above [] = tt
unknown_target_read above (d ∷ ds) = elim (is_among (flat_map outputs_of above) d.path) as (λ b. IsRead (if b then unknown_target above ds else Some (UnknownDefault d.path))) [ true ↦ unknown_target_read above ds | false ↦ tt ]

edge_limit_read : (above : List Edge) → IsRead (edge_limit above)
edge_limit_read above = elim (nat_le max_edges (length above)) as (λ b. IsRead (if b then Some TooManyEdges else None)) [ true ↦ tt | false ↦ tt ]

or_read : (a b : Option GraphFault) → IsRead a → IsRead b → IsRead (or_else a b)
or_read None b h g = g
or_read (Some f) b h g = h

past_read : (above : List Edge) (ds : List DefaultTarget) (es : List Edge) → IsRead (fault_past above ds es)
past_read above ds [] = unknown_target_read above ds
past_read above ds (e ∷ es) =
    let due = targets_above (length above) ds in
    let rest = fault_past (above ++ e ∷ []) (drop due ds) es in
    or_read (unknown_target above (take due ds)) (or_else (second_producer (flat_map outputs_of above) (outputs_of e)) (or_else (edge_limit above) rest)) (unknown_target_read above (take due ds))
    (or_read (second_producer (flat_map outputs_of above) (outputs_of e)) (or_else (edge_limit above) rest) (second_producer_read (flat_map outputs_of above) (outputs_of e))
    (or_read (edge_limit above) rest (edge_limit_read above) (past_read (above ++ e ∷ []) (drop due ds) es)))

-- the reason why a manifest has no table
pub refuses : (m : Manifest) (fault : GraphFault) → (fault ≢ Memory → table_of m ≡ Err fault) → Refuses m fault
refuses m Memory h = tt
refuses m (TwoProducers path) h = refused_table m (TwoProducers path) (h (λ e. cc))
refuses m (UnknownDefault path) h = refused_table m (UnknownDefault path) (h (λ e. cc))
refuses m TooManyEdges h = refused_table m TooManyEdges (h (λ e. cc))
refuses m (Cycle es) h = absurd (subst IsRead (refused_table m (Cycle es) (h (λ e. cc))) (past_read [] m.defaults m.edges))

-- a cycle, if there is no other fault
pub refuses_cycle : (m : Manifest) (fault : GraphFault) → first_fault m ≡ None → TellsCycle (all_waits m.edges) fault → Refuses m fault
refuses_cycle m (Cycle es) sound h = (sound, h.0, h.1, h.2)
refuses_cycle m Memory sound h = tt
refuses_cycle m (TwoProducers path) sound h = absurd h
refuses_cycle m (UnknownDefault path) sound h = absurd h
refuses_cycle m TooManyEdges sound h = absurd h

-- a row of a list that is built edge by edge: empty, or that of an edge
pub row_of : (f : Edge → List ℕ) (es : List Edge) (e : ℕ) → (get_or (map f es) e [] ≡ []) ⊎ ((x : Edge) × (get_or (map f es) e [] ≡ f x))
row_of f [] e = inl refl
row_of f (x ∷ es) zero = inr (x, refl)
row_of f (x ∷ es) (suc e) = row_of f es e

-- numbers of edges are less than the number of edges
pub numbers_below : (test : Edge → Bool) (edges : List Edge) → All (λ w. w < length edges) (numbers_from 0 test edges)
numbers_below test edges k d h =
    let row = numbers_from 0 test edges in
    let n = numbers_given 0 test edges (get_or row k d) (in_list row (get_or row k d) (Contains-get_or row k d h)) in
    let within : n.place < length edges = slice_get_within edges n.place n.edge n.here in
    let place : get_or row k d ≡ 0 + n.place = n.counts in
    omega (arith, within, place)

-- the waits of an edge are edges
pub waits_range : (edges : List Edge) → InRange (all_waits edges)
waits_range edges e =
    let long : length (all_waits edges) ≡ length edges = length-map edges (waits_of edges) in
    subst (λ n. All (λ w. w < n) (get_or (all_waits edges) e [])) (sym long)
    (elim (row_of (waits_of edges) edges e) [
      | inl empty ↦ subst (All (λ w. w < length edges)) (sym empty) (λ k d h. absurd (omega (arith, h)))
      | inr some ↦ subst (All (λ w. w < length edges)) (sym some.1) (numbers_below (produces_any (inputs_of some.0)) edges)
    ])

abbrev okays : List (List ℕ) → Result (List (List ℕ)) GraphFault
okays rows = Ok rows

-- equal results have equal rows
pub rows_are : (x y : List (List ℕ)) → okays x ≡ okays y → x ≡ y
rows_are x y e = cc

-- the numbers of outputs, if a table fits
pub outputs_known : (files : Table) (edges : List Edge) (outputs : List (List ℕ)) → Fits files edges → outputs ≡ outputs_past [] edges → outputs ≡ rows_of outputs_of (paths_in files) edges
outputs_known files edges outputs fits is = is ∙ (outputs_settle [] edges ∙ ap (λ (ps : List Path). rows_of outputs_of ps edges) (sym fits.paths))

-- the numbers of inputs as they were read are those among all files
pub inputs_known : (files : Table) (edges : List Edge) (inputs : List (List ℕ)) → Fits files edges → inputs ≡ inputs_past [] edges → inputs ≡ rows_of inputs_named (paths_in files) edges
inputs_known files edges inputs fits is = is ∙ (inputs_settle [] edges ∙ ap (λ (ps : List Path). rows_of inputs_named ps edges) (sym fits.paths))

-- the producer of an output is its own edge
pub own_producer : (files : Table) (edges : List Edge) → Fits files edges → (n : ℕ) (e : Edge) (path : Path) → slice_get edges n ≡ Some e → Contains (outputs_of e) path → producer_of edges path ≡ Some n
own_producer files edges fits n e path here made = fits.once n e path here (list_any-from_Contains nat_list_eq_equiv path (outputs_of e) made)
