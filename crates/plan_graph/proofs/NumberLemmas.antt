-- The numbers that paths are given while build lines are read. Lemmas for src/edge_reader.rt: numbers.
use Rattle.std.proofs.Common.{◌≡◌, ◌<◌, ◌+◌, ◌++◌, ◌∷◌, [], ◌∙◌, Bool, true, false, List, ℕ, suc, Option, Result, Ok, Err, ap, bytes_eq, drop, get_or, length, map, refl, sym, take}
use Rattle.std.specs.Prelude.{◌||◌, flat_map, if◌then◌else◌, is_some, nat_le}
use Rattle.std.proofs.lemmas.List.{append_assoc}
use Rattle.std.proofs.lemmas.Slice.Eq.{bytes_eq-Decides}
use Rattle.plan_scope.specs.declared.manifest.DefaultTarget.{DefaultTarget}
use Rattle.plan_scope.specs.Edge.{Edge}
use Rattle.plan_scope.specs.Edges.{is_among}
use Rattle.plan_graph.specs.declared.fault.GraphFault.{GraphFault}
use Rattle.plan_graph.specs.declared.fault.GraphFault.TheVariants.{TooManyEdges, TwoProducers}
use Rattle.plan_graph.specs.Files.{Path, Table, file_of, number_of, numbers_past, paths_in, with_file, with_path, with_paths}
use Rattle.plan_graph.specs.Graph.{targets_above, inputs_named, max_edges, outputs_of, rows_of}
use Rattle.plan_text.specs.Outcome.{◌>>=◌}
use Rattle.plan_graph.specs.Reading.{within_limit, inputs_past, with_producer, outputs_past, own_of, with_use, with_edge, with_edges, with_input, with_inputs, with_output, with_outputs, with_targets}
use Rattle.plan_graph.proofs.TableLemmas.{any_append, paths_with, with_paths_app}
use Rattle.plan_graph.proofs.WaitsLemmas.{drop_next}

numbers_append : (seen xs ys : List Path) → numbers_past seen (xs ++ ys) ≡ numbers_past seen xs ++ numbers_past (with_paths seen xs) ys
numbers_append seen [] ys = refl
numbers_append seen (x ∷ xs) ys = ap (λ (ns : List ℕ). number_of seen x ∷ ns) (numbers_append (with_path seen x) xs ys)

same_table : (x y : Table) → ◌≡◌ {A = Result Table GraphFault} (Ok x) (Ok y) → x ≡ y
same_table x y e = cc

-- the paths after one output
pub output_path : (files : Table) (number : ℕ) (o : Path) (more : Table) → with_output files number o (file_of o files) ≡ Ok more → paths_in more ≡ with_path (paths_in files) o
output_path files number o more h =
    let next = with_file files o (with_producer number (file_of o files)) in
    elim (is_some (file_of o files).producer) as (λ b. ◌≡◌ {A = Result Table GraphFault} (if b then Err (TwoProducers o) else Ok next) (Ok more) → paths_in more ≡ with_path (paths_in files) o)
    [ true ↦ λ e. cc | false ↦ λ e. ap paths_in (sym (same_table next more e)) ∙ paths_with files o (with_producer number (file_of o files)) ] h

-- the paths after some outputs
pub outputs_paths : (files : Table) (number : ℕ) (os : List Path) (more : Table) → with_outputs files number os ≡ Ok more → paths_in more ≡ with_paths (paths_in files) os
outputs_paths files number [] more h = ap paths_in (sym (same_table files more h))
outputs_paths files number (o ∷ os) more h =
    let next = with_file files o (with_producer number (file_of o files)) in
    elim (is_some (file_of o files).producer) as (λ b. ((if b then Err (TwoProducers o) else Ok next) >>= λ t. with_outputs t number os) ≡ Ok more → paths_in more ≡ with_paths (with_path (paths_in files) o) os) [
      | true ↦ λ e. cc
      | false ↦ λ e. outputs_paths next number os more e ∙ ap (λ (ps : List Path). with_paths ps os) (paths_with files o (with_producer number (file_of o files)))
    ] h

-- the paths after one input
pub input_path : (own : Option ℕ) (files : Table) (i : Path) → paths_in (with_input own files i) ≡ with_path (paths_in files) i
input_path own files i = paths_with files i (with_use own (file_of i files))

-- the paths after some inputs
pub inputs_paths : (own : Option ℕ) (files : Table) (is : List Path) → paths_in (with_inputs own files is) ≡ with_paths (paths_in files) is
inputs_paths own files [] = refl
inputs_paths own files (i ∷ is) = inputs_paths own (with_input own files i) is ∙ ap (λ (ps : List Path). with_paths ps is) (input_path own files i)

-- one more path of a row
pub outputs_step : (files more : Table) (number : ℕ) (os : List Path) (i : ℕ) (o : Path) → i < length os → o ≡ get_or os i o → with_output files number o (file_of o files) ≡ Ok more
    → with_outputs more number (drop (i + 1) os) ≡ with_outputs files number (drop i os)
outputs_step files more number os i o lt here e =
    ap (λ (r : Result Table GraphFault). r >>= λ t. with_outputs t number (drop (i + 1) os)) (sym e) ∙ ap (with_outputs files number) (sym (drop_next os i o lt here))

-- one more input, and the remaining ones
pub inputs_step : (own : Option ℕ) (files more : Table) (is : List Path) (k : ℕ) (i : Path) → k < length is → i ≡ get_or is k i → with_input own files i ≡ more
    → with_inputs own more (drop (k + 1) is) ≡ with_inputs own files (drop k is)
inputs_step own files more is k i lt here e = ap (λ (t : Table). with_inputs own t (drop (k + 1) is)) (sym e) ∙ ap (with_inputs own files) (sym (drop_next is k i lt here))

-- one more number, and the remaining ones
pub numbers_step : (seen next : List Path) (row : List ℕ) (ps : List Path) (i : ℕ) (p : Path) (n : ℕ) → i < length ps → p ≡ get_or ps i p → n ≡ number_of seen p → next ≡ with_path seen p
    → (row ++ n ∷ []) ++ numbers_past next (drop (i + 1) ps) ≡ row ++ numbers_past seen (drop i ps)
numbers_step seen next row ps i p n lt here number grown =
    append_assoc row (n ∷ []) (numbers_past next (drop (i + 1) ps))
    ∙ (ap (λ (k : ℕ). row ++ (k ∷ numbers_past next (drop (i + 1) ps))) number
    ∙ (ap (λ (qs : List Path). row ++ (number_of seen p ∷ numbers_past qs (drop (i + 1) ps))) grown
    ∙ ap (λ (qs : List Path). row ++ numbers_past seen qs) (sym (drop_next ps i p lt here))))

-- a path keeps its number among more paths
number_before : (seen more : List Path) (p : Path) → is_among seen p ≡ true → number_of (seen ++ more) p ≡ number_of seen p
number_before [] more p h = cc
number_before (x ∷ seen) more p h =
    elim (bytes_eq p x) as (λ b. (b || is_among seen p) ≡ true → (if b then 0 else suc (number_of (seen ++ more) p)) ≡ (if b then 0 else suc (number_of seen p)))
    [ true ↦ λ _. refl | false ↦ λ i. ap suc (number_before seen more p i) ] h

among_before : (seen more : List Path) (p : Path) → is_among seen p ≡ true → is_among (seen ++ more) p ≡ true
among_before seen more p h = any_append (bytes_eq p) seen more ∙ ap (λ (b : Bool). b || is_among more p) h

number_step : (seen : List Path) (x p : Path) → is_among seen p ≡ true → number_of (with_path seen x) p ≡ number_of seen p
number_step seen x p h = elim (is_among seen x) as (λ b. number_of (if b then seen else seen ++ x ∷ []) p ≡ number_of seen p) [ true ↦ refl | false ↦ number_before seen (x ∷ []) p h ]

among_step : (seen : List Path) (x p : Path) → is_among seen p ≡ true → is_among (with_path seen x) p ≡ true
among_step seen x p h = elim (is_among seen x) as (λ b. is_among (if b then seen else seen ++ x ∷ []) p ≡ true) [ true ↦ h | false ↦ among_before seen (x ∷ []) p h ]

-- a path stays among paths
pub among_kept : (seen ps : List Path) (p : Path) → is_among seen p ≡ true → is_among (with_paths seen ps) p ≡ true
among_kept seen [] p h = h
among_kept seen (x ∷ ps) p h = among_kept (with_path seen x) ps p (among_step seen x p h)

number_kept : (seen ps : List Path) (p : Path) → is_among seen p ≡ true → number_of (with_paths seen ps) p ≡ number_of seen p
number_kept seen [] p h = refl
number_kept seen (x ∷ ps) p h = number_kept (with_path seen x) ps p (among_step seen x p h) ∙ number_step seen x p h

bytes_self : (path : Path) → bytes_eq path path ≡ true
bytes_self path = (bytes_eq-Decides path path).1 refl

number_last : (seen : List Path) (p : Path) → number_of (seen ++ p ∷ []) p ≡ number_of seen p
number_last [] p = ap (λ (b : Bool). if b then 0 else 1) (bytes_self p)
number_last (x ∷ seen) p = ap (λ (n : ℕ). if bytes_eq p x then 0 else suc n) (number_last seen p)

number_given : (seen : List Path) (p : Path) → number_of (with_path seen p) p ≡ number_of seen p
number_given seen p = elim (is_among seen p) as (λ b. number_of (if b then seen else seen ++ p ∷ []) p ≡ number_of seen p) [ true ↦ refl | false ↦ number_last seen p ]

or_true : (b c : Bool) → c ≡ true → (b || (c || false)) ≡ true
or_true true c h = refl
or_true false c h = ap (λ x. x || false) h

-- a path is among the paths when it is named
pub among_given : (seen : List Path) (p : Path) → is_among (with_path seen p) p ≡ true
among_given seen p =
    elim (is_among seen p) as (λ b. is_among seen p ≡ b → is_among (if b then seen else seen ++ p ∷ []) p ≡ true)
    [ true ↦ λ e. e | false ↦ λ e. any_append (bytes_eq p) seen (p ∷ []) ∙ or_true (is_among seen p) (bytes_eq p p) (bytes_self p) ] refl

-- the numbers that paths are given are their final ones
numbers_settle : (seen ps later : List Path) → numbers_past seen ps ≡ map (number_of (with_paths (with_paths seen ps) later)) ps
numbers_settle seen [] later = refl
numbers_settle seen (p ∷ ps) later =
    let more = with_path seen p in
    let last = with_paths (with_paths more ps) later in
    let there = among_given seen p in
    let same : number_of seen p ≡ number_of last p = sym (number_kept (with_paths more ps) later p (among_kept more ps p there) ∙ (number_kept more ps p there ∙ number_given seen p)) in
    ap (λ (n : ℕ). n ∷ numbers_past more ps) same ∙ ap (λ (ns : List ℕ). number_of last p ∷ ns) (numbers_settle more ps later)

-- the paths that an edge names
abbrev pub names : Edge → List Path
names e = outputs_of e ++ inputs_named e

next_paths : (seen : List Path) (e : Edge) (es : List Edge) → with_paths seen (flat_map names (e ∷ es)) ≡ with_paths (with_paths (with_paths seen (outputs_of e)) (inputs_named e)) (flat_map names es)
next_paths seen e es = with_paths_app seen (names e) (flat_map names es) ∙ ap (λ (ps : List Path). with_paths ps (flat_map names es)) (with_paths_app seen (outputs_of e) (inputs_named e))

-- the numbers of outputs while reading are those among all files
pub outputs_settle : (seen : List Path) (es : List Edge) → outputs_past seen es ≡ rows_of outputs_of (with_paths seen (flat_map names es)) es
outputs_settle seen [] = refl
outputs_settle seen (e ∷ es) =
    let outs = outputs_of e in
    let ins = inputs_named e in
    let rest = flat_map names es in
    let more = with_paths (with_paths seen outs) ins in
    ap (λ (row : List ℕ). row ∷ outputs_past more es) (numbers_settle seen outs (ins ++ rest) ∙ ap (λ (ps : List Path). map (number_of ps) outs) (with_paths_app (with_paths seen outs) ins rest))
    ∙ (ap (λ (rows : List (List ℕ)). map (number_of (with_paths more rest)) outs ∷ rows) (outputs_settle more es) ∙ ap (λ (ps : List Path). rows_of outputs_of ps (e ∷ es)) (sym (next_paths seen e es)))

-- the numbers of inputs while reading are those among all files
pub inputs_settle : (seen : List Path) (es : List Edge) → inputs_past seen es ≡ rows_of inputs_named (with_paths seen (flat_map names es)) es
inputs_settle seen [] = refl
inputs_settle seen (e ∷ es) =
    let outs = outputs_of e in
    let ins = inputs_named e in
    let rest = flat_map names es in
    let more = with_paths (with_paths seen outs) ins in
    ap (λ (row : List ℕ). row ∷ inputs_past more es) (numbers_settle (with_paths seen outs) ins rest)
    ∙ (ap (λ (rows : List (List ℕ)). map (number_of (with_paths more rest)) ins ∷ rows) (inputs_settle more es) ∙ ap (λ (ps : List Path). rows_of inputs_named ps (e ∷ es)) (sym (next_paths seen e es)))

-- build lines that are read in turn
rows_step : (done : List (List ℕ)) (row : List ℕ) (rest all : List (List ℕ)) → done ++ (row ∷ rest) ≡ all → (done ++ row ∷ []) ++ rest ≡ all
rows_step done row rest all h = append_assoc done (row ∷ []) rest ∙ h

-- a row of the numbers of some paths, and of more paths after them
pub row_more : (seen next : List Path) (row middle last : List ℕ) (xs ys : List Path) → middle ≡ row ++ numbers_past seen xs → next ≡ with_paths seen xs → last ≡ middle ++ numbers_past next ys
    → last ≡ row ++ numbers_past seen (xs ++ ys)
row_more seen next row middle last xs ys one grown two =
    two
    ∙ (ap (λ (r : List ℕ). r ++ numbers_past next ys) one
    ∙ (ap (λ (ps : List Path). (row ++ numbers_past seen xs) ++ numbers_past ps ys) grown
    ∙ (append_assoc row (numbers_past seen xs) (numbers_past (with_paths seen xs) ys) ∙ ap (λ (ns : List ℕ). row ++ ns) (sym (numbers_append seen xs ys)))))

-- the fault of a target is that of everything that remains
pub due_refused : (files : Table) (number : ℕ) (ds : List DefaultTarget) (edges : List Edge) (i : ℕ) (e : Edge) (due : List DefaultTarget) (fault : GraphFault) → i < length edges → e ≡ get_or edges i e
    → due ≡ take (targets_above number ds) ds → with_targets files due ≡ Err fault → with_edges files number ds (drop i edges) ≡ Err fault
due_refused files number ds edges i e due fault lt here is h =
    ap (with_edges files number ds) (drop_next edges i e lt here)
    ∙ ap (λ (r : Result Table GraphFault). r >>= λ t. with_edge t number e >>= λ more. with_edges more (number + 1) (drop (targets_above number ds) ds) (drop (i + 1) edges)) (ap (with_targets files) (sym is) ∙ h)

-- the fault of an edge is that of everything that remains
pub edge_refused : (files : Table) (number : ℕ) (ds : List DefaultTarget) (edges : List Edge) (i : ℕ) (e : Edge) (due : List DefaultTarget) (fault : GraphFault) → i < length edges → e ≡ get_or edges i e
    → due ≡ take (targets_above number ds) ds → with_targets files due ≡ Ok files → with_edge files number e ≡ Err fault → with_edges files number ds (drop i edges) ≡ Err fault
edge_refused files number ds edges i e due fault lt here is checked h =
    ap (with_edges files number ds) (drop_next edges i e lt here)
    ∙ (ap (λ (r : Result Table GraphFault). r >>= λ t. with_edge t number e >>= λ more. with_edges more (number + 1) (drop (targets_above number ds) ds) (drop (i + 1) edges)) (ap (with_targets files) (sym is) ∙ checked)
    ∙ ap (λ (r : Result Table GraphFault). r >>= λ more. with_edges more (number + 1) (drop (targets_above number ds) ds) (drop (i + 1) edges)) h)

-- one more edge, and the remaining ones
pub edge_read : (files more : Table) (number : ℕ) (ds : List DefaultTarget) (edges : List Edge) (i : ℕ) (e : Edge) (due rest : List DefaultTarget) → i < length edges → e ≡ get_or edges i e
    → due ≡ take (targets_above number ds) ds → rest ≡ drop (targets_above number ds) ds → with_targets files due ≡ Ok files → with_edge files number e ≡ Ok more
    → with_edges files number ds (drop i edges) ≡ with_edges more (number + 1) rest (drop (i + 1) edges)
edge_read files more number ds edges i e due rest lt here is left checked h =
    ap (with_edges files number ds) (drop_next edges i e lt here)
    ∙ (ap (λ (r : Result Table GraphFault). r >>= λ t. with_edge t number e >>= λ m. with_edges m (number + 1) (drop (targets_above number ds) ds) (drop (i + 1) edges)) (ap (with_targets files) (sym is) ∙ checked)
    ∙ (ap (λ (r : Result Table GraphFault). r >>= λ m. with_edges m (number + 1) (drop (targets_above number ds) ds) (drop (i + 1) edges)) h
    ∙ ap (λ (d : List DefaultTarget). with_edges more (number + 1) d (drop (i + 1) edges)) (sym left)))

edge_paths_by : (files : Table) (number : ℕ) (e : Edge) (more : Table) (r : Result Table GraphFault) → with_outputs files number (outputs_of e) ≡ r
    → (r >>= λ outputs. within_limit number outputs >>= λ m. Ok (with_inputs (own_of number e) m (inputs_named e))) ≡ Ok more
    → paths_in more ≡ with_paths (with_paths (paths_in files) (outputs_of e)) (inputs_named e)
edge_paths_by files number e more (Err fault) same h = cc
edge_paths_by files number e more (Ok outputs) same h =
    let own = own_of number e in
    elim (nat_le max_edges number) as (λ b. ((if b then Err TooManyEdges else Ok outputs) >>= λ m. Ok (with_inputs own m (inputs_named e))) ≡ Ok more
    → paths_in more ≡ with_paths (with_paths (paths_in files) (outputs_of e)) (inputs_named e)) [
      | true ↦ λ i. cc
      | false ↦ λ i.
          ap paths_in (sym (same_table (with_inputs own outputs (inputs_named e)) more i))
          ∙ (inputs_paths own outputs (inputs_named e) ∙ ap (λ (ps : List Path). with_paths ps (inputs_named e)) (outputs_paths files number (outputs_of e) outputs same))
    ] h

-- the paths after one edge
pub edge_paths : (files : Table) (number : ℕ) (e : Edge) (more : Table) → with_edge files number e ≡ Ok more → paths_in more ≡ with_paths (with_paths (paths_in files) (outputs_of e)) (inputs_named e)
edge_paths files number e more h = edge_paths_by files number e more (with_outputs files number (outputs_of e)) refl h

-- one more row of outputs, and the remaining ones
pub outputs_read : (seen next : List Path) (done all : List (List ℕ)) (edges : List Edge) (i : ℕ) (e : Edge) → i < length edges → e ≡ get_or edges i e → next ≡ with_paths (with_paths seen (outputs_of e)) (inputs_named e)
    → done ++ outputs_past seen (drop i edges) ≡ all → (done ++ numbers_past seen (outputs_of e) ∷ []) ++ outputs_past next (drop (i + 1) edges) ≡ all
outputs_read seen next done all edges i e lt here grown so_far =
    let row = numbers_past seen (outputs_of e) in
    rows_step done row (outputs_past next (drop (i + 1) edges)) all
    (ap (λ (ps : List Path). done ++ (row ∷ outputs_past ps (drop (i + 1) edges))) grown ∙ (ap (λ (es : List Edge). done ++ outputs_past seen es) (sym (drop_next edges i e lt here)) ∙ so_far))

-- one more row of inputs, and the remaining ones
pub inputs_read : (seen next : List Path) (done all : List (List ℕ)) (edges : List Edge) (i : ℕ) (e : Edge) → i < length edges → e ≡ get_or edges i e → next ≡ with_paths (with_paths seen (outputs_of e)) (inputs_named e)
    → done ++ inputs_past seen (drop i edges) ≡ all → (done ++ numbers_past (with_paths seen (outputs_of e)) (inputs_named e) ∷ []) ++ inputs_past next (drop (i + 1) edges) ≡ all
inputs_read seen next done all edges i e lt here grown so_far =
    let row = numbers_past (with_paths seen (outputs_of e)) (inputs_named e) in
    rows_step done row (inputs_past next (drop (i + 1) edges)) all
    (ap (λ (ps : List Path). done ++ (row ∷ inputs_past ps (drop (i + 1) edges))) grown ∙ (ap (λ (es : List Edge). done ++ inputs_past seen es) (sym (drop_next edges i e lt here)) ∙ so_far))
