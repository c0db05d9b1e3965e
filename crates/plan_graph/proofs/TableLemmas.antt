-- The table of paths after reading build lines. Lemmas for src/edge_reader.rt: the table of paths.
use Rattle.std.proofs.Common.{◌≡◌, ◌<◌, ◌+◌, ◌++◌, ◌∷◌, [], ◌∙◌, ◌⊎◌, inl, inr, Bool, true, false, List, ℕ, zero, suc, Option, Some, None, Result, Ok, Err, ap, arith, bytes_eq, cond, length, length-append, refl, subst, sym}
use Rattle.std.specs.Prelude.{◌||◌, drop, filter, flat_map, if◌then◌else◌, is_some, nat_le, not, slice_get, take}
use Rattle.std.proofs.lemmas.Slice.Eq.{bytes_eq-Decides}
use Rattle.std.specs.List.{list_any}
use Rattle.std.proofs.lemmas.Bool.{eq-eqb, leb-false}
use Rattle.std.proofs.lemmas.Bool.Decides.{eqb_tells}
use Rattle.std.proofs.lemmas.List.{append_assoc, append-nil}
use Rattle.plan_graph.proofs.InputLemmas.{inputs_are}
use Rattle.plan_graph.proofs.MemberLemmas.{some_is}
use Rattle.plan_scope.specs.declared.manifest.DefaultTarget.{DefaultTarget}
use Rattle.plan_scope.specs.Edge.{Edge}
use Rattle.plan_scope.specs.declared.manifest.Manifest.{Manifest}
use Rattle.plan_scope.specs.Scopes.{or_else}
use Rattle.plan_scope.specs.Edges.{is_among}
use Rattle.plan_graph.specs.declared.fault.GraphFault.{GraphFault}
use Rattle.plan_graph.specs.declared.fault.GraphFault.TheVariants.{TooManyEdges, TwoProducers, UnknownDefault}
use Rattle.plan_graph.specs.declared.files.File.{File}
use Rattle.plan_graph.specs.Files.{Path, Table, file_of, is_used, producer_in, paths_in, with_file, with_path, with_paths}
use Rattle.plan_graph.specs.Fitting.{Fits}
use Rattle.plan_graph.specs.Graph.{targets_above, fault_past, files_of, first_fault, inputs_named, inputs_of, second_producer, producer_from, producer_of, max_edges, edge_limit, outputs_of, unknown_target}
use Rattle.plan_text.specs.Outcome.{◌>>=◌}
use Rattle.plan_graph.specs.Reading.{within_limit, is_own, with_producer, own_of, table_of, with_use, with_edge, with_edges, with_input, with_inputs, with_outputs, with_targets}

-- === Paths and tables ===

bytes_same : (a b : List ℕ) → bytes_eq a b ≡ true → a ≡ b
bytes_same a b e = (bytes_eq-Decides a b).0 e

bytes_self : (a : List ℕ) → bytes_eq a a ≡ true
bytes_self a = (bytes_eq-Decides a a).1 refl

-- a table after one path
paths_shift : (path x : Path) (xs : List Path) (b : Bool) → bytes_eq path x ≡ b → b ≡ false → with_path (x ∷ xs) path ≡ x ∷ with_path xs path
paths_shift path x xs b e f =
    subst (λ t. (if t || is_among xs path then x ∷ xs else x ∷ (xs ++ path ∷ [])) ≡ x ∷ with_path xs path) (sym (e ∙ f))
    (elim (is_among xs path) as (λ t. (if t then x ∷ xs else x ∷ (xs ++ path ∷ [])) ≡ x ∷ (if t then xs else xs ++ path ∷ [])) [ true ↦ refl | false ↦ refl ])

paths_stay : (path x : Path) (xs : List Path) → bytes_eq path x ≡ true → with_path (x ∷ xs) path ≡ x ∷ xs
paths_stay path x xs e = subst (λ t. (if t || is_among xs path then x ∷ xs else x ∷ (xs ++ path ∷ [])) ≡ x ∷ xs) (sym e) refl

-- the paths of a table with one more path
pub paths_with : (files : Table) (path : Path) (file : File) → paths_in (with_file files path file) ≡ with_path (paths_in files) path
paths_with [] path file = refl
paths_with (f ∷ fs) path file =
    elim (bytes_eq path f.0) as (λ t. bytes_eq path f.0 ≡ t → paths_in (if t then (f.0, file) ∷ fs else f ∷ with_file fs path file) ≡ with_path (f.0 ∷ paths_in fs) path) [
      | true ↦ λ e. sym (paths_stay path f.0 (paths_in fs) e)
      | false ↦ λ e. ap (λ (ps : List Path). f.0 ∷ ps) (paths_with fs path file) ∙ sym (paths_shift path f.0 (paths_in fs) false e refl)
    ] refl

file_apart : (x path p : Path) (one file other : File) → bytes_eq path x ≡ false
    → (if bytes_eq p x then one else (if bytes_eq p path then file else other)) ≡ (if bytes_eq p path then file else (if bytes_eq p x then one else other))
file_apart x path p one file other apart =
    elim (bytes_eq p path) as (λ b. bytes_eq p path ≡ b → (if bytes_eq p x then one else (if b then file else other)) ≡ (if b then file else (if bytes_eq p x then one else other))) [
      | true ↦ λ e.
          let not_x : bytes_eq p x ≡ false = ap (λ q. bytes_eq q x) (bytes_same p path e) ∙ apart in
          subst (λ b. (if b then one else file) ≡ file) (sym not_x) refl
      | false ↦ λ e. refl
    ] refl

file_with : (files : Table) (path p : Path) (file : File) → file_of p (with_file files path file) ≡ (if bytes_eq p path then file else file_of p files)
file_with [] path p file = refl
file_with (f ∷ fs) path p file =
    elim (bytes_eq path f.0) as (λ t. bytes_eq path f.0 ≡ t → file_of p (if t then (f.0, file) ∷ fs else f ∷ with_file fs path file) ≡ (if bytes_eq p path then file else (if bytes_eq p f.0 then f.1 else file_of p fs))) [
      | true ↦ λ e.
          let same : bytes_eq p path ≡ bytes_eq p f.0 = ap (bytes_eq p) (bytes_same path f.0 e) in
          subst (λ b. (if bytes_eq p f.0 then file else file_of p fs) ≡ (if b then file else (if bytes_eq p f.0 then f.1 else file_of p fs))) (sym same)
          (elim (bytes_eq p f.0) as (λ b. (if b then file else file_of p fs) ≡ (if b then file else (if b then f.1 else file_of p fs))) [ true ↦ refl | false ↦ refl ])
      | false ↦ λ e.
          subst (λ (x : File). (if bytes_eq p f.0 then f.1 else x) ≡ (if bytes_eq p path then file else (if bytes_eq p f.0 then f.1 else file_of p fs))) (sym (file_with fs path p file))
          (file_apart f.0 path p f.1 file (file_of p fs) e)
    ] refl

or_true : (b : Bool) → (b || true) ≡ true
or_true true = refl
or_true false = refl

or_false : (b : Bool) → (b || false) ≡ b
or_false true = refl
or_false false = refl

or_or : (a b c : Bool) → ((a || b) || c) ≡ (a || (b || c))
or_or true b c = refl
or_or false b c = refl

-- whether an item of two lists passes a test
pub any_append : {X : Type 0} (test : X → Bool) (xs ys : List X) → list_any test (xs ++ ys) ≡ (list_any test xs || list_any test ys)
any_append test [] ys = refl
any_append test (x ∷ xs) ys = ap (λ b. test x || b) (any_append test xs ys) ∙ sym (or_or (test x) (list_any test xs) (list_any test ys))

one_among : (b : Bool) (i p : Path) → bytes_eq p i ≡ true → is_among (cond b (i ∷ []) []) p ≡ b
one_among true i p e = ap (λ c. c || false) e
one_among false i p e = refl

none_among : (b : Bool) (i p : Path) → bytes_eq p i ≡ false → is_among (cond b (i ∷ []) []) p ≡ false
none_among true i p e = ap (λ c. c || false) e
none_among false i p e = refl

-- === One output, one input ===

-- the facts after one output, and after one input
producer_with_producer : (files : Table) (number : ℕ) (o p : Path) → producer_in (with_file files o (with_producer number (file_of o files))) p ≡ (if bytes_eq p o then Some number else producer_in files p)
producer_with_producer files number o p =
    ap (λ (f : File). f.producer) (file_with files o p (with_producer number (file_of o files)))
    ∙ elim (bytes_eq p o) as (λ b. (if b then with_producer number (file_of o files) else file_of p files).producer ≡ (if b then Some number else producer_in files p)) [ true ↦ refl | false ↦ refl ]

use_with_producer : (files : Table) (number : ℕ) (o p : Path) → is_used (with_file files o (with_producer number (file_of o files))) p ≡ is_used files p
use_with_producer files number o p =
    ap (λ (f : File). f.is_used) (file_with files o p (with_producer number (file_of o files)))
    ∙ elim (bytes_eq p o) as (λ b. bytes_eq p o ≡ b → (if b then with_producer number (file_of o files) else file_of p files).is_used ≡ is_used files p)
    [ true ↦ λ e. ap (is_used files) (sym (bytes_same p o e)) | false ↦ λ e. refl ] refl

producer_with_use : (own : Option ℕ) (files : Table) (i p : Path) → producer_in (with_input own files i) p ≡ producer_in files p
producer_with_use own files i p =
    ap (λ (f : File). f.producer) (file_with files i p (with_use own (file_of i files)))
    ∙ elim (bytes_eq p i) as (λ b. bytes_eq p i ≡ b → (if b then with_use own (file_of i files) else file_of p files).producer ≡ producer_in files p)
    [ true ↦ λ e. ap (producer_in files) (sym (bytes_same p i e)) | false ↦ λ e. refl ] refl

-- whether a path counts as an input
abbrev counts : Option ℕ → (Path → Option ℕ) → Path → Bool
counts own producer q = not (is_own (producer q) own)

use_with_use : (own : Option ℕ) (files : Table) (i p : Path) → is_used (with_input own files i) p ≡ (is_used files p || is_among (filter (counts own (producer_in files)) (i ∷ [])) p)
use_with_use own files i p =
    ap (λ (f : File). f.is_used) (file_with files i p (with_use own (file_of i files)))
    ∙ elim (bytes_eq p i) as (λ b. bytes_eq p i ≡ b → (if b then with_use own (file_of i files) else file_of p files).is_used ≡ (is_used files p || is_among (cond (counts own (producer_in files) i) (i ∷ []) []) p)) [
      | true ↦ λ e.
          ap (λ q. is_used files q || counts own (producer_in files) i) (sym (bytes_same p i e))
          ∙ ap (λ b. is_used files p || b) (sym (one_among (counts own (producer_in files) i) i p e))
      | false ↦ λ e. sym (ap (λ b. is_used files p || b) (none_among (counts own (producer_in files) i) i p e) ∙ or_false (is_used files p))
    ] refl

-- === The outputs of an edge ===

-- the table after some outputs, if none had a producer before
record Outputs (files : Table) (number : ℕ) (os : List Path) (more : Table) : Type 0 where
  pub paths : paths_in more ≡ with_paths (paths_in files) os
  pub producers : (p : Path) → producer_in more p ≡ (if is_among os p then Some number else producer_in files p)
  pub uses : (p : Path) → is_used more p ≡ is_used files p
  pub fresh : (p : Path) → is_among os p ≡ true → is_some (producer_in files p) ≡ false

abbrev ReadsOutputs : Table → ℕ → List Path → List Path → Result Table GraphFault → Type 0
ReadsOutputs files number above os (Ok more) = (second_producer above os ≡ None) × Outputs files number os more
ReadsOutputs files number above os (Err fault) = second_producer above os ≡ Some fault

abbrev Known : Table → List Path → Type 0
Known files above = (p : Path) → is_some (producer_in files p) ≡ is_among above p

next_known : (files : Table) (number : ℕ) (above : List Path) (o : Path) → Known files above → Known (with_file files o (with_producer number (file_of o files))) (above ++ o ∷ [])
next_known files number above o known p =
    ap is_some (producer_with_producer files number o p)
    ∙ (elim (bytes_eq p o) as (λ b. bytes_eq p o ≡ b → is_some (if b then Some number else producer_in files p) ≡ (is_among above p || (b || false)))
    [ true ↦ λ e. sym (or_true (is_among above p)) | false ↦ λ e. known p ∙ sym (or_false (is_among above p)) ] refl
    ∙ sym (any_append (bytes_eq p) above (o ∷ [])))

producer_first : (later here : Bool) (number : ℕ) (other : Option ℕ) → (if later then Some number else (if here then Some number else other)) ≡ (if here || later then Some number else other)
producer_first true true number other = refl
producer_first true false number other = refl
producer_first false true number other = refl
producer_first false false number other = refl

next_outputs : (files : Table) (number : ℕ) (above : List Path) (o : Path) (os : List Path) (r : Result Table GraphFault) → is_some (producer_in files o) ≡ false
    → second_producer above (o ∷ os) ≡ second_producer (above ++ o ∷ []) os → ReadsOutputs (with_file files o (with_producer number (file_of o files))) number (above ++ o ∷ []) os r
    → ReadsOutputs files number above (o ∷ os) r
next_outputs files number above o os (Err fault) e skip h = skip ∙ h
next_outputs files number above o os (Ok t) e skip h =
    let more = with_file files o (with_producer number (file_of o files)) in (
      skip ∙ h.0,
      record {
        paths = h.1.paths ∙ ap (λ (ps : List Path). with_paths ps os) (paths_with files o (with_producer number (file_of o files)));
        producers = λ p. h.1.producers p ∙ (ap (λ (m : Option ℕ). if is_among os p then Some number else m) (producer_with_producer files number o p) ∙ producer_first (is_among os p) (bytes_eq p o) number (producer_in files p));
        uses = λ p. h.1.uses p ∙ use_with_producer files number o p;
        fresh = λ p i. elim (bytes_eq p o) as (λ b. bytes_eq p o ≡ b → (b || is_among os p) ≡ true → is_some (producer_in files p) ≡ false) [
          | true ↦ λ same j. ap (λ q. is_some (producer_in files q)) (bytes_same p o same) ∙ e
          | false ↦ λ apart j. let later : is_some (producer_in more p) ≡ false = h.1.fresh p j in
              sym (ap is_some (producer_with_producer files number o p ∙ ap (λ b. if b then Some number else producer_in files p) apart)) ∙ later
        ] refl i;
      },
    )

reads_outputs : (files : Table) (number : ℕ) (above os : List Path) → Known files above → ReadsOutputs files number above os (with_outputs files number os)
reads_outputs files number above [] known = (refl, record { paths = refl; producers = λ p. refl; uses = λ p. refl; fresh = λ p e. cc })
reads_outputs files number above (o ∷ os) known =
    let more = with_file files o (with_producer number (file_of o files)) in
    elim (is_some (producer_in files o)) as (λ b. is_some (producer_in files o) ≡ b
    → ReadsOutputs files number above (o ∷ os) ((if b then Err (TwoProducers o) else Ok more) >>= λ t. with_outputs t number os)) [
      | true ↦ λ e. ap (λ b. if b then Some (TwoProducers o) else second_producer (above ++ o ∷ []) os) (sym (known o) ∙ e)
      | false ↦ λ e.
          let unmade_yet : is_among above o ≡ false = sym (known o) ∙ e in
          let skip : second_producer above (o ∷ os) ≡ second_producer (above ++ o ∷ []) os = ap (λ b. if b then Some (TwoProducers o) else second_producer (above ++ o ∷ []) os) unmade_yet in
          next_outputs files number above o os (with_outputs more number os) e skip (reads_outputs more number (above ++ o ∷ []) os (next_known files number above o known))
    ] refl

-- === The inputs of an edge ===

-- the table after some inputs
record Inputs (own : Option ℕ) (files : Table) (is : List Path) (more : Table) : Type 0 where
  pub paths : paths_in more ≡ with_paths (paths_in files) is
  pub producers : (p : Path) → producer_in more p ≡ producer_in files p
  pub uses : (p : Path) → is_used more p ≡ (is_used files p || is_among (filter (counts own (producer_in files)) is) p)

filter_same : (f g : Path → Bool) (ps : List Path) → ((p : Path) → f p ≡ g p) → filter f ps ≡ filter g ps
filter_same f g [] h = refl
filter_same f g (p ∷ ps) h = ap (λ (b : Bool). cond b (p ∷ filter f ps) (filter f ps)) (h p) ∙ ap (λ (qs : List Path). cond (g p) (p ∷ qs) qs) (filter_same f g ps h)

filter_next : (f : Path → Bool) (i : Path) (is : List Path) → filter f (i ∷ is) ≡ filter f (i ∷ []) ++ filter f is
filter_next f i is = elim (f i) as (λ b. cond b (i ∷ filter f is) (filter f is) ≡ cond b (i ∷ []) [] ++ filter f is) [ true ↦ refl | false ↦ refl ]

reads_inputs : (own : Option ℕ) (files : Table) (is : List Path) → Inputs own files is (with_inputs own files is)
reads_inputs own files [] = record { paths = refl; producers = λ p. refl; uses = λ p. sym (or_false (is_used files p)) }
reads_inputs own files (i ∷ is) =
    let more = with_input own files i in
    let rest = reads_inputs own more is in
    let f = counts own (producer_in files) in
    let same : filter (counts own (producer_in more)) is ≡ filter f is
    = filter_same (counts own (producer_in more)) f is (λ p. ap (λ (m : Option ℕ). not (is_own m own)) (producer_with_use own files i p)) in
    record {
      paths = rest.paths ∙ ap (λ (ps : List Path). with_paths ps is) (paths_with files i (with_use own (file_of i files)));
      producers = λ p. rest.producers p ∙ producer_with_use own files i p;
      uses = λ p.
          rest.uses p
          ∙ (ap (λ b. b || is_among (filter (counts own (producer_in more)) is) p) (use_with_use own files i p)
          ∙ (or_or (is_used files p) (is_among (filter f (i ∷ [])) p) (is_among (filter (counts own (producer_in more)) is) p)
          ∙ ap (λ b. is_used files p || b)
          (ap (λ (qs : List Path). is_among (filter f (i ∷ [])) p || is_among qs p) same
          ∙ (sym (any_append (bytes_eq p) (filter f (i ∷ [])) (filter f is)) ∙ ap (λ (qs : List Path). is_among qs p) (sym (filter_next f i is))))));
    }

-- paths that are named one after another
pub with_paths_app : (seen xs ys : List Path) → with_paths seen (xs ++ ys) ≡ with_paths (with_paths seen xs) ys
with_paths_app seen [] ys = refl
with_paths_app seen (x ∷ xs) ys = with_paths_app (with_path seen x) xs ys

flat_append : {X Y : Type 0} (f : X → List Y) (xs ys : List X) → flat_map f (xs ++ ys) ≡ flat_map f xs ++ flat_map f ys
flat_append f [] ys = refl
flat_append f (x ∷ xs) ys = ap (λ zs. f x ++ zs) (flat_append f xs ys) ∙ sym (append_assoc (f x) (flat_map f xs) (flat_map f ys))

flat_last : {X Y : Type 0} (f : X → List Y) (xs : List X) (x : X) → flat_map f (xs ++ x ∷ []) ≡ flat_map f xs ++ f x
flat_last f xs x = flat_append f xs (x ∷ []) ∙ ap (λ ys. flat_map f xs ++ ys) (append-nil (f x))

plus_nothing : (n : ℕ) → n + 0 ≡ n
plus_nothing n = omega arith

nothing_plus : (n : ℕ) → 0 + n ≡ n
nothing_plus n = omega arith

-- === An edge after others ===

-- the producer of a path among some edges and one more
producer_last : (n : ℕ) (above : List Edge) (e : Edge) (p : Path)
    → producer_from n (above ++ e ∷ []) p ≡ or_else (producer_from n above p) (if is_among (outputs_of e) p then Some (n + length above) else None)
producer_last n [] e p = ap (λ k. if is_among (outputs_of e) p then Some k else None) (sym (plus_nothing n))
producer_last n (x ∷ above) e p =
    let moved : n + 1 + length above ≡ n + length (x ∷ above) = omega arith in
    elim (is_among (outputs_of x) p) as (λ b. (if b then Some n else producer_from (n + 1) (above ++ e ∷ []) p) ≡ or_else (if b then Some n else producer_from (n + 1) above p) (if is_among (outputs_of e) p then Some (n + length (x ∷ above)) else None)) [
      | true ↦ refl
      | false ↦ producer_last (n + 1) above e p ∙ ap (λ k. or_else (producer_from (n + 1) above p) (if is_among (outputs_of e) p then Some k else None)) moved
    ]

producer_known : (n : ℕ) (above : List Edge) (p : Path) → is_some (producer_from n above p) ≡ is_among (flat_map outputs_of above) p
producer_known n [] p = refl
producer_known n (x ∷ above) p =
    elim (is_among (outputs_of x) p) as (λ b. is_some (if b then Some n else producer_from (n + 1) above p) ≡ (b || is_among (flat_map outputs_of above) p)) [ true ↦ refl | false ↦ producer_known (n + 1) above p ]
    ∙ sym (any_append (bytes_eq p) (outputs_of x) (flat_map outputs_of above))

producer_below : (n : ℕ) (above : List Edge) (p : Path) (k : ℕ) → producer_from n above p ≡ Some k → k < n + length above
producer_below n [] p k h = cc
producer_below n (x ∷ above) p k h =
    elim (is_among (outputs_of x) p) as (λ b. (if b then Some n else producer_from (n + 1) above p) ≡ Some k → k < n + length (x ∷ above))
    [ true ↦ λ e. let same : n ≡ k = some_is n k e in omega (arith, same) | false ↦ λ e. let below : k < n + 1 + length above = producer_below (n + 1) above p k e in omega (arith, below) ] h

not_own : (m : Option ℕ) → not (is_own m None) ≡ true
not_own (Some k) = refl
not_own None = refl

filter_all : (f : Path → Bool) (ps : List Path) → ((p : Path) → f p ≡ true) → filter f ps ≡ ps
filter_all f [] h = refl
filter_all f (p ∷ ps) h = ap (λ (b : Bool). cond b (p ∷ filter f ps) (filter f ps)) (h p) ∙ ap (λ (qs : List Path). p ∷ qs) (filter_all f ps h)

own_last : (above : List Edge) (q : Path) (m : Option ℕ) → producer_of above q ≡ m → is_own m (Some (length above)) ≡ false
own_last above q None h = refl
own_last above q (Some k) h =
    let below : k < 0 + length above = producer_below 0 above q k h in
    elim (eqb_tells k (length above)) [ inl y ↦ absurd (omega (arith, below, y.1)) | inr y ↦ y.0 ]

-- the paths that count as inputs, given the producers of an edge's outputs
counted : (above : List Edge) (outs ins : List Path) (producer : Path → Option ℕ) (phony : Bool) → ((q : Path) → producer q ≡ (if is_among outs q then Some (length above) else producer_of above q))
    → filter (counts (if phony then Some (length above) else None) producer) ins ≡ (if phony then filter (λ q. not (is_among outs q)) ins else ins)
counted above outs ins producer false h = filter_all (counts None producer) ins (λ q. not_own (producer q))
counted above outs ins producer true h =
    filter_same (counts (Some (length above)) producer) (λ q. not (is_among outs q)) ins (λ q.
    ap (λ (m : Option ℕ). not (is_own m (Some (length above)))) (h q)
    ∙ elim (is_among outs q) as (λ b. not (is_own (if b then Some (length above) else producer_of above q) (Some (length above))) ≡ not b)
    [ true ↦ ap not (eq-eqb (length above) (length above) refl) | false ↦ ap not (own_last above q (producer_of above q) refl) ])

at_last : (above : List Edge) (e : Edge) (k : ℕ) (x : Edge) → slice_get (above ++ e ∷ []) k ≡ Some x → (slice_get above k ≡ Some x) ⊎ ((k ≡ length above) × (e ≡ x))
at_last [] e zero x h = inr (refl, some_is e x h)
at_last [] e (suc k) x h = cc
at_last (y ∷ above) e zero x h = inl h
at_last (y ∷ above) e (suc k) x h = elim (at_last above e k x h) [ inl i ↦ inl i | inr i ↦ inr (omega (arith, i.0), i.1) ]

nothing_produced : (above : List Edge) (p : Path) (m : Option ℕ) → is_some m ≡ false → m ≡ None
nothing_produced above p None h = refl
nothing_produced above p (Some k) h = cc

or_nothing : {X : Type 0} (m : Option X) → or_else m None ≡ m
or_nothing None = refl
or_nothing (Some x) = refl

below_limit : (n limit : ℕ) → nat_le limit n ≡ false → n < limit
below_limit n limit h = leb-false limit n h

-- === A table that fits one more edge ===

-- the table after one more edge
fits_next : (files outputs all : Table) (above : List Edge) (e : Edge) → Fits files above → nat_le max_edges (length above) ≡ false
    → Outputs files (length above) (outputs_of e) outputs → Inputs (own_of (length above) e) outputs (inputs_named e) all → Fits all (above ++ e ∷ [])
fits_next files outputs all above e fits room o i =
    let n = length above in
    let before : (p : Path) → is_among (outputs_of e) p ≡ true → producer_of above p ≡ None = λ p h. nothing_produced above p (producer_of above p) (ap is_some (sym (fits.producers p)) ∙ o.fresh p h) in
    let producers : (p : Path) → producer_in outputs p ≡ (if is_among (outputs_of e) p then Some n else producer_of above p)
    = λ p. o.producers p ∙ ap (λ (m : Option ℕ). if is_among (outputs_of e) p then Some n else m) (fits.producers p) in
    let last : (p : Path) → producer_of (above ++ e ∷ []) p ≡ or_else (producer_of above p) (if is_among (outputs_of e) p then Some n else None)
    = λ p. producer_last 0 above e p ∙ ap (λ k. or_else (producer_of above p) (if is_among (outputs_of e) p then Some k else None)) (nothing_plus n) in
    let names = λ (x : Edge). outputs_of x ++ inputs_named x in
    record {
      paths =
          i.paths
          ∙ (ap (λ (ps : List Path). with_paths ps (inputs_named e)) (o.paths ∙ ap (λ (ps : List Path). with_paths ps (outputs_of e)) fits.paths)
          ∙ (sym (with_paths_app (files_of above) (outputs_of e) (inputs_named e))
          ∙ (sym (with_paths_app [] (flat_map names above) (names e))
          ∙ ap (with_paths []) (sym (flat_last names above e)))));
      producers = λ p. i.producers p ∙ (producers p ∙ (
          elim (is_among (outputs_of e) p) as (λ b. is_among (outputs_of e) p ≡ b → (if b then Some n else producer_of above p) ≡ or_else (producer_of above p) (if b then Some n else None))
          [ true ↦ λ h. ap (λ m. or_else m (Some n)) (sym (before p h)) | false ↦ λ h. sym (or_nothing (producer_of above p)) ] refl ∙ sym (last p)));
      uses = λ p.
          i.uses p
          ∙ (ap (λ b. b || is_among (filter (counts (own_of n e) (producer_in outputs)) (inputs_named e)) p) (o.uses p ∙ fits.uses p)
          ∙ (ap (λ (qs : List Path). is_among (flat_map inputs_of above) p || is_among qs p) (counted above (outputs_of e) (inputs_named e) (producer_in outputs) e.phony producers ∙ sym (inputs_are e))
          ∙ (sym (any_append (bytes_eq p) (flat_map inputs_of above) (inputs_of e)) ∙ ap (λ (qs : List Path). is_among qs p) (sym (flat_last inputs_of above e)))));
      once = λ k x p here h. elim (at_last above e k x here) [
        | inl y ↦ last p ∙ ap (λ m. or_else m (if is_among (outputs_of e) p then Some n else None)) (fits.once k x p y h)
        | inr y ↦
            let own : is_among (outputs_of e) p ≡ true = ap (λ z. is_among (outputs_of z) p) y.1 ∙ h in
            last p ∙ (ap (λ m. or_else m (if is_among (outputs_of e) p then Some n else None)) (before p own)
            ∙ (ap (λ b. if b then Some n else None) own ∙ ap (λ (j : ℕ). Some j) (sym y.0)))
      ];
      few = let long : length (above ++ e ∷ []) ≡ length above + 1 = length-append above (e ∷ []) in let less : length above < max_edges = below_limit (length above) max_edges room in omega (arith, long, less);
    }

-- the result of reading one more edge
abbrev ReadsEdge : List Edge → Edge → Result Table GraphFault → Type 0
ReadsEdge above e (Ok more) = (or_else (second_producer (flat_map outputs_of above) (outputs_of e)) (edge_limit above) ≡ None) × Fits more (above ++ e ∷ [])
ReadsEdge above e (Err fault) = or_else (second_producer (flat_map outputs_of above) (outputs_of e)) (edge_limit above) ≡ Some fault

after_outputs : (files : Table) (above : List Edge) (e : Edge) (r : Result Table GraphFault) → Fits files above → ReadsOutputs files (length above) (flat_map outputs_of above) (outputs_of e) r
    → ReadsEdge above e (r >>= λ outputs. within_limit (length above) outputs >>= λ more. Ok (with_inputs (own_of (length above) e) more (inputs_named e)))
after_outputs files above e (Err fault) fits h = ap (λ m. or_else m (edge_limit above)) h
after_outputs files above e (Ok outputs) fits h =
    let own = own_of (length above) e in
    elim (nat_le max_edges (length above)) as (λ b. nat_le max_edges (length above) ≡ b
    → ReadsEdge above e ((if b then Err TooManyEdges else Ok outputs) >>= λ more. Ok (with_inputs own more (inputs_named e)))) [
      | true ↦ λ full. ap (λ m. or_else m (edge_limit above)) h.0 ∙ ap (λ b. if b then Some TooManyEdges else None) full
      | false ↦ λ room. (
        ap (λ m. or_else m (edge_limit above)) h.0 ∙ ap (λ b. if b then Some TooManyEdges else None) room,
        fits_next files outputs (with_inputs own outputs (inputs_named e)) above e fits room h.1 (reads_inputs own outputs (inputs_named e)),
      )
    ] refl

reads_edge : (files : Table) (above : List Edge) (e : Edge) → Fits files above → ReadsEdge above e (with_edge files (length above) e)
reads_edge files above e fits =
    after_outputs files above e (with_outputs files (length above) (outputs_of e)) fits
    (reads_outputs files (length above) (flat_map outputs_of above) (outputs_of e) (λ p. ap is_some (fits.producers p) ∙ producer_known 0 above p))

-- === All edges and targets ===

-- the result of checking targets
abbrev told : Table → Option GraphFault → Result Table GraphFault
told files None = Ok files
told files (Some fault) = Err fault

reads_targets : (files : Table) (above : List Edge) (ds : List DefaultTarget) → Fits files above → with_targets files ds ≡ told files (unknown_target above ds)
reads_targets files above [] fits = refl
reads_targets files above (d ∷ ds) fits =
    ap (λ b. if b then with_targets files ds else Err (UnknownDefault d.path)) (ap is_some (fits.producers d.path) ∙ producer_known 0 above d.path)
    ∙ elim (is_among (flat_map outputs_of above) d.path) as (λ b. (if b then with_targets files ds else Err (UnknownDefault d.path)) ≡ told files (if b then unknown_target above ds else Some (UnknownDefault d.path)))
    [ true ↦ reads_targets files above ds fits | false ↦ refl ]

-- the result of reading everything that remains
abbrev pub Reads : List Edge → Option GraphFault → Result Table GraphFault → Type 0
Reads edges fault (Ok files) = (fault ≡ None) × Fits files edges
Reads edges fault (Err refused) = fault ≡ Some refused

or_else_front : (a b c : Option GraphFault) → or_else a (or_else b c) ≡ or_else (or_else a b) c
or_else_front None b c = refl
or_else_front (Some f) b c = refl

read_rest : (above : List Edge) (e : Edge) (es : List Edge) (r : Result Table GraphFault) (go : Table → Result Table GraphFault) (rest : Option GraphFault)
    → ReadsEdge above e r → ((more : Table) → Fits more (above ++ e ∷ []) → Reads (above ++ e ∷ es) rest (go more))
    → Reads (above ++ e ∷ es) (or_else (second_producer (flat_map outputs_of above) (outputs_of e)) (or_else (edge_limit above) rest)) (r >>= go)
read_rest above e es (Err fault) go rest h k =
    or_else_front (second_producer (flat_map outputs_of above) (outputs_of e)) (edge_limit above) rest ∙ ap (λ m. or_else m rest) h
read_rest above e es (Ok more) go rest h k =
    let same : or_else (second_producer (flat_map outputs_of above) (outputs_of e)) (or_else (edge_limit above) rest) ≡ rest
    = or_else_front (second_producer (flat_map outputs_of above) (outputs_of e)) (edge_limit above) rest ∙ ap (λ m. or_else m rest) h.0 in
    subst (λ m. Reads (above ++ e ∷ es) m (go more)) (sym same) (k more h.1)

read_on : (above : List Edge) (e : Edge) (es : List Edge) (files : Table) (checked : Option GraphFault) (r go : Table → Result Table GraphFault) (rest : Option GraphFault)
    → ReadsEdge above e (r files) → ((more : Table) → Fits more (above ++ e ∷ []) → Reads (above ++ e ∷ es) rest (go more))
    → Reads (above ++ e ∷ es) (or_else checked (or_else (second_producer (flat_map outputs_of above) (outputs_of e)) (or_else (edge_limit above) rest))) (told files checked >>= λ t. r t >>= go)
read_on above e es files (Some fault) r go rest h k = refl
read_on above e es files None r go rest h k = read_rest above e es (r files) go rest h k

-- the table after reading build lines, and the reason why reading stops
reads : (files : Table) (above : List Edge) (ds : List DefaultTarget) (es : List Edge) → Fits files above → Reads (above ++ es) (fault_past above ds es) (with_edges files (length above) ds es)
reads files above ds [] fits =
    subst (Reads (above ++ []) (unknown_target above ds)) (sym (reads_targets files above ds fits))
    (elim (unknown_target above ds) as (λ m. Reads (above ++ []) m (told files m)) [ None ↦ (refl, subst (Fits files) (sym (append-nil above)) fits) | Some fault ↦ refl ])
reads files above ds (e ∷ es) fits =
    let due = targets_above (length above) ds in
    let go = λ (more : Table). with_edges more (length above + 1) (drop due ds) es in
    let r = λ (t : Table). with_edge t (length above) e in
    let long : length (above ++ e ∷ []) ≡ length above + 1 = length-append above (e ∷ []) in
    subst (λ (c : Result Table GraphFault). Reads (above ++ e ∷ es) (fault_past above ds (e ∷ es)) (c >>= λ t. r t >>= go)) (sym (reads_targets files above (take due ds) fits))
    (read_on above e es files (unknown_target above (take due ds)) r go (fault_past (above ++ e ∷ []) (drop due ds) es) (reads_edge files above e fits)
    (λ more h.
    subst (λ (edges : List Edge). Reads edges (fault_past (above ++ e ∷ []) (drop due ds) es) (go more)) (append_assoc above (e ∷ []) es)
    (subst (λ k. Reads ((above ++ e ∷ []) ++ es) (fault_past (above ++ e ∷ []) (drop due ds) es) (with_edges more k (drop due ds) es)) long (reads more (above ++ e ∷ []) (drop due ds) es h))))

nothing_fits : Fits [] []
nothing_fits = record { paths = refl; producers = λ p. refl; uses = λ p. refl; once = λ n e p here h. cc; few = omega arith }

-- the table of a manifest, or its first fault
pub table_read : (m : Manifest) → Reads m.edges (first_fault m) (table_of m)
table_read m = reads [] [] m.defaults m.edges nothing_fits
