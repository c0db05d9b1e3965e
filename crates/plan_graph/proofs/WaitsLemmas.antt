-- The waits of edges, by the producers of their inputs. Lemmas for src/waits.rt and src/build_graph.rt.
use Rattle.std.proofs.Common.{◌≡◌, ◌<◌, ◌+◌, ℕ, zero, suc, List, [], ◌∷◌, ◌++◌, inl, inr, Bool, true, false, Option, Some, None, length, refl, ap, sym, subst, arith, ◌∙◌}
use Rattle.std.specs.List.{list_any}
use Rattle.std.specs.Prelude.{◌||◌, ◌==◌, flat_map, drop, filter, get_or, if◌then◌else◌, map, not, slice_get}
use Rattle.std.proofs.Math.Seq.{drop-cons}
use Rattle.std.proofs.lemmas.List.{append_assoc}
use Rattle.std.proofs.lemmas.Bool.{eq-eqb, eqb-true}
use Rattle.plan_scope.specs.declared.manifest.DefaultTarget.{DefaultTarget}
use Rattle.plan_scope.specs.Edge.{Edge}
use Rattle.plan_scope.specs.Edges.{is_among}
use Rattle.plan_graph.specs.declared.files.File.{File}
use Rattle.plan_graph.specs.Files.{Path, Table, file_at, producer_in, number_of, paths_in}
use Rattle.plan_graph.specs.Fitting.{Fits, IsAscending, producers, producers_at, unless_own}
use Rattle.plan_graph.specs.Graph.{default_edges, inputs_named, inputs_of, producer_from, producer_of, is_last, produces_any, numbers_from, outputs_of, rows_of, waits_of}
use Rattle.plan_graph.specs.Reading.{is_own, own_of}
use Rattle.plan_graph.proofs.FilesLemmas.{file_numbered}
use Rattle.plan_graph.proofs.InputLemmas.{inputs_are}
use Rattle.plan_graph.proofs.MemberLemmas.{In, Rises, any_in, contained, filter_in, flat_in, in_any, in_filter, in_flat, in_list, rises_from, rises_lower, same_members, some_is}

-- the numbers of edges ascend
pub numbers_rise : (n : ℕ) (test : Edge → Bool) (es : List Edge) → Rises n (numbers_from n test es)
numbers_rise n test [] = tt
numbers_rise n test (e ∷ es) =
    let rest : Rises (n + 1) (numbers_from (n + 1) test es) = numbers_rise (n + 1) test es in
    elim (test e) as (λ b. Rises n (if b then n ∷ numbers_from (n + 1) test es else numbers_from (n + 1) test es))
    [ true ↦ (omega arith, rest) | false ↦ rises_lower n (n + 1) (numbers_from (n + 1) test es) (omega arith) rest ]

-- a number is that of an edge that passes the test
pub record Numbered (n : ℕ) (test : Edge → Bool) (es : List Edge) (k : ℕ) : Type 0 where
  pub place : ℕ
  pub edge : Edge
  pub here : slice_get es place ≡ Some edge
  pub passes : test edge ≡ true
  pub counts : k ≡ n + place

numbered_later : (n : ℕ) (test : Edge → Bool) (e : Edge) (es : List Edge) (k : ℕ) → Numbered (n + 1) test es k → Numbered n test (e ∷ es) k
numbered_later n test e es k x = record { place = suc x.place; edge = x.edge; here = x.here; passes = x.passes; counts = omega (arith, x.counts) }

-- a number in the list is that of an edge that passes the test
pub numbers_given : (n : ℕ) (test : Edge → Bool) (es : List Edge) (k : ℕ) → In k (numbers_from n test es) → Numbered n test es k
numbers_given n test [] k h = absurd h
numbers_given n test (e ∷ es) k h =
    elim (test e) as (λ b. test e ≡ b → In k (if b then n ∷ numbers_from (n + 1) test es else numbers_from (n + 1) test es) → Numbered n test (e ∷ es) k) [
      | true ↦ λ t i. elim i [ inl same ↦ record { place = 0; edge = e; here = refl; passes = t; counts = omega (arith, same) } | inr j ↦ numbered_later n test e es k (numbers_given (n + 1) test es k j) ]
      | false ↦ λ t i. numbered_later n test e es k (numbers_given (n + 1) test es k i)
    ] refl h

-- the number of an edge that passes the test is in the list
pub numbers_kept : (n : ℕ) (test : Edge → Bool) (es : List Edge) (i : ℕ) (e : Edge) → slice_get es i ≡ Some e → test e ≡ true → In (n + i) (numbers_from n test es)
numbers_kept n test [] i e h t = cc
numbers_kept n test (x ∷ es) zero e h t =
    let same : x ≡ e = some_is x e h in
    elim (test x) as (λ b. test x ≡ b → In (n + 0) (if b then n ∷ numbers_from (n + 1) test es else numbers_from (n + 1) test es))
    [ true ↦ λ s. inl (omega arith) | false ↦ λ s. absurd (cc) ] refl
numbers_kept n test (x ∷ es) (suc i) e h t =
    let moved : n + 1 + i ≡ n + suc i = omega arith in
    let later : In (n + suc i) (numbers_from (n + 1) test es) = subst (λ k. In k (numbers_from (n + 1) test es)) moved (numbers_kept (n + 1) test es i e h t) in
    elim (test x) as (λ b. In (n + suc i) (if b then n ∷ numbers_from (n + 1) test es else numbers_from (n + 1) test es)) [ true ↦ inr later | false ↦ later ]

-- the first producer of a path produces it
pub producer_found : (n : ℕ) (es : List Edge) (path : Path) (k : ℕ) → producer_from n es path ≡ Some k → Numbered n (λ e. is_among (outputs_of e) path) es k
producer_found n [] path k h = cc
producer_found n (e ∷ es) path k h =
    elim (is_among (outputs_of e) path) as (λ b. is_among (outputs_of e) path ≡ b → (if b then Some n else producer_from (n + 1) es path) ≡ Some k → Numbered n (λ x. is_among (outputs_of x) path) (e ∷ es) k) [
      | true ↦ λ t i. record { place = 0; edge = e; here = refl; passes = t; counts = let same : n ≡ k = some_is n k i in omega (arith, same) }
      | false ↦ λ t i. numbered_later n (λ x. is_among (outputs_of x) path) e es k (producer_found (n + 1) es path k i)
    ] refl h

own_differs : (k n : ℕ) → k ≡ n → (k == n) ≡ false → ⊥
own_differs k n e h = let same : (k == n) ≡ true = eq-eqb k n e in cc

makes_not : (b : Bool) → b ≡ true → not b ≡ true → ⊥
makes_not true e h = cc
makes_not false e h = cc

in_nothing : (k : ℕ) (own : Bool) → In k (if own then [] else []) → ⊥
in_nothing k true h = h
in_nothing k false h = h

in_listed : (own : Option ℕ) (k : ℕ) (producer : Option ℕ) → In k (unless_own own producer) → (producer ≡ Some k) × (is_own (Some k) own ≡ false)
in_listed own k None h = absurd (in_nothing k (is_own None own) h)
in_listed own k (Some n) h =
    elim (is_own (Some n) own) as (λ b. is_own (Some n) own ≡ b → In k (if b then [] else n ∷ []) → (Some n ≡ Some k) × (is_own (Some k) own ≡ false)) [
      | true ↦ λ e i. absurd i
      | false ↦ λ e i. elim i [ inl same ↦ (ap (λ (x : ℕ). Some x) same, subst (λ x. is_own (Some x) own ≡ false) same e) | inr j ↦ absurd j ]
    ] refl h

listed_in : (own : Option ℕ) (k : ℕ) (producer : Option ℕ) → producer ≡ Some k → is_own (Some k) own ≡ false → In k (unless_own own producer)
listed_in own k producer e h =
    subst (λ m. In k (unless_own own m)) (sym e) (subst (λ b. In k (if b then [] else k ∷ [])) (sym h) (inl refl))

-- a counted input of a phony is no output of the phony itself
phony_given : (edges : List Edge) (number : ℕ) (e : Edge) (p : Path) (k : ℕ) (phony : Bool) → ((p : Path) → is_among (outputs_of e) p ≡ true → producer_of edges p ≡ Some number)
    → In p (inputs_named e) → producer_of edges p ≡ Some k → is_own (Some k) (if phony then Some number else None) ≡ false
    → In p (if phony then filter (λ q. not (is_among (outputs_of e) q)) (inputs_named e) else inputs_named e)
phony_given edges number e p k false once i producer h = i
phony_given edges number e p k true once i producer h =
    in_filter (λ q. not (is_among (outputs_of e) q)) (inputs_named e) p i
    (elim (is_among (outputs_of e) p) as (λ b. is_among (outputs_of e) p ≡ b → not b ≡ true)
    [ true ↦ λ t. let same : k ≡ number = some_is k number (sym producer ∙ once p t) in absurd (own_differs k number same h) | false ↦ λ t. refl ] refl)

phony_kept : (edges : List Edge) (number : ℕ) (e : Edge) (p : Path) (k : ℕ) (phony : Bool) → (k ≡ number → is_among (outputs_of e) p ≡ true)
    → In p (if phony then filter (λ q. not (is_among (outputs_of e) q)) (inputs_named e) else inputs_named e)
    → In p (inputs_named e) × (is_own (Some k) (if phony then Some number else None) ≡ false)
phony_kept edges number e p k false makes i = (i, refl)
phony_kept edges number e p k true makes i =
    let kept = filter_in (λ q. not (is_among (outputs_of e) q)) (inputs_named e) p i in
    (kept.0, elim (k == number) as (λ b. (k == number) ≡ b → b ≡ false) [ true ↦ λ t. absurd (makes_not (is_among (outputs_of e) p) (makes (eqb-true k number t)) kept.1) | false ↦ λ t. refl ] refl)

given_input : (files : Table) (edges : List Edge) (number : ℕ) (e : Edge) (p : Path) (k : ℕ) → Fits files edges → slice_get edges number ≡ Some e
    → In p (inputs_named e) → producer_of edges p ≡ Some k → is_own (Some k) (own_of number e) ≡ false → In p (inputs_of e)
given_input files edges number e p k fits here i producer h = subst (In p) (sym (inputs_are e)) (phony_given edges number e p k e.phony (λ q t. fits.once number e q here t) i producer h)

kept_input : (files : Table) (edges : List Edge) (number : ℕ) (e : Edge) (p : Path) (k : ℕ) → Fits files edges → slice_get edges number ≡ Some e
    → In p (inputs_of e) → producer_of edges p ≡ Some k → In p (inputs_named e) × (is_own (Some k) (own_of number e) ≡ false)
kept_input files edges number e p k fits here i producer =
    phony_kept edges number e p k e.phony (λ same.
    let n = producer_found 0 edges p k producer in
    let place : n.place ≡ number = omega (arith, n.counts, same) in
    let edge : n.edge ≡ e = some_is n.edge e (sym n.here ∙ (ap (slice_get edges) place ∙ here)) in
    subst (λ x. is_among (outputs_of x) p ≡ true) edge n.passes) (subst (In p) (inputs_are e) i)

-- the producers of some paths, except the edge itself, are the edges that produce one of these inputs
producers_are : (files : Table) (edges : List Edge) (own : Option ℕ) (named inputs : List Path) (row : List ℕ) → Fits files edges
    → ((p : Path) (k : ℕ) → In p named → producer_of edges p ≡ Some k → is_own (Some k) own ≡ false → In p inputs)
    → ((p : Path) (k : ℕ) → In p inputs → producer_of edges p ≡ Some k → In p named × (is_own (Some k) own ≡ false))
    → IsAscending (producers files own named) row → numbers_from 0 (produces_any inputs) edges ≡ row
producers_are files edges own named inputs row fits given kept ascending =
    same_members 0 (numbers_from 0 (produces_any inputs) edges) row (numbers_rise 0 (produces_any inputs) edges) (rises_from 0 row (λ h. omega arith) ascending.order)
    (λ k i.
    let n = numbers_given 0 (produces_any inputs) edges k i in
    let p = any_in (is_among (outputs_of n.edge)) inputs n.passes in
    let place : k ≡ n.place = omega (arith, n.counts) in
    let producer : producer_of edges p.0 ≡ Some k = fits.once n.place n.edge p.0 n.here p.2 ∙ ap (λ (x : ℕ). Some x) (sym place) in
    let named_too = kept p.0 k p.1 producer in
    in_list row k (ascending.kept k (contained (producers files own named) k (in_flat (λ q. unless_own own (producer_in files q)) named p.0 k named_too.0
    (listed_in own k (producer_in files p.0) (fits.producers p.0 ∙ producer) named_too.1)))))
    (λ k i.
    let p = flat_in (λ q. unless_own own (producer_in files q)) named k (in_list (producers files own named) k (ascending.given k (contained row k i))) in
    let is = in_listed own k (producer_in files p.0) p.2 in
    let producer : producer_of edges p.0 ≡ Some k = sym (fits.producers p.0) ∙ is.0 in
    let n = producer_found 0 edges p.0 k producer in
    subst (λ j. In j (numbers_from 0 (produces_any inputs) edges)) (sym n.counts)
    (numbers_kept 0 (produces_any inputs) edges n.place n.edge n.here (in_any (is_among (outputs_of n.edge)) inputs p.0 (given p.0 k p.1 producer is.1) n.passes)))

-- the waits of the edge with this number
pub waits_are : (files : Table) (edges : List Edge) (number : ℕ) (e : Edge) (row : List ℕ) → Fits files edges → slice_get edges number ≡ Some e
    → IsAscending (producers files (own_of number e) (inputs_named e)) row → waits_of edges e ≡ row
waits_are files edges number e row fits here ascending =
    producers_are files edges (own_of number e) (inputs_named e) (inputs_of e) row fits
    (λ p k i producer unless_own. given_input files edges number e p k fits here i producer unless_own)
    (λ p k i producer. kept_input files edges number e p k fits here i producer)
    ascending

-- the producers of targets of `default` statements
targets_are : (files : Table) (edges : List Edge) (targets : List Path) (row : List ℕ) → Fits files edges
    → IsAscending (producers files None targets) row → numbers_from 0 (produces_any targets) edges ≡ row
targets_are files edges targets row fits ascending = producers_are files edges None targets targets row fits (λ p k i producer h. i) (λ p k i producer. (i, refl)) ascending

-- the item at an index, whatever the default is
pub item_at : {X : Type 0} (xs : List X) (i : ℕ) (x d : X) → i < length xs → x ≡ get_or xs i d → x ≡ get_or xs i x
item_at [] i x d lt h = absurd (omega (arith, lt))
item_at (y ∷ xs) zero x d lt h = h
item_at (y ∷ xs) (suc i) x d lt h = item_at xs i x d (omega (arith, lt)) h

pub item_here : {X : Type 0} (xs : List X) (i : ℕ) (x d : X) → slice_get xs i ≡ Some x → x ≡ get_or xs i d
item_here [] i x d h = cc
item_here (y ∷ xs) zero x d h = sym (some_is y x h)
item_here (y ∷ xs) (suc i) x d h = item_here xs i x d h

-- the rest after one more edge
pub drop_next : {X : Type 0} (xs : List X) (i : ℕ) (x : X) → i < length xs → x ≡ get_or xs i x → drop i xs ≡ x ∷ drop (i + 1) xs
drop_next xs i x h e = let next : suc i ≡ i + 1 = omega arith in drop-cons xs i x h ∙ (ap (λ y. y ∷ drop (suc i) xs) (sym e) ∙ ap (λ k. x ∷ drop k xs) next)

-- the waits of one more edge
pub next_waits : (edges : List Edge) (i : ℕ) (e : Edge) (rows : List (List ℕ)) (row : List ℕ) (all : List (List ℕ)) → i < length edges → e ≡ get_or edges i e → waits_of edges e ≡ row
    → rows ++ map (waits_of edges) (drop i edges) ≡ all → (rows ++ row ∷ []) ++ map (waits_of edges) (drop (i + 1) edges) ≡ all
next_waits edges i e rows row all h here is so_far =
    append_assoc rows (row ∷ []) (map (waits_of edges) (drop (i + 1) edges))
    ∙ (ap (λ (r : List ℕ). rows ++ (r ∷ map (waits_of edges) (drop (i + 1) edges))) (sym is)
    ∙ (ap (λ (es : List Edge). rows ++ map (waits_of edges) es) (sym (drop_next edges i e h here)) ∙ so_far))

-- the producers of targets, in ascending order, are the edges that are built by default
pub named_defaults : (files : Table) (edges : List Edge) (defaults : List DefaultTarget) (row : List ℕ) → Fits files edges → (length defaults == 0) ≡ false
    → IsAscending (producers files None (map (λ t. t.path) defaults)) row → default_edges edges defaults ≡ row
named_defaults files edges [] row fits some ascending = cc
named_defaults files edges (d ∷ ds) row fits some ascending = targets_are files edges (map (λ t. t.path) (d ∷ ds)) row fits ascending

-- the producers by number are the producers by path
pub producers_numbered : (files : Table) (own : Option ℕ) (ps : List Path) → producers_at files own (map (number_of (paths_in files)) ps) ≡ producers files own ps
producers_numbered files own [] = refl
producers_numbered files own (p ∷ ps) =
    ap (λ (f : File). unless_own own f.producer ++ producers_at files own (map (number_of (paths_in files)) ps)) (file_numbered files p)
    ∙ ap (λ (ns : List ℕ). unless_own own (producer_in files p) ++ ns) (producers_numbered files own ps)

unused_numbered : (files : Table) (edges : List Edge) (ps : List Path) → Fits files edges
    → list_any (λ n. not (file_at n files).is_used) (map (number_of (paths_in files)) ps) ≡ list_any (λ o. not (is_among (flat_map inputs_of edges) o)) ps
unused_numbered files edges [] fits = refl
unused_numbered files edges (p ∷ ps) fits =
    ap (λ (f : File). not f.is_used || list_any (λ n. not (file_at n files).is_used) (map (number_of (paths_in files)) ps)) (file_numbered files p)
    ∙ (ap (λ (b : Bool). not b || list_any (λ n. not (file_at n files).is_used) (map (number_of (paths_in files)) ps)) (fits.uses p)
    ∙ ap (λ (b : Bool). not (is_among (flat_map inputs_of edges) p) || b) (unused_numbered files edges ps fits))

-- an item by its number
pub there : {X : Type 0} (xs : List X) (i : ℕ) → i < length xs → (x : X) × (slice_get xs i ≡ Some x)
there [] i h = absurd (omega (arith, h))
there (x ∷ xs) zero h = (x, refl)
there (x ∷ xs) (suc i) h = there xs i (omega (arith, h))

drop_at : (edges : List Edge) (i : ℕ) (e : Edge) → slice_get edges i ≡ Some e → drop i edges ≡ e ∷ drop (i + 1) edges
drop_at [] i e h = cc
drop_at (x ∷ es) zero e h = ap (λ (y : Edge). y ∷ es) (some_is x e h)
drop_at (x ∷ es) (suc i) e h = let next : suc (i + 1) ≡ suc i + 1 = omega arith in drop_at es i e h ∙ ap (λ k. e ∷ drop k (x ∷ es)) next

row_of_edge : (named : Edge → List Path) (paths : List Path) (edges : List Edge) (i : ℕ) (e : Edge) → slice_get edges i ≡ Some e → get_or (rows_of named paths edges) i [] ≡ map (number_of paths) (named e)
row_of_edge named paths [] i e h = cc
row_of_edge named paths (x ∷ es) zero e h = ap (λ (y : Edge). map (number_of paths) (named y)) (some_is x e h)
row_of_edge named paths (x ∷ es) (suc i) e h = row_of_edge named paths es i e h

-- the last edges, after one more was tested
pub last_step : (files : Table) (edges : List Edge) (outputs : List (List ℕ)) (row : List ℕ) (i : ℕ) (last : Bool) → Fits files edges → outputs ≡ rows_of outputs_of (paths_in files) edges → i < length edges
    → last ≡ list_any (λ n. not (file_at n files).is_used) (get_or outputs i [])
    → row ++ numbers_from i (is_last edges) (drop i edges) ≡ (if last then (row ++ i ∷ []) else row) ++ numbers_from (i + 1) (is_last edges) (drop (i + 1) edges)
last_step files edges outputs row i last fits rows lt is =
    let x = there edges i lt in
    let e = x.0 in
    let rest = numbers_from (i + 1) (is_last edges) (drop (i + 1) edges) in
    let test : last ≡ is_last edges e
    = is ∙ (ap (λ (ns : List ℕ). list_any (λ n. not (file_at n files).is_used) ns) (ap (λ (rs : List (List ℕ)). get_or rs i []) rows ∙ row_of_edge outputs_of (paths_in files) edges i e x.1) ∙ unused_numbered files edges (outputs_of e) fits) in
    ap (λ (es : List Edge). row ++ numbers_from i (is_last edges) es) (drop_at edges i e x.1)
    ∙ (ap (λ (b : Bool). row ++ (if b then i ∷ rest else rest)) (sym test)
    ∙ elim last as (λ b. row ++ (if b then i ∷ rest else rest) ≡ (if b then (row ++ i ∷ []) else row) ++ rest) [ true ↦ sym (append_assoc row (i ∷ []) rest) | false ↦ refl ])
