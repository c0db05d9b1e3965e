-- What the record adds to a manifest. Serves src/recorded.rt.
use Rattle.std.proofs.Common.{◌≡◌, ◌≢◌, ◌⊎◌, inl, inr, ◌<◌, ◌≤◌, ◌+◌, ◌++◌, ◌∷◌, [], ◌∙◌, ℕ, zero, suc, Bool, true, false, List, Option, Some, None, append-nil, append_assoc, ap, arith, get_or, length, refl, subst, sym, take}
use Rattle.std.specs.Prelude.{◌==◌, All, Contains, flat_map, if◌then◌else◌, slice_get}
use Rattle.std.specs.List.{list_any}
use Rattle.std.proofs.lemmas.Bool.{cases_lt, eq-eqb, eqb-true}
use Rattle.std.proofs.lemmas.Bool.Decides.{eqb_tells}
use Rattle.std.proofs.lemmas.List.{take_more}
use Rattle.std.proofs.lemmas.List.Elements.{All-append, All-contains, All-contains_itself, All-nil, All-push, All-take, All-weaker, Contains-append_left, Contains-append_right, Contains-push}
use Rattle.std.proofs.lemmas.Map.Views.{Contains-from_any}
use Rattle.std.proofs.lemmas.Option.{slice_get_cases, slice_get_within}
use Rattle.std.proofs.lemmas.Slice.Eq.{bytes_eq-Decides}
use Rattle.plan_scope.specs.Edge.{Edge}
use Rattle.plan_scope.specs.Edges.{is_among}
use Rattle.plan_scope.specs.Extended.{AreSoundFor, IsMade, paths_in}
use Rattle.plan_scope.specs.Scopes.{Text}
use Rattle.plan_scope.specs.Sound.{IsPath}
use Rattle.plan_scope.specs.declared.edge.addition.Addition.{Addition}
use Rattle.plan_scope.specs.declared.manifest.Manifest.{Manifest}
use Rattle.plan_graph.specs.Cycles.{WaitsFor}
use Rattle.plan_graph.specs.FurtherWaits.{ClosesCycle, IsFurther}
use Rattle.plan_graph.specs.Graph.{IsGraph, all_waits, outputs_of, producer_from, producer_of}
use Rattle.plan_graph.specs.declared.further_waits.Wait.{Wait}
use Rattle.plan_graph.specs.declared.graph_data.Graph.{Graph}
use Rattle.plan_lanes.specs.Journals.{Rule}
use Rattle.plan_lanes.specs.Recalled.{AreAmong, RecallsAmong}
use Rattle.plan_commands.specs.Recorded.{AreRecalled, AreRecalledBetween, AreRecorded, AreSome, DependsOn, IsMadeElsewhere, IsMadeIn, IsNeeded, IsOrderOnly, IsRecalled, IsRecalledFrom, IsRecorded, IsWaitOf, MayLeave, MayLeaveIn, NamesAmong, NamesOutput, NamesOwn, ReadsAmong, directly, through, name_of, own_paths, paths_for}

-- ---- makers

contains_rest : {X : Type 0} (x y : X) (xs : List X) → Contains xs y → Contains (x ∷ xs) y
contains_rest x y xs h = (suc h.0, omega (arith, h.1), h.2)

contains_none : {X : Type 0} (x : X) → Contains [] x → ⊥
contains_none x h = omega (arith, h.1)

-- The maker of a path is an edge that has it as an output.
made_from : (n : ℕ) (es : List Edge) (path : Text) (w : ℕ) → producer_from n es path ≡ Some w → (e : Edge) × Contains es e × Contains (outputs_of e) path
made_from n [] path w h = absurd (cc)
made_from n (e ∷ es) path w h =
    elim (is_among (outputs_of e) path) as (λ b. is_among (outputs_of e) path ≡ b → (if b then Some n else producer_from (n + 1) es path) ≡ Some w → (d : Edge) × Contains (e ∷ es) d × Contains (outputs_of d) path) [
      | true ↦ λ is k. (e, (0, omega arith, refl), Contains-from_any (λ x y. (bytes_eq-Decides x y).0) path (outputs_of e) is)
      | false ↦ λ is k. let rest = made_from (n + 1) es path w k in (rest.0, contains_rest e rest.0 es rest.1, rest.2)
    ] refl h

made_by : (m : Manifest) (g : Graph) (e : ℕ) (path : Text) → IsGraph m g → IsMadeIn g e path → IsMadeElsewhere m.edges e path
made_by m g e path is made = (made.0, sym (is.producers path) ∙ made.1, made.2)

-- What the record adds are outputs.
pub recorded_sound : (rule : Rule) (m : Manifest) (additions : List Addition) → AreRecorded rule m additions → AreSoundFor m additions
recorded_sound rule m additions h =
    All-weaker (IsOrderOnly m.edges) (λ a. All (λ path. IsMade m path ⊎ IsPath path) (paths_in a))
    (λ a only.
    let own : All (λ path. IsMade m path ⊎ IsPath path) a.order_only =
    All-weaker (IsMadeElsewhere m.edges a.edge) (λ path. IsMade m path ⊎ IsPath path) (λ path made. inl (made_from 0 m.edges path made.0 made.1)) a.order_only only.made in
    let same : paths_in a ≡ a.order_only = ap (λ (l : List Text). l ++ a.inputs ++ a.order_only) only.outputs ∙ ap (λ (l : List Text). [] ++ l ++ a.order_only) only.inputs in
    subst (λ (l : List Text). All (λ path. IsMade m path ⊎ IsPath path) l) (sym same) own) additions h.only

contains_flat : (es : List Edge) (e : Edge) (path : Text) (k : ℕ) → k < length es → get_or es k e ≡ e → Contains (outputs_of e) path → Contains (flat_map outputs_of es) path
contains_flat [] e path k lt is h = absurd (omega (arith, lt))
contains_flat (d ∷ es) e path zero lt is h = Contains-append_left (outputs_of d) (flat_map outputs_of es) path (subst (λ (x : Edge). Contains (outputs_of x) path) (sym is) h)
contains_flat (d ∷ es) e path (suc k) lt is h = Contains-append_right (outputs_of d) (flat_map outputs_of es) path (contains_flat es e path k (omega (arith, lt)) is h)

-- A path that an edge makes is among all outputs.
made_is_output : (es : List Edge) (path : Text) (w : ℕ) → producer_of es path ≡ Some w → Contains (flat_map outputs_of es) path
made_is_output es path w h = let made = made_from 0 es path w h in contains_flat es made.0 path made.1.0 made.1.1 made.1.2 made.2

-- ---- some of the paths

pub some_none : (L : Text → Type 0) → AreSome L [] []
some_none L = record { some = All-nil (Contains []); all = All-nil (λ p. Contains [] p ⊎ L p) }

pub some_kept : (L : Text → Type 0) (xs ys : List Text) (p : Text) → AreSome L xs ys → AreSome L (xs ++ p ∷ []) (ys ++ p ∷ [])
some_kept L xs ys p h = record {
  some = All-push (Contains (xs ++ p ∷ [])) ys p (All-weaker (Contains xs) (Contains (xs ++ p ∷ [])) (λ q i. Contains-append_left xs (p ∷ []) q i) ys h.some) (Contains-push xs p);
  all = All-push (λ q. Contains (ys ++ p ∷ []) q ⊎ L q) xs p
      (All-weaker (λ q. Contains ys q ⊎ L q) (λ q. Contains (ys ++ p ∷ []) q ⊎ L q) (λ q i. elim i [ inl k ↦ inl (Contains-append_left ys (p ∷ []) q k) | inr l ↦ inr l ]) xs h.all)
      (inl (Contains-push ys p));
}

pub some_left : (L : Text → Type 0) (xs ys : List Text) (p : Text) → AreSome L xs ys → L p → AreSome L (xs ++ p ∷ []) ys
some_left L xs ys p h l = record {
  some = All-weaker (Contains xs) (Contains (xs ++ p ∷ [])) (λ q i. Contains-append_left xs (p ∷ []) q i) ys h.some;
  all = All-push (λ q. Contains ys q ⊎ L q) xs p h.all (inr l);
}

some_append : (L : Text → Type 0) (xs ys us vs : List Text) → AreSome L xs ys → AreSome L us vs → AreSome L (xs ++ us) (ys ++ vs)
some_append L xs ys us vs h k = record {
  some = All-append (Contains (xs ++ us)) ys vs
      (All-weaker (Contains xs) (Contains (xs ++ us)) (λ q i. Contains-append_left xs us q i) ys h.some)
      (All-weaker (Contains us) (Contains (xs ++ us)) (λ q i. Contains-append_right xs us q i) vs k.some);
  all = All-append (λ q. Contains (ys ++ vs) q ⊎ L q) xs us
      (All-weaker (λ q. Contains ys q ⊎ L q) (λ q. Contains (ys ++ vs) q ⊎ L q) (λ q i. elim i [ inl j ↦ inl (Contains-append_left ys vs q j) | inr l ↦ inr l ]) xs h.all)
      (All-weaker (λ q. Contains vs q ⊎ L q) (λ q. Contains (ys ++ vs) q ⊎ L q) (λ q i. elim i [ inl j ↦ inl (Contains-append_right ys vs q j) | inr l ↦ inr l ]) us k.all);
}

-- Some of some paths.
some_then : (L K : Text → Type 0) (xs ys zs : List Text) → ((p : Text) → K p → L p) → AreSome L xs ys → AreSome K ys zs → AreSome L xs zs
some_then L K xs ys zs kl h k = record {
  some = All-weaker (Contains ys) (Contains xs) (λ q i. All-contains (Contains xs) ys q h.some i) zs k.some;
  all = All-weaker (λ q. Contains ys q ⊎ L q) (λ q. Contains zs q ⊎ L q)
      (λ q i. elim i [ inl j ↦ elim (All-contains (λ x. Contains zs x ⊎ K x) ys q k.all j) [ inl z ↦ inl z | inr l ↦ inr (kl q l) ] | inr l ↦ inr l ]) xs h.all;
}

none_of_none : (L : Text → Type 0) (ys : List Text) → AreSome L [] ys → ys ≡ []
none_of_none L [] h = refl
none_of_none L (y ∷ ys) h = absurd (contains_none (get_or (y ∷ ys) 0 y) (h.some 0 y (omega arith)))

-- ---- paths for an edge

pub paths_more : (e : ℕ) (xs : List Addition) (a : Addition) → paths_for e (xs ++ a ∷ []) ≡ paths_for e xs ++ own_paths e a
paths_more e [] a = append-nil (own_paths e a)
paths_more e (x ∷ xs) a = ap (λ (l : List Text). own_paths e x ++ l) (paths_more e xs a) ∙ sym (append_assoc (own_paths e x) (paths_for e xs) (own_paths e a))

pub own_here : (e : ℕ) (a : Addition) → a.edge ≡ e → own_paths e a ≡ a.order_only
own_here e a is = ap (λ (b : Bool). if b then a.order_only else []) (eq-eqb a.edge e is)

pub own_other : (e : ℕ) (a : Addition) → a.edge ≢ e → own_paths e a ≡ []
own_other e a not = elim (eqb_tells a.edge e) [ inl h ↦ absurd (not h.1) | inr h ↦ ap (λ (b : Bool). if b then a.order_only else []) h.0 ]

-- No edge from n on gains paths by additions to edges below n.
none_for : (e n : ℕ) (xs : List Addition) → n ≤ e → All (IsRecalled n) xs → paths_for e xs ≡ []
none_for e n [] le h = refl
none_for e n (x ∷ xs) le h =
    let first : IsRecalled n x = h 0 x (omega arith) in
    ap (λ (l : List Text). l ++ paths_for e xs) (own_other e x (λ is. omega (arith, first.0, le, is)))
    ∙ none_for e n xs le (λ k d lt. h (suc k) d (omega (arith, lt)))

in_paths_for : (e : ℕ) (xs : List Addition) (a : Addition) (path : Text) (k : ℕ) → k < length xs → get_or xs k a ≡ a → a.edge ≡ e → Contains a.order_only path → Contains (paths_for e xs) path
in_paths_for e [] a path k lt at is h = absurd (omega (arith, lt))
in_paths_for e (x ∷ xs) a path zero lt at is h =
    Contains-append_left (own_paths e x) (paths_for e xs) path
    (subst (λ (l : List Text). Contains l path) (sym (own_here e x (ap (λ (b : Addition). b.edge) at ∙ is))) (subst (λ (b : Addition). Contains b.order_only path) (sym at) h))
in_paths_for e (x ∷ xs) a path (suc k) lt at is h = Contains-append_right (own_paths e x) (paths_for e xs) path (in_paths_for e xs a path k (omega (arith, lt)) at is h)

-- ---- the paths that entries name

pub none_recalled : (rule : Rule) (edges : List Edge) (n : ℕ) → AreRecalledBetween rule edges n n []
none_recalled rule edges n = record { only = All-nil (IsRecalledFrom n n); each = λ e edge least lt at. absurd (omega (arith, least, lt)) }

pub all_recalled : (rule : Rule) (edges : List Edge) (n : ℕ) (additions : List Addition) → n ≡ length edges → AreRecalledBetween rule edges 0 n additions → AreRecalled rule edges additions
all_recalled rule edges n additions is h = record {
  only = subst (λ (m : ℕ). All (IsRecalled m) additions) is (All-weaker (IsRecalledFrom 0 n) (IsRecalled n) (λ x p. p.1) additions h.only);
  each = λ e edge at. h.each e edge (omega arith) (let lt = slice_get_within edges e edge at in omega (arith, lt, is)) at;
}

-- No edge below n gains paths by additions to edges from n on.
none_below : (e from to : ℕ) (xs : List Addition) → e < from → All (IsRecalledFrom from to) xs → paths_for e xs ≡ []
none_below e from to [] lt h = refl
none_below e from to (x ∷ xs) lt h =
    let first : IsRecalledFrom from to x = h 0 x (omega arith) in
    ap (λ (l : List Text). l ++ paths_for e xs) (own_other e x (λ is. omega (arith, first.0, lt, is)))
    ∙ none_below e from to xs lt (λ k d within. h (suc k) d (omega (arith, within)))

paths_append : (e : ℕ) (xs ys : List Addition) → paths_for e (xs ++ ys) ≡ paths_for e xs ++ paths_for e ys
paths_append e [] ys = refl
paths_append e (x ∷ xs) ys = ap (λ (l : List Text). own_paths e x ++ l) (paths_append e xs ys) ∙ sym (append_assoc (own_paths e x) (paths_for e xs) (paths_for e ys))

-- The paths of two ranges of edges, one after the other.
pub both_recalled : (rule : Rule) (edges : List Edge) (from middle to : ℕ) (xs ys : List Addition) → from ≤ middle → middle ≤ to
    → AreRecalledBetween rule edges from middle xs → AreRecalledBetween rule edges middle to ys → AreRecalledBetween rule edges from to (xs ++ ys)
both_recalled rule edges from middle to xs ys least most h k = record { only = every; each = λ e edge low high at. elim (cases_lt e middle) [ inl below ↦ first e edge low below at | inr not ↦ second e edge (omega (arith, not)) high at ] }
  where
    every : All (IsRecalledFrom from to) (xs ++ ys)
    every = All-append (IsRecalledFrom from to) xs ys
        (All-weaker (IsRecalledFrom from middle) (IsRecalledFrom from to) (λ x p. (p.0, (omega (arith, p.1.0, most), p.1.1, p.1.2))) xs h.only)
        (All-weaker (IsRecalledFrom middle to) (IsRecalledFrom from to) (λ x p. (omega (arith, p.0, least), p.1)) ys k.only)

    first : (e : ℕ) (edge : Edge) → from ≤ e → e < middle → slice_get edges e ≡ Some edge → IsRecorded rule edges e edge (paths_for e (xs ++ ys))
    first e edge low below at =
        let none : paths_for e ys ≡ [] = none_below e middle to ys below k.only in
        let now : paths_for e (xs ++ ys) ≡ paths_for e xs = paths_append e xs ys ∙ ap (λ (l : List Text). paths_for e xs ++ l) none ∙ append-nil (paths_for e xs) in
        subst (λ (l : List Text). IsRecorded rule edges e edge l) (sym now) (h.each e edge low below at)

    second : (e : ℕ) (edge : Edge) → middle ≤ e → e < to → slice_get edges e ≡ Some edge → IsRecorded rule edges e edge (paths_for e (xs ++ ys))
    second e edge low high at =
        let none : paths_for e xs ≡ [] = none_for e middle xs low (All-weaker (IsRecalledFrom from middle) (IsRecalled middle) (λ x p. p.1) xs h.only) in
        let now : paths_for e (xs ++ ys) ≡ paths_for e ys = paths_append e xs ys ∙ ap (λ (l : List Text). l ++ paths_for e ys) none in
        subst (λ (l : List Text). IsRecorded rule edges e edge l) (sym now) (k.each e edge low high at)

pub halves_recalled : (rule : Rule) (edges : List Edge) (half count : ℕ) (xs ys all : List Addition) → AreRecalledBetween rule edges 0 half xs → AreRecalledBetween rule edges half count ys
    → all ≡ xs ++ ys → half ≤ count → count ≡ length edges → AreRecalled rule edges all
halves_recalled rule edges half count xs ys all h k is order every =
    subst (AreRecalled rule edges) (sym is) (all_recalled rule edges count (xs ++ ys) every (both_recalled rule edges 0 half count xs ys (omega arith) order h k))

-- ---- the paths of a depfile and those of a start entry

contains_either : (xs ys : List Text) (x : Text) → Contains (xs ++ ys) x → Contains xs x ⊎ Contains ys x
contains_either xs ys x i =
    All-contains (λ q. Contains xs q ⊎ Contains ys q) (xs ++ ys) x
    (All-append (λ q. Contains xs q ⊎ Contains ys q) xs ys
    (All-weaker (Contains xs) (λ q. Contains xs q ⊎ Contains ys q) (λ q k. inl k) xs (All-contains_itself xs))
    (All-weaker (Contains ys) (λ q. Contains xs q ⊎ Contains ys q) (λ q k. inr k) ys (All-contains_itself ys))) i

both_among : (wanted xs ys us vs : List Text) → AreAmong wanted xs us → AreAmong wanted ys vs → AreAmong wanted (xs ++ ys) (us ++ vs)
both_among wanted xs ys us vs h k = record {
  some = λ x i. elim (contains_either us vs x i) [ inl j ↦ Contains-append_left xs ys x (h.some x j) | inr j ↦ Contains-append_right xs ys x (k.some x j) ];
  all = λ x i w. elim (contains_either xs ys x i) [ inl j ↦ Contains-append_left us vs x (h.all x j w) | inr j ↦ Contains-append_right us vs x (k.all x j w) ];
}

pub names_read : (rule : Rule) (wanted : List Text) (e : Edge) (found : List Text) → ReadsAmong rule wanted e found → NamesOwn rule wanted e found
names_read rule wanted e found h = (h.0, inr (inl h.1), h.2)

pub names_both : (rule : Rule) (wanted : List Text) (e : Edge) (named kept found : List Text) → ReadsAmong rule wanted e named → RecallsAmong rule wanted (name_of e) kept → found ≡ named ++ kept
    → NamesOwn rule wanted e found
names_both rule wanted e named kept found h k same =
    (h.0 ++ k.0, inr (inr (h.0, k.0, h.1, k.1, refl)), subst (λ (l : List Text). AreAmong wanted (h.0 ++ k.0) l) (sym same) (both_among wanted h.0 k.0 named kept h.2 k.2))

pub names_recalled : (rule : Rule) (wanted : List Text) (e : Edge) (found : List Text) → RecallsAmong rule wanted (name_of e) found → NamesOwn rule wanted e found
names_recalled rule wanted e found h = (h.0, inl h.1, h.2)

pub names_own : (rule : Rule) (wanted : List Text) (e : Edge) (found : List Text) → NamesOwn rule wanted e found → NamesAmong rule wanted e found
names_own rule wanted e found h = (h.0, inl h.1, h.2)

pub names_others : (rule : Rule) (wanted : List Text) (e : Edge) (own others found : List Text) → NamesOwn rule wanted e own → RecallsAmong rule wanted (name_of e) others → found ≡ own ++ others
    → NamesAmong rule wanted e found
names_others rule wanted e own others found h k same =
    (h.0 ++ k.0, inr (h.0, k.0, h.1, k.1, refl), subst (λ (l : List Text). AreAmong wanted (h.0 ++ k.0) l) (sym same) (both_among wanted h.0 k.0 own others h.2 k.2))

-- The paths of an entry that are outputs are all that an edge may need.
recorded_of : (rule : Rule) (edges : List Edge) (e : ℕ) (edge : Edge) (paths : List Text) → ((edge.depfile ≡ []) × (paths ≡ [])) ⊎ NamesAmong rule (flat_map outputs_of edges) edge paths → IsRecorded rule edges e edge paths
recorded_of rule edges e edge paths (inl h) = inl h
recorded_of rule edges e edge paths (inr h) =
    let all = h.0 in
    let among = h.2 in
    inr (
      all,
      h.1,
      record {
        some = All-weaker (Contains paths) (Contains all) (λ q i. among.some q i) paths (All-contains_itself paths);
        all = All-weaker (Contains all) (λ q. Contains paths q ⊎ MayLeave rule edges e q) (λ q i. by_maker q i (producer_of edges q) refl) all (All-contains_itself all);
      },
    )
  where
    by_maker : (q : Text) → Contains h.0 q → (maker : Option ℕ) → producer_of edges q ≡ maker → Contains paths q ⊎ MayLeave rule edges e q
    by_maker q i None is = inr (λ w made other. let clash : None ≡ Some w = sym is ∙ made in cc)
    by_maker q i (Some w) is = inl (h.2.all q i (made_is_output edges q w is))

pub recalled_more : (rule : Rule) (edges : List Edge) (from n : ℕ) (edge : Edge) (a : Addition) (old new : List Addition) → from ≤ n → slice_get edges n ≡ Some edge → a.edge ≡ n → a.outputs ≡ [] → a.inputs ≡ []
    → ((edge.depfile ≡ []) × (a.order_only ≡ [])) ⊎ NamesAmong rule (flat_map outputs_of edges) edge a.order_only
    → ((e : ℕ) → paths_for e new ≡ paths_for e old ++ own_paths e a) → (new ≡ old) ⊎ (new ≡ old ++ a ∷ [])
    → AreRecalledBetween rule edges from n old → AreRecalledBetween rule edges from (n + 1) new
recalled_more rule edges from n edge a old new least at is outputs inputs recalled paths added h = record { only = only_more added; each = each_more }
  where
    wider : All (IsRecalledFrom from (n + 1)) old
    wider = All-weaker (IsRecalledFrom from n) (IsRecalledFrom from (n + 1)) (λ x p. (p.0, (omega (arith, p.1.0), p.1.1, p.1.2))) old h.only

    only_more : (new ≡ old) ⊎ (new ≡ old ++ a ∷ []) → All (IsRecalledFrom from (n + 1)) new
    only_more (inl same) = subst (λ (l : List Addition). All (IsRecalledFrom from (n + 1)) l) (sym same) wider
    only_more (inr more) =
        subst (λ (l : List Addition). All (IsRecalledFrom from (n + 1)) l) (sym more) (All-push (IsRecalledFrom from (n + 1)) old a wider (omega (arith, is, least), (omega (arith, is), outputs, inputs)))

    here : (e : ℕ) (d : Edge) → e ≡ n → slice_get edges e ≡ Some d → IsRecorded rule edges e d (paths_for e new)
    here e d same there =
        let edge_is : edge ≡ d = some_is edge d (sym at ∙ ap (slice_get edges) (sym same) ∙ there) in
        let none : paths_for e old ≡ [] = none_for e n old (omega (arith, same)) (All-weaker (IsRecalledFrom from n) (IsRecalled n) (λ x p. p.1) old h.only) in
        let now : paths_for e new ≡ a.order_only = paths e ∙ ap (λ (l : List Text). l ++ own_paths e a) none ∙ own_here e a (is ∙ sym same) in
        subst (λ (l : List Text). IsRecorded rule edges e d l) (sym now) (subst (λ (x : Edge). IsRecorded rule edges e x a.order_only) edge_is (recorded_of rule edges e edge a.order_only recalled))
      where
        some_is : (x y : Edge) → Some x ≡ Some y → x ≡ y
        some_is x y k = cc

    before : (e : ℕ) (d : Edge) → from ≤ e → e < n → slice_get edges e ≡ Some d → IsRecorded rule edges e d (paths_for e new)
    before e d low lt there =
        let now : paths_for e new ≡ paths_for e old = paths e ∙ ap (λ (l : List Text). paths_for e old ++ l) (own_other e a (λ k. omega (arith, lt, is, k))) ∙ append-nil (paths_for e old) in
        subst (λ (l : List Text). IsRecorded rule edges e d l) (sym now) (h.each e d low lt there)

    each_more : (e : ℕ) (d : Edge) → from ≤ e → e < n + 1 → slice_get edges e ≡ Some d → IsRecorded rule edges e d (paths_for e new)
    each_more e d low lt there = elim (cases_lt e n) [ inl less ↦ before e d low less there | inr not ↦ here e d (omega (arith, lt, not)) there ]

-- ---- additions that edges need

own_some : (L : Text → Type 0) (e : ℕ) (a b : Addition) → a.edge ≡ b.edge → (a.edge ≡ e → AreSome L a.order_only b.order_only) → AreSome L (own_paths e a) (own_paths e b)
own_some L e a b same h = elim (eqb_tells a.edge e) [
  | inl p ↦ subst (λ (l : List Text). AreSome L l (own_paths e b)) (sym (own_here e a p.1)) (subst (AreSome L a.order_only) (sym (own_here e b (sym same ∙ p.1))) (h p.1))
  | inr p ↦ subst (λ (l : List Text). AreSome L l (own_paths e b)) (sym (own_other e a p.1)) (subst (AreSome L []) (sym (own_other e b (λ k. p.1 (same ∙ k)))) (some_none L))
]

pub needed_more : (L : ℕ → Text → Type 0) (given : List Addition) (n : ℕ) (a b : Addition) (old new : List Addition) → n < length given → get_or given n a ≡ a → b.edge ≡ a.edge → AreSome (L a.edge) a.order_only b.order_only
    → ((e : ℕ) → paths_for e new ≡ paths_for e old ++ own_paths e b)
    → ((e : ℕ) → AreSome (L e) (paths_for e (take n given)) (paths_for e old)) → (e : ℕ) → AreSome (L e) (paths_for e (take (n + 1) given)) (paths_for e new)
needed_more L given n a b old new lt at same some paths h e =
    let taken : take (n + 1) given ≡ take n given ++ a ∷ [] = take_more given n a lt ∙ ap (λ (x : Addition). take n given ++ x ∷ []) at in
    let own : AreSome (L e) (own_paths e a) (own_paths e b) = own_some (L e) e a b (sym same) (λ is. subst (λ (m : ℕ). AreSome (L m) a.order_only b.order_only) is some) in
    subst (λ (l : List Text). AreSome (L e) l (paths_for e new)) (sym (ap (paths_for e) taken ∙ paths_more e (take n given) a))
    (subst (λ (l : List Text). AreSome (L e) (paths_for e (take n given) ++ own_paths e a) l) (sym (paths e)) (some_append (L e) (paths_for e (take n given)) (paths_for e old) (own_paths e a) (own_paths e b) (h e) own))

pub only_more : (g : Graph) (given : List Addition) (n : ℕ) (a b : Addition) (old new : List Addition) → n < length given → get_or given n a ≡ a → b.edge ≡ a.edge → b.outputs ≡ [] → b.inputs ≡ [] → All (IsMadeIn g b.edge) b.order_only
    → (new ≡ old) ⊎ (new ≡ old ++ b ∷ [])
    → ((k : ℕ) → All (IsRecalled k) given → All (IsNeeded g k) old) → (k : ℕ) → All (IsRecalled k) given → All (IsNeeded g k) new
only_more g given n a b old new lt at same outputs inputs made (inl is) h k r = subst (λ (l : List Addition). All (IsNeeded g k) l) (sym is) (h k r)
only_more g given n a b old new lt at same outputs inputs made (inr is) h k r =
    let own : IsRecalled k (get_or given n a) = r n a lt in
    let below : a.edge < k = subst (λ (x : Addition). x.edge < k) at own.0 in
    subst (λ (l : List Addition). All (IsNeeded g k) l) (sym is) (All-push (IsNeeded g k) old b (h k r) ((omega (arith, below, same), outputs, inputs), made))

recorded_then : (rule : Rule) (edges : List Edge) (e : ℕ) (edge : Edge) (K : Text → Type 0) (old new : List Text) → ((p : Text) → K p → MayLeave rule edges e p) → AreSome K old new → IsRecorded rule edges e edge old → IsRecorded rule edges e edge new
recorded_then rule edges e edge K old new leaves some (inl h) = inl (h.0, none_of_none K new (subst (λ (l : List Text). AreSome K l new) h.1 some))
recorded_then rule edges e edge K old new leaves some (inr h) = inr (h.0, h.1, some_then (MayLeave rule edges e) K h.0 old new leaves h.2 some)

-- What is left of recorded paths is recorded.
pub recorded_some : (rule : Rule) (m : Manifest) (g : Graph) (K : ℕ → Text → Type 0) (old new : List Addition) → IsGraph m g → AreRecalled rule m.edges old → ((e : ℕ) (p : Text) → K e p → MayLeave rule m.edges e p)
    → ((e : ℕ) → AreSome (K e) (paths_for e old) (paths_for e new)) → ((k : ℕ) → All (IsRecalled k) old → All (IsNeeded g k) new) → AreRecorded rule m new
recorded_some rule m g K old new is recalled leaves some only = record {
  only = All-weaker (IsNeeded g (length m.edges)) (IsOrderOnly m.edges) (λ a h. record { there = h.0.0; outputs = h.0.1; inputs = h.0.2; made = All-weaker (IsMadeIn g a.edge) (IsMadeElsewhere m.edges a.edge) (λ p i. made_by m g a.edge p is i) a.order_only h.1 }) new (only (length m.edges) recalled.only);
  each = λ e edge at. recorded_then rule m.edges e edge (K e) (paths_for e old) (paths_for e new) (leaves e) (some e) (recalled.each e edge at);
}

pub recorded_recalled : (rule : Rule) (m : Manifest) (additions : List Addition) → AreRecorded rule m additions → AreRecalled rule m.edges additions
recorded_recalled rule m additions h = record {
  only = All-weaker (IsOrderOnly m.edges) (IsRecalled (length m.edges)) (λ a p. (p.there, p.outputs, p.inputs)) additions h.only;
  each = h.each;
}

depends : (m : Manifest) (g : Graph) (e w : ℕ) → IsGraph m g → DependsOn g.waits e w → DependsOn (all_waits m.edges) e w
depends m g e w is h = subst (λ (waits : List (List ℕ)). DependsOn waits e w) is.waits h

-- Without a cycle.
pub leaves_plain : (rule : Rule) (m : Manifest) (g : Graph) → IsGraph m g → (e : ℕ) (p : Text) → MayLeaveIn g [] e p → MayLeave rule m.edges e p
leaves_plain rule m g is e p h = λ w made other. elim (h w (is.producers p ∙ made) other) [ inl d ↦ inl (depends m g e w is d) | inr c ↦ absurd (contains_none e c.0) ]

module _ (rule : Rule) (m : Manifest) (g : Graph) (additions : List Addition) (waits : List Wait) (is : IsGraph m g) (h : AreRecorded rule m additions) (of : All (IsWaitOf g additions) waits) where
  named : (e w : ℕ) (edge : Edge) (path : Text) → slice_get m.edges e ≡ Some edge → Contains (paths_for e additions) path → producer_of m.edges path ≡ Some w → IsRecorded rule m.edges e edge (paths_for e additions) → NamesOutput rule m.edges e w
  named e w edge path at i made (inl none) = absurd (contains_none path (subst (λ (l : List Text). Contains l path) none.1 i))
  named e w edge path at i made (inr r) = record { edge = edge; there = at; paths = r.0; recalled = r.1; path = path; named = All-contains (Contains r.0) (paths_for e additions) path r.2.some i; made = made }

  names_output : (e w : ℕ) → IsFurther waits e w → NamesOutput rule m.edges e w
  names_output e w further =
      let wait = further.0 in
      let wanted : IsWaitOf g additions wait = All-contains (IsWaitOf g additions) waits wait of further.1 in
      let a = wanted.0 in
      let own : a.edge ≡ e = wanted.2 ∙ further.2 in
      let there : a.edge < length m.edges = (All-contains (IsOrderOnly m.edges) additions a h.only wanted.1).there in
      let path = wanted.3 in
      let i : Contains (paths_for e additions) path = in_paths_for e additions a path wanted.1.0 wanted.1.1 wanted.1.2 own wanted.4 in
      let made : producer_of m.edges path ≡ Some w = sym (is.producers path) ∙ wanted.5 ∙ ap (λ (n : ℕ). Some n) further.3 in
      elim (slice_get_cases m.edges e).1 [
        | inl found ↦ named e w found.0 path found.2 i made (h.each e found.0 found.2)
        | inr past ↦ absurd (omega (arith, past.0, there, own))
      ]

  -- With a cycle that these waits close.
  pub leaves_cycle : (cycle : List ℕ) → ClosesCycle g.waits waits cycle → (e : ℕ) (p : Text) → MayLeaveIn g cycle e p → MayLeave rule m.edges e p
  leaves_cycle cycle closes e p leave = λ w made other. elim (leave w (is.producers p ∙ made) other) [
    | inl d ↦ inl (depends m g e w is d)
    | inr c ↦
        inr (record {
          waits = closes.0;
          recorded = λ x y k. elim (closes.1 x y k) [ inl wait ↦ inl (subst (λ (all : List (List ℕ)). WaitsFor all x y) is.waits wait) | inr further ↦ inr (names_output x y further) ];
          cycle = cycle;
          is = closes.2;
          first = c.0;
          second = c.1;
        })
  ]

-- ---- searches

pub found : (waits : List (List ℕ)) (e v w : ℕ) → (v ≡ e) ⊎ DependsOn waits e v → WaitsFor waits v w → DependsOn waits e w
found waits e v w (inl same) wait = directly (subst (λ (x : ℕ). WaitsFor waits x w) same wait)
found waits e v w (inr d) wait = through d wait

pub met_more : (waits : List (List ℕ)) (e v : ℕ) (row met : List ℕ) (k : ℕ) → row ≡ get_or waits v [] → (v ≡ e) ⊎ DependsOn waits e v → All (λ x. (x ≡ e) ⊎ DependsOn waits e x) met
    → All (λ x. (x ≡ e) ⊎ DependsOn waits e x) (met ++ take k row)
met_more waits e v row met k is from h =
    All-append (λ x. (x ≡ e) ⊎ DependsOn waits e x) met (take k row) h
    (All-take (λ x. (x ≡ e) ⊎ DependsOn waits e x) k row
    (All-weaker (Contains row) (λ x. (x ≡ e) ⊎ DependsOn waits e x) (λ w i. inr (found waits e v w from (subst (λ (l : List ℕ). Contains l w) is i))) row (All-contains_itself row)))

-- ---- steps of the code

abbrev pub adds : ℕ → List Text → List Text → List Text → Addition
adds e outputs inputs paths = record { edge = e; outputs = outputs; inputs = inputs; order_only = paths }

pub same_adds : (e : ℕ) (outputs inputs paths : List Text) → outputs ≡ [] → inputs ≡ [] → adds e outputs inputs paths ≡ adds e [] [] paths
same_adds e outputs inputs paths h k = cc

pub contains_any : (row : List ℕ) (x : ℕ) → list_any (λ y. y == x) row ≡ true → Contains row x
contains_any row x h = Contains-from_any {eq = λ q y. y == q} (λ a b is. sym (eqb-true b a is)) x row h
