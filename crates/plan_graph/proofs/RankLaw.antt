-- Ranks and cycles. Proofs for the laws ranks_rise and ranked_unless_cyclic.
use Rattle.std.proofs.Common.{◌≡◌, ◌≢◌, ◌<◌, ◌≤◌, ◌+◌, ◌++◌, ◌∷◌, [], ◌∙◌, ◌⊎◌, inl, inr, List, ℕ, zero, suc, Some, ap, arith, get_or, length, max, refl, set, subst, sym}
use Rattle.std.specs.Prelude.{Contains, drop, replicate, slice_get, slice_index}
use Rattle.std.proofs.lemmas.Bool.{cases_lt}
use Rattle.std.proofs.lemmas.List.{get_or-map, get_or_default, get_or_past}
use Rattle.std.proofs.lemmas.List.Elements.{All-contains}
use Rattle.std.proofs.lemmas.Option.{slice_get-get_or, slice_get_within}
use Rattle.plan_graph.specs.declared.walk.Mark.{Mark}
use Rattle.plan_graph.specs.declared.walk.Mark.TheVariants.{Done, New, Open}
use Rattle.plan_graph.specs.Cycles.{AreRanks, Chain, IsCycle, WaitsFor, rank_over}
use Rattle.plan_graph.specs.Walking.{AllDone, InRange, IsWalk, left}
use Rattle.plan_graph.proofs.MemberLemmas.{In, contained, in_list, some_is}
use Rattle.plan_graph.proofs.WalkLemmas.{chain_push, closes, cycle_closed, is_open, left_done, left_open, opens, ranks_are, starts, top_open}

-- a rank is greater than each rank of its row
rank_above : (ranks row : List ℕ) (w : ℕ) → In w row → slice_index ranks w < rank_over ranks row
rank_above ranks [] w h = absurd h
rank_above ranks (x ∷ xs) w h = elim h [
  | inl e ↦ subst (λ y. slice_index ranks y < max (slice_index ranks x + 1) (rank_over ranks xs)) e (omega arith)
  | inr i ↦ let below : slice_index ranks w < rank_over ranks xs = rank_above ranks xs w i in omega (arith, below)
]

-- the rank of an edge is greater than that of each edge that it waits for
pub rise : (waits : List (List ℕ)) (ranks : List ℕ) (e w : ℕ) → AreRanks waits ranks → WaitsFor waits e w → slice_index ranks w < slice_index ranks e
rise waits ranks e w are h = elim (cases_lt e (length waits)) [
  | inl here ↦
      let rank : slice_index ranks e ≡ rank_over ranks (get_or waits e []) = ap (λ (r : List ℕ). slice_index r e) are ∙ get_or-map (rank_over ranks) waits e [] 0 here in
      let above : slice_index ranks w < rank_over ranks (get_or waits e []) = rank_above ranks (get_or waits e []) w (in_list (get_or waits e []) w h) in
      omega (arith, rank, above)
  | inr past ↦ absurd (subst (In w) (get_or_past waits e [] past) (in_list (get_or waits e []) w h))
]

-- ranks descend along a chain
chain_falls : (waits : List (List ℕ)) (ranks : List ℕ) (x : ℕ) (xs : List ℕ) (y : ℕ) → AreRanks waits ranks → Chain waits (x ∷ (xs ++ y ∷ [])) → slice_index ranks y < slice_index ranks x
chain_falls waits ranks x [] y are h = rise waits ranks x y are h.0
chain_falls waits ranks x (z ∷ xs) y are h =
    let first : slice_index ranks z < slice_index ranks x = rise waits ranks x z are h.0 in
    let rest : slice_index ranks y < slice_index ranks z = chain_falls waits ranks z xs y are h.1 in
    omega (arith, first, rest)

-- if edges have ranks, there is no cycle
pub no_cycle : (waits : List (List ℕ)) (ranks es : List ℕ) → AreRanks waits ranks → IsCycle waits es → ⊥
no_cycle waits ranks [] are h = h
no_cycle waits ranks (e ∷ es) are h = let falls : slice_index ranks e < slice_index ranks e = chain_falls waits ranks e es e are h in omega (arith, falls)

-- a stage of a walk
record Stage (waits : List (List ℕ)) : Type 0 where
  marks : List Mark
  passed : List ℕ
  ranks : List ℕ
  path : List ℕ
  walk : IsWalk waits marks passed ranks path

abbrev Ranked : List (List ℕ) → Type 0
Ranked waits = (ranks : List ℕ) × AreRanks waits ranks

abbrev Next : (waits : List (List ℕ)) → Stage waits → Type 0
Next waits s = Ranked waits ⊎ ((t : Stage waits) × (left t.marks < left s.marks))

new_later : (m : Mark) (ms : List Mark) (e : ℕ) → m ≢ New → ((k : ℕ) → slice_get ms k ≢ Some New) → slice_get (m ∷ ms) e ≢ Some New
new_later m ms zero h f = λ e. h (some_is m New e)
new_later m ms (suc e) h f = f e

done_mark : (m : Mark) → (m ≡ Done) ⊎ (m ≢ Done)
done_mark Done = inl refl
done_mark New = inr (λ e. cc)
done_mark Open = inr (λ e. cc)

done_or_not : (marks : List Mark) (w : ℕ) → (slice_get marks w ≡ Some Done) ⊎ (slice_get marks w ≢ Some Done)
done_or_not [] w = inr (λ e. cc)
done_or_not (m ∷ ms) zero = elim (done_mark m) [ inl e ↦ inl (ap (λ (x : Mark). Some x) e) | inr f ↦ inr (λ e. f (some_is m Done e)) ]
done_or_not (m ∷ ms) (suc w) = done_or_not ms w

new_or_not : (m : Mark) → (m ≡ New) ⊎ (m ≢ New)
new_or_not New = inl refl
new_or_not Open = inr (λ e. cc)
new_or_not Done = inr (λ e. cc)

some_new : (marks : List Mark) → ((e : ℕ) × (slice_get marks e ≡ Some New)) ⊎ ((e : ℕ) → slice_get marks e ≢ Some New)
some_new [] = inr (λ e h. cc)
some_new (New ∷ ms) = inl (0, refl)
some_new (Open ∷ ms) = elim (some_new ms) [ inl x ↦ inl (suc x.0, x.1) | inr f ↦ inr (λ e. new_later Open ms e (λ h. cc) f) ]
some_new (Done ∷ ms) = elim (some_new ms) [ inl x ↦ inl (suc x.0, x.1) | inr f ↦ inr (λ e. new_later Done ms e (λ h. cc) f) ]

some_undone : (marks : List Mark) (row : List ℕ) → ((w : ℕ) × In w row × (slice_get marks w ≢ Some Done)) ⊎ AllDone marks row
some_undone marks [] = inr tt
some_undone marks (w ∷ ws) = elim (done_or_not marks w) [
  | inl d ↦ elim (some_undone marks ws) [ inl x ↦ inl (x.0, inr x.1, x.2) | inr a ↦ inr (d, a) ]
  | inr n ↦ inl (w, inl refl, n)
]

split_last : (path : List ℕ) → (path ≡ []) ⊎ ((front : List ℕ) × (top : ℕ) × (path ≡ front ++ top ∷ []))
split_last [] = inl refl
split_last (x ∷ xs) = elim (split_last xs) [
  | inl e ↦ inr ([], x, ap (λ (ys : List ℕ). x ∷ ys) e)
  | inr s ↦ inr (x ∷ s.0, s.1, ap (λ (ys : List ℕ). x ∷ ys) s.2)
]

opened : (waits : List (List ℕ)) (s : Stage waits) (next : ℕ) → slice_get s.marks next ≡ Some New → Chain waits (s.path ++ next ∷ []) → Next waits s
opened waits s next fresh chain = inr (
  record {
    marks = set s.marks next Open;
    passed = s.passed;
    ranks = s.ranks;
    path = s.path ++ next ∷ [];
    walk = opens waits s.marks s.passed s.ranks s.path next s.walk fresh chain;
  },
  left_open s.marks next (slice_get_within s.marks next New fresh) fresh,
)

closed : (waits : List (List ℕ)) (s : Stage waits) (front : List ℕ) (top : ℕ) → s.path ≡ front ++ top ∷ [] → AllDone s.marks (get_or waits top []) → Next waits s
closed waits s front top p done =
    let o = top_open waits s.marks s.passed s.ranks s.path front top s.walk p in
    let rank = rank_over s.ranks (get_or waits top []) in
    inr (
      record {
        marks = set s.marks top Done;
        passed = s.passed;
        ranks = set s.ranks top rank;
        path = front;
        walk = closes waits s.marks s.passed s.ranks s.path front top rank s.walk p done refl;
      },
      left_done s.marks top (slice_get_within s.marks top Open o) o,
    )

-- there is a cycle if an edge that is waited for is open
met : (waits : List (List ℕ)) (s : Stage waits) (next : ℕ) → ((es : List ℕ) → IsCycle waits es → ⊥) → Contains s.path next → Chain waits (s.path ++ next ∷ []) → ⊥
met waits s next acyclic (place, within, here) chain =
    acyclic (drop place s.path) (cycle_closed waits s.path next place within (get_or_default s.path place 0 next within ∙ here) chain)

waited : (waits : List (List ℕ)) (s : Stage waits) (front : List ℕ) (top next : ℕ) → InRange waits → ((es : List ℕ) → IsCycle waits es → ⊥) → s.path ≡ front ++ top ∷ []
    → In next (get_or waits top []) → slice_get s.marks next ≢ Some Done → Next waits s
waited waits s front top next range acyclic p i undone =
    let contains = contained (get_or waits top []) next i in
    let chain : Chain waits (s.path ++ next ∷ []) = subst (λ (q : List ℕ). Chain waits (q ++ next ∷ [])) (sym p) (chain_push waits front top next (subst (Chain waits) p s.walk.chain) contains) in
    let here : next < length waits = All-contains (λ w. w < length waits) (get_or waits top []) next (range top) contains in
    let within : next < length s.marks = omega (arith, here, s.walk.marked) in
    elim (new_or_not (get_or s.marks next New)) [
      | inl n ↦ opened waits s next (slice_get-get_or s.marks next New within ∙ ap (λ (m : Mark). Some m) n) chain
      | inr m ↦ absurd (met waits s next acyclic (s.walk.opened next (is_open s.marks next within m undone)) chain)
    ]

next_stage : (waits : List (List ℕ)) → InRange waits → ((es : List ℕ) → IsCycle waits es → ⊥) → (s : Stage waits) → Next waits s
next_stage waits range acyclic s = elim (split_last s.path) [
  | inl e ↦ elim (some_new s.marks) [
    | inl x ↦ opened waits s x.0 x.1 (subst (λ (q : List ℕ). Chain waits (q ++ x.0 ∷ [])) (sym e) tt)
    | inr none ↦ inl (s.ranks, ranks_are waits s.marks s.passed s.ranks (subst (IsWalk waits s.marks s.passed s.ranks) e s.walk) (λ k h. none k))
  ]
  | inr x ↦ elim (some_undone s.marks (get_or waits x.1 [])) [
    | inl w ↦ waited waits s x.0 x.1 w.0 range acyclic x.2 w.1 w.2
    | inr done ↦ closed waits s x.0 x.1 x.2 done
  ]
]

walked : (waits : List (List ℕ)) → InRange waits → ((es : List ℕ) → IsCycle waits es → ⊥) → (steps : ℕ) (s : Stage waits) → left s.marks ≤ steps → Ranked waits
walked waits range acyclic zero s h = elim (next_stage waits range acyclic s) [ inl r ↦ r | inr t ↦ absurd (omega (arith, h, t.1)) ]
walked waits range acyclic (suc steps) s h = elim (next_stage waits range acyclic s) [ inl r ↦ r | inr t ↦ walked waits range acyclic steps t.0 (let less : left t.0.marks < left s.marks = t.1 in omega (arith, h, less)) ]

-- if there is no cycle, edges have ranks
pub ranked : (waits : List (List ℕ)) → InRange waits → ((es : List ℕ) → IsCycle waits es → ⊥) → (ranks : List ℕ) × AreRanks waits ranks
ranked waits range acyclic =
    let n = length waits in
    let first : Stage waits = record { marks = replicate n New; passed = replicate n 0; ranks = replicate n 0; path = []; walk = starts waits } in
    walked waits range acyclic (left first.marks) first (omega arith)
