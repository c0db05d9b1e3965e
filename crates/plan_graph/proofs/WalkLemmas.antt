-- The steps of a walk. Lemmas for src/walk.rt and src/cycle.rt.
use Rattle.std.proofs.Common.{◌≡◌, ◌≢◌, ℕ, zero, suc, ◌+◌, ◌-◌, ◌*◌, ◌<◌, ◌≤◌, max, List, [], ◌∷◌, ◌++◌, length, refl, sym, ◌∙◌, ap, subst, arith, get_or, set, Some, ◌⊎◌, inl, inr, length-append, length-set, get_or-set_same, get_or-set_other, take, drop, drop-cons, map}
use Rattle.std.specs.Prelude.{◌==◌, All, replicate, slice_get, slice_index, Contains}
use Rattle.std.specs.List.Sorted.{IsPermutation}
use Rattle.std.proofs.Math.Nat.{eq-or-lt_of_le}
use Rattle.std.proofs.lemmas.Bool.{cases_lt}
use Rattle.std.proofs.lemmas.Bool.Decides.{Decides-eqb, eqb_tells, same_from_decides}
use Rattle.std.proofs.lemmas.List.Sorted.{IsPermutation-append_comm}
use Rattle.std.proofs.lemmas.Map.Keys.{IsDistinct-IsPermutation}
use Rattle.std.proofs.lemmas.Map.Made.{AllPairs-from_IsDistinct, IsDistinct-from_AllPairs}
use Rattle.std.proofs.lemmas.Option.{slice_get_within, get_or_from_slice_get, slice_get-get_or}
use Rattle.std.proofs.lemmas.List.Folds.{sum_by-replicate}
use Rattle.std.proofs.lemmas.List.{get_or_append_left, get_or-append-add, append_assoc, append-nil, ext_get_or, get_or-drop, get_or-map, get_or-replicate, get_or_default, get_or_past, length-drop, length-map, length-replicate, take-append-drop}
use Rattle.std.proofs.lemmas.List.Elements.{All-contains, Contains-append_left, Contains-append_right, Contains-get_or, Contains-push_cases}
use Rattle.std.proofs.lemmas.List.Sums.{sum_by-set}
use Rattle.plan_graph.specs.declared.walk.Mark.{Mark}
use Rattle.plan_graph.specs.declared.walk.Mark.TheVariants.{New, Open, Done}
use Rattle.plan_graph.specs.Cycles.{WaitsFor, Chain, IsCycle, IsLeastFirst, IsSimple, rank_over}
use Rattle.plan_graph.specs.Walking.{AllDone, DoneTo, IsWalk, KeepsMarks, is_pending, left, left_of, pending}
use Rattle.plan_graph.proofs.MemberLemmas.{In, append_left, append_right, contained, in_append, in_list}

-- === Marks, ranks and paths after a change ===

get_same : {X : Type 0} (xs : List X) (i : ℕ) (y : X) → i < length xs → slice_get (set xs i y) i ≡ Some y
get_same [] i y h = absurd (omega (arith, h))
get_same (x ∷ xs) zero y h = refl
get_same (x ∷ xs) (suc i) y h = get_same xs i y (omega (arith, h))

get_other : {X : Type 0} (xs : List X) (i j : ℕ) (y : X) → j ≢ i → slice_get (set xs i y) j ≡ slice_get xs j
get_other [] i j y h = refl
get_other (x ∷ xs) zero zero y h = absurd (h refl)
get_other (x ∷ xs) zero (suc j) y h = refl
get_other (x ∷ xs) (suc i) zero y h = refl
get_other (x ∷ xs) (suc i) (suc j) y h = get_other xs i j y (λ e. h (ap suc e))

-- the value that is read after a write
get_cases : {X : Type 0} (xs : List X) (i j : ℕ) (y x : X) → slice_get (set xs i y) j ≡ Some x → ((j ≡ i) × (y ≡ x)) ⊎ ((j ≢ i) × (slice_get xs j ≡ Some x))
get_cases [] i j y x h = cc
get_cases (a ∷ xs) zero zero y x h = inl (refl, cc)
get_cases (a ∷ xs) zero (suc j) y x h = inr (λ e. omega (arith, e), h)
get_cases (a ∷ xs) (suc i) zero y x h = inr (λ e. omega (arith, e), h)
get_cases (a ∷ xs) (suc i) (suc j) y x h = elim (get_cases xs i j y x h) [ inl e ↦ inl (ap suc e.0, e.1) | inr e ↦ inr (λ f. e.0 (omega (arith, f)), e.1) ]

-- an edge that is done stays done
done_kept : (marks : List Mark) (i : ℕ) (y : Mark) (ws : List ℕ) → slice_get marks i ≢ Some Done → AllDone marks ws → AllDone (set marks i y) ws
done_kept marks i y [] n h = tt
done_kept marks i y (w ∷ ws) n h = (get_other marks i w y (λ e. n (ap (slice_get marks) (sym e) ∙ h.0)) ∙ h.0, done_kept marks i y ws n h.1)

rank_kept : (marks : List Mark) (ranks : List ℕ) (i r : ℕ) (ws : List ℕ) → slice_get marks i ≢ Some Done → AllDone marks ws → rank_over (set ranks i r) ws ≡ rank_over ranks ws
rank_kept marks ranks i r [] n h = refl
rank_kept marks ranks i r (w ∷ ws) n h =
    let other : w ≢ i = λ e. n (ap (slice_get marks) (sym e) ∙ h.0) in
    ap (λ v. max (v + 1) (rank_over (set ranks i r) ws)) (get_or-set_other ranks i w r 0 other) ∙ ap (λ v. max (slice_index ranks w + 1) v) (rank_kept marks ranks i r ws n h.1)

-- the last item of a list, and those before it
at_end : (path : List ℕ) (x : ℕ) → slice_index (path ++ x ∷ []) (length path) ≡ x
at_end path x = let h : get_or (path ++ x ∷ []) (length path + 0) 0 ≡ x = get_or-append-add path (x ∷ []) 0 0 in subst (λ n. get_or (path ++ x ∷ []) n 0 ≡ x) (omega arith) h

before_end : (path : List ℕ) (x i : ℕ) → i < length path → slice_index (path ++ x ∷ []) i ≡ slice_index path i
before_end path x i h = get_or_append_left path (x ∷ []) 0 i h

-- the length of a path with one more edge
pub length_end : (path : List ℕ) (x : ℕ) → length (path ++ x ∷ []) ≡ length path + 1
length_end path x = length-append path (x ∷ [])

end_cases : (path : List ℕ) (x i : ℕ) → i < length (path ++ x ∷ []) → (i < length path) ⊎ (i ≡ length path)
end_cases path x i h = let l : length (path ++ x ∷ []) ≡ length path + 1 = length_end path x in
    let le : i ≤ length path = omega (arith, l, h) in
    elim (eq-or-lt_of_le le) [ inl e ↦ inr e | inr lt ↦ inl lt ]

-- === Chains ===

-- chains that are cut, continued, and joined
chain_front : (waits : List (List ℕ)) (xs ys : List ℕ) → Chain waits (xs ++ ys) → Chain waits xs
chain_front waits [] ys h = tt
chain_front waits (x ∷ []) ys h = tt
chain_front waits (x ∷ y ∷ xs) ys h = (h.0, chain_front waits (y ∷ xs) ys h.1)

chain_back : (waits : List (List ℕ)) (xs ys : List ℕ) → Chain waits (xs ++ ys) → Chain waits ys
chain_back waits [] ys h = h
chain_back waits (x ∷ []) [] h = tt
chain_back waits (x ∷ []) (y ∷ ys) h = h.1
chain_back waits (x ∷ z ∷ xs) ys h = chain_back waits (z ∷ xs) ys h.1

-- a chain with one more edge, for which its last edge waits
pub chain_push : (waits : List (List ℕ)) (front : List ℕ) (top next : ℕ) → Chain waits (front ++ top ∷ []) → WaitsFor waits top next → Chain waits ((front ++ top ∷ []) ++ next ∷ [])
chain_push waits [] top next h w = (w, tt)
chain_push waits (x ∷ []) top next h w = (h.0, (w, tt))
chain_push waits (x ∷ y ∷ front) top next h w = (h.0, chain_push waits (y ∷ front) top next h.1 w)

chain_join : (waits : List (List ℕ)) (xs : List ℕ) (y : ℕ) (ys : List ℕ) → Chain waits (xs ++ y ∷ []) → Chain waits (y ∷ ys) → Chain waits (xs ++ y ∷ ys)
chain_join waits [] y ys h g = g
chain_join waits (x ∷ []) y ys h g = (h.0, g)
chain_join waits (x ∷ z ∷ xs) y ys h g = (h.0, chain_join waits (z ∷ xs) y ys h.1 g)

-- === The remaining steps ===

-- edges that are done stay done after a change
done_to_kept : (marks : List Mark) (i : ℕ) (y : Mark) (row : List ℕ) (n : ℕ) → slice_get marks i ≢ Some Done → DoneTo marks row n → DoneTo (set marks i y) row n
done_to_kept marks i y row n not_done h k lt = get_other marks i (slice_index row k) y (λ e. not_done (ap (slice_get marks) (sym e) ∙ h k lt)) ∙ h k lt

-- a mark that is not new keeps the other edges new
pub marks_kept : (marks : List Mark) (i : ℕ) (y : Mark) → y ≢ New → KeepsMarks marks (set marks i y)
marks_kept marks i y old e h = elim (get_cases marks i e y New h) [ inl c ↦ absurd (old c.1) | inr c ↦ c.1 ]

-- an edge on the path isn't new
not_new : (waits : List (List ℕ)) (marks : List Mark) (passed ranks path : List ℕ) (next : ℕ) → IsWalk waits marks passed ranks path → slice_get marks next ≡ Some New → (i : ℕ) → i < length path → slice_index path i ≢ next
not_new waits marks passed ranks path next w fresh i lt same = let e : slice_get marks next ≡ Some Open = subst (λ v. slice_get marks v ≡ Some Open) same (w.on_path i lt) in cc

-- opening an edge leaves fewer steps
pub left_open : (marks : List Mark) (i : ℕ) → i < length marks → slice_get marks i ≡ Some New → left (set marks i Open) < left marks
left_open marks i h e =
    let s : left (set marks i Open) + left_of (get_or marks i New) ≡ left marks + 1 = sum_by-set left_of marks i Open New h in
    let g : get_or marks i New ≡ New = get_or_from_slice_get marks i New New e in
    let k : left_of (get_or marks i New) ≡ 2 = ap left_of g in
    omega (arith, s, k)

-- closing an edge leaves fewer steps
pub left_done : (marks : List Mark) (i : ℕ) → i < length marks → slice_get marks i ≡ Some Open → left (set marks i Done) < left marks
left_done marks i h e =
    let s : left (set marks i Done) + left_of (get_or marks i New) ≡ left marks + 0 = sum_by-set left_of marks i Done New h in
    let k : left_of (get_or marks i New) ≡ 1 = ap left_of (get_or_from_slice_get marks i Open New e) in
    omega (arith, s, k)

pending_open : (marks : List Mark) (i : ℕ) → i < length marks → slice_get marks i ≡ Some New → pending (set marks i Open) ≡ pending marks
pending_open marks i h e =
    let s : pending (set marks i Open) + is_pending (get_or marks i New) ≡ pending marks + 1 = sum_by-set is_pending marks i Open New h in
    let k : is_pending (get_or marks i New) ≡ 1 = ap is_pending (get_or_from_slice_get marks i New New e) in
    omega (arith, s, k)

pending_done : (marks : List Mark) (i : ℕ) → i < length marks → slice_get marks i ≡ Some Open → pending (set marks i Done) + 1 ≡ pending marks
pending_done marks i h e =
    let s : pending (set marks i Done) + is_pending (get_or marks i New) ≡ pending marks + 0 = sum_by-set is_pending marks i Done New h in
    let k : is_pending (get_or marks i New) ≡ 1 = ap is_pending (get_or_from_slice_get marks i Open New e) in
    omega (arith, s, k)

-- === An edge that is opened or closed ===

-- the invariant of a walk holds after an edge is opened
pub opens : (waits : List (List ℕ)) (marks : List Mark) (passed ranks path : List ℕ) (next : ℕ) → IsWalk waits marks passed ranks path → slice_get marks next ≡ Some New
    → Chain waits (path ++ next ∷ []) → IsWalk waits (set marks next Open) passed ranks (path ++ next ∷ [])
opens waits marks passed ranks path next w fresh waited =
    let fresh_not : slice_get marks next ≢ Some Done = λ e. cc in
    let range : next < length marks = slice_get_within marks next New fresh in
    let alike : pending (set marks next Open) ≡ pending marks = pending_open marks next range fresh in
    let same : length (set marks next Open) ≡ length marks = length-set marks next Open in
    record {
      marked = same ∙ w.marked;
      ranked = w.ranked;
      counted = w.counted;
      finished = λ e d. elim (get_cases marks next e Open Done d) [
        | inl c ↦ absurd (cc)
        | inr c ↦ (done_kept marks next Open (get_or waits e []) fresh_not (w.finished e c.1).0, (w.finished e c.1).1)
      ];
      opened = λ e o. elim (get_cases marks next e Open Open o) [
        | inl c ↦ Contains-append_right path (next ∷ []) e (subst (λ x. Contains (next ∷ []) x) (sym c.0) (0, omega arith, refl))
        | inr c ↦ Contains-append_left path (next ∷ []) e (w.opened e c.1)
      ];
      on_path = λ i h. elim (end_cases path next i h) [
        | inl lt ↦ subst (λ v. slice_get (set marks next Open) v ≡ Some Open) (sym (before_end path next i lt))
            (get_other marks next (slice_index path i) Open (not_new waits marks passed ranks path next w fresh i lt) ∙ w.on_path i lt)
        | inr e ↦ subst (λ v. slice_get (set marks next Open) v ≡ Some Open) (sym (ap (λ j. slice_index (path ++ next ∷ []) j) e ∙ at_end path next)) (get_same marks next Open range)
      ];
      apart = λ i j h g alike. elim (end_cases path next j g) [
        | inl lt ↦ w.apart i j h lt (sym (before_end path next i (omega (arith, h, lt))) ∙ (alike ∙ before_end path next j lt))
        | inr e ↦ let lt : i < length path = omega (arith, h, e) in
            not_new waits marks passed ranks path next w fresh i lt (sym (before_end path next i lt) ∙ (alike ∙ (ap (λ k. slice_index (path ++ next ∷ []) k) e ∙ at_end path next)))
      ];
      chain = waited;
      within = w.within;
      behind = λ e. done_to_kept marks next Open (get_or waits e []) (slice_index passed e) fresh_not (w.behind e);
      low = λ e d. elim (get_cases marks next e Open Done d) [
        | inl c ↦ absurd (cc)
        | inr c ↦ let low : slice_index ranks e + pending marks < length marks = w.low e c.1 in omega (arith, low, alike, same)
      ];
      most = let most : pending marks ≤ length marks = w.most in omega (arith, most, alike, same);
    }

-- the row of the edge that was just closed
closed_row : (waits : List (List ℕ)) (marks : List Mark) (ranks : List ℕ) (top r e : ℕ) → e ≡ top → length ranks ≡ length waits → length marks ≡ length waits → top < length marks
    → slice_get marks top ≢ Some Done → AllDone marks (get_or waits top []) → r ≡ rank_over ranks (get_or waits top [])
    → AllDone (set marks top Done) (get_or waits e []) × (slice_index (set ranks top r) e ≡ rank_over (set ranks top r) (get_or waits e []))
closed_row waits marks ranks top r e same ranked marked range not_done alldone rank =
    let within : top < length ranks = omega (arith, ranked, marked, range) in
    subst (λ x. AllDone (set marks top Done) (get_or waits x []) × (slice_index (set ranks top r) x ≡ rank_over (set ranks top r) (get_or waits x []))) (sym same) (
      done_kept marks top Done (get_or waits top []) not_done alldone,
      get_or-set_same ranks top r 0 within ∙ (rank ∙ sym (rank_kept marks ranks top r (get_or waits top []) not_done alldone)),
    )

-- a rank over low ranks
rank_low : (marks : List Mark) (ranks row : List ℕ) (bound : ℕ) → ((e : ℕ) → slice_get marks e ≡ Some Done → slice_index ranks e + 1 ≤ bound) → AllDone marks row → rank_over ranks row ≤ bound
rank_low marks ranks [] bound low h = omega arith
rank_low marks ranks (w ∷ ws) bound low h =
    let first : slice_index ranks w + 1 ≤ bound = low w h.0 in
    let rest : rank_over ranks ws ≤ bound = rank_low marks ranks ws bound low h.1 in
    omega (arith, first, rest)

-- the invariant of a walk holds after an edge is closed
pub closes : (waits : List (List ℕ)) (marks : List Mark) (passed ranks path front : List ℕ) (top r : ℕ) → IsWalk waits marks passed ranks path → path ≡ front ++ top ∷ []
    → AllDone marks (get_or waits top []) → r ≡ rank_over ranks (get_or waits top []) → IsWalk waits (set marks top Done) passed (set ranks top r) front
closes waits marks passed ranks path front top r w p alldone rank =
    let long : length path ≡ length front + 1 = ap length p ∙ length_end front top in
    let top_last : slice_index path (length front) ≡ top = ap (λ q. slice_index q (length front)) p ∙ at_end front top in
    let top_open : slice_get marks top ≡ Some Open = subst (λ v. slice_get marks v ≡ Some Open) top_last (w.on_path (length front) (omega (arith, long))) in
    let range : top < length marks = slice_get_within marks top Open top_open in
    let not_done : slice_get marks top ≢ Some Done = λ e. cc in
    let front_is : (i : ℕ) → i < length front → slice_index front i ≡ slice_index path i = λ i h. sym (before_end front top i h) ∙ ap (λ q. slice_index q i) (sym p) in
    let not_top : (i : ℕ) → i < length front → slice_index front i ≢ top = λ i h e. w.apart i (length front) h (omega (arith, long)) (sym (front_is i h) ∙ (e ∙ sym top_last)) in
    let less : pending (set marks top Done) + 1 ≡ pending marks = pending_done marks top range top_open in
    let same : length (set marks top Done) ≡ length marks = length-set marks top Done in
    let raised : (e : ℕ) → slice_get marks e ≡ Some Done → slice_index ranks e + 1 ≤ length marks - pending marks
    = λ e d. let low : slice_index ranks e + pending marks < length marks = w.low e d in omega (arith, low) in
    let top_low : rank_over ranks (get_or waits top []) ≤ length marks - pending marks = rank_low marks ranks (get_or waits top []) (length marks - pending marks) raised alldone in
    let most : pending marks ≤ length marks = w.most in
    record {
      marked = same ∙ w.marked;
      ranked = length-set ranks top r ∙ w.ranked;
      counted = w.counted;
      finished = λ e d. elim (get_cases marks top e Done Done d) [
        | inl c ↦ closed_row waits marks ranks top r e c.0 w.ranked w.marked range not_done alldone rank
        | inr c ↦ (
          done_kept marks top Done (get_or waits e []) not_done (w.finished e c.1).0,
          get_or-set_other ranks top e r 0 c.0 ∙ ((w.finished e c.1).1 ∙ sym (rank_kept marks ranks top r (get_or waits e []) not_done (w.finished e c.1).0)),
        )
      ];
      opened = λ e o. elim (get_cases marks top e Done Open o) [
        | inl c ↦ absurd (cc)
        | inr c ↦ elim (Contains-push_cases front top e (subst (λ q. Contains q e) p (w.opened e c.1))) [ inl h ↦ h | inr h ↦ absurd (c.0 (sym h)) ]
      ];
      on_path = λ i h. get_other marks top (slice_index front i) Done (not_top i h) ∙ (subst (λ v. slice_get marks v ≡ Some Open) (sym (front_is i h)) (w.on_path i (omega (arith, h, long))));
      apart = λ i j h g alike. w.apart i j h (omega (arith, g, long)) (sym (front_is i (omega (arith, h, g))) ∙ (alike ∙ front_is j g));
      chain = chain_front waits front (top ∷ []) (subst (Chain waits) p w.chain);
      within = w.within;
      behind = λ e. done_to_kept marks top Done (get_or waits e []) (slice_index passed e) not_done (w.behind e);
      low = λ e d. elim (get_cases marks top e Done Done d) [
        | inl c ↦ let here : slice_index (set ranks top r) e ≡ rank_over ranks (get_or waits top []) = ap (slice_index (set ranks top r)) c.0 ∙ (get_or-set_same ranks top r 0 (omega (arith, w.ranked, w.marked, range)) ∙ rank) in
            omega (arith, here, top_low, less, most, same)
        | inr c ↦ let there : slice_index (set ranks top r) e ≡ slice_index ranks e = get_or-set_other ranks top e r 0 c.0 in
            let low : slice_index ranks e + pending marks < length marks = w.low e c.1 in omega (arith, there, low, less, same)
      ];
      most = omega (arith, most, less, same);
    }

-- the last edge of the path is open
pub top_open : (waits : List (List ℕ)) (marks : List Mark) (passed ranks path front : List ℕ) (top : ℕ) → IsWalk waits marks passed ranks path → path ≡ front ++ top ∷ [] → slice_get marks top ≡ Some Open
top_open waits marks passed ranks path front top w p =
    let long : length path ≡ length front + 1 = ap length p ∙ length_end front top in
    subst (λ v. slice_get marks v ≡ Some Open) (ap (λ q. slice_index q (length front)) p ∙ at_end front top) (w.on_path (length front) (omega (arith, long)))

-- a list with one more item, without that item
pub take_end : (front : List ℕ) (x : ℕ) → take (length front) (front ++ x ∷ []) ≡ front
take_end [] x = refl
take_end (y ∷ front) x = ap (λ ys. y ∷ ys) (take_end front x)

-- === The cycle that a path closes ===

-- the cycle that a path closes, from an index on
cycle_at : (waits : List (List ℕ)) (xs : List ℕ) (y : ℕ) (ys : List ℕ) → Chain waits ((xs ++ y ∷ ys) ++ y ∷ []) → IsCycle waits (y ∷ ys)
cycle_at waits xs y ys h = chain_back waits xs (y ∷ (ys ++ y ∷ [])) (subst (Chain waits) (append_assoc xs (y ∷ ys) (y ∷ [])) h)

-- a cycle, from another of its edges on
cycle_turned : (waits : List (List ℕ)) (xs : List ℕ) (y : ℕ) (ys : List ℕ) → IsCycle waits (xs ++ y ∷ ys) → IsCycle waits (y ∷ (ys ++ xs))
cycle_turned waits [] y ys h = subst (λ zs. Chain waits (y ∷ (zs ++ y ∷ []))) (sym (append-nil ys)) h
cycle_turned waits (x ∷ xs) y ys h =
    let whole : Chain waits ((x ∷ xs) ++ (y ∷ (ys ++ x ∷ []))) = subst (Chain waits) (ap (λ (zs : List ℕ). x ∷ zs) (append_assoc xs (y ∷ ys) (x ∷ []))) h in
    let back : Chain waits (y ∷ (ys ++ x ∷ [])) = chain_back waits (x ∷ xs) (y ∷ (ys ++ x ∷ [])) whole in
    let front : Chain waits (x ∷ (xs ++ y ∷ [])) = chain_front waits ((x ∷ xs) ++ y ∷ []) (ys ++ x ∷ []) (subst (Chain waits) (sym (append_assoc (x ∷ xs) (y ∷ []) (ys ++ x ∷ []))) whole) in
    let joined : Chain waits ((y ∷ ys) ++ (x ∷ (xs ++ y ∷ []))) = chain_join waits (y ∷ ys) x (xs ++ y ∷ []) back front in
    subst (Chain waits) (ap (λ (zs : List ℕ). y ∷ zs) (sym (append_assoc ys (x ∷ xs) (y ∷ [])))) joined

-- === Marks ===

other_mark : (m : Mark) → m ≢ New → m ≢ Done → m ≡ Open
other_mark New a b = absurd (a refl)
other_mark Open a b = refl
other_mark Done a b = absurd (b refl)

-- an edge that is neither new nor done is open
pub is_open : (marks : List Mark) (next : ℕ) → next < length marks → get_or marks next New ≢ New → slice_get marks next ≢ Some Done → slice_get marks next ≡ Some Open
is_open marks next lt new done =
    let g : slice_get marks next ≡ Some (get_or marks next New) = slice_get-get_or marks next New lt in
    g ∙ ap (λ x. Some x) (other_mark (get_or marks next New) new (λ d. done (g ∙ ap (λ x. Some x) d)))

-- the marks differ
pub open_not_new : Open ≢ New
open_not_new e = cc

-- the marks differ
pub done_not_new : Done ≢ New
done_not_new e = cc

-- one of some edges that are done
pub done_of : (marks : List Mark) (row : List ℕ) (k d : ℕ) → k < length row → AllDone marks row → slice_get marks (get_or row k d) ≡ Some Done
done_of marks [] k d h a = absurd (omega (arith, h))
done_of marks (w ∷ ws) zero d h a = a.0
done_of marks (w ∷ ws) (suc k) d h a = done_of marks ws k d (omega (arith, h)) a.1

-- all of some edges are done if their number of done edges is that of all
pub all_done : (marks : List Mark) (row : List ℕ) → DoneTo marks row (length row) → AllDone marks row
all_done marks [] h = tt
all_done marks (w ∷ ws) h = (h 0 (omega arith), all_done marks ws (λ i lt. h (suc i) (omega (arith, lt))))

-- an edge that is opened is not new
pub opened_not_new : (marks : List Mark) (i : ℕ) → i < length marks → slice_get (set marks i Open) i ≢ Some New
opened_not_new marks i h e = let here : slice_get (set marks i Open) i ≡ Some Open = get_same marks i Open h in cc

-- === A cycle from its least edge on ===

-- each of two parts of a list is within it
part_in : (waits : List (List ℕ)) (cycle : List ℕ) (at : ℕ) (y : ℕ) (ys : List ℕ) (x : ℕ) → drop at cycle ≡ y ∷ ys → In x (ys ++ take at cycle) → In x cycle
part_in waits cycle at y ys x e h =
    subst (In x) (take-append-drop at cycle) (elim (in_append ys (take at cycle) x h) [
      | inl i ↦ append_right (take at cycle) (drop at cycle) x (subst (In x) (sym e) (inr i))
      | inr i ↦ append_left (take at cycle) (drop at cycle) x i
    ])

least_first : (waits : List (List ℕ)) (cycle : List ℕ) (at : ℕ) (ys : List ℕ) → drop at cycle ≡ slice_index cycle at ∷ ys → All (λ n. slice_index cycle at ≤ n) cycle
    → IsLeastFirst (slice_index cycle at ∷ (ys ++ take at cycle))
least_first waits cycle at ys e least k d h =
    let x = get_or (ys ++ take at cycle) k d in
    let i : In x (ys ++ take at cycle) = in_list (ys ++ take at cycle) x (Contains-get_or (ys ++ take at cycle) k d h) in
    All-contains (λ n. slice_index cycle at ≤ n) cycle x least (contained cycle x (part_in waits cycle at (slice_index cycle at) ys x e i))

-- if no edge is repeated on a path, none is repeated in the rest of it, or after a rotation
pub simple_back : (path : List ℕ) (place : ℕ) → IsSimple path → IsSimple (drop place path)
simple_back path place simple i j d h g same =
    let long : length (drop place path) ≡ length path - place = length-drop place path in
    simple (place + i) (place + j) d (omega (arith, h)) (omega (arith, g, long)) (sym (get_or-drop place path i d) ∙ (same ∙ get_or-drop place path j d))

same_flips : (x y : ℕ) → (x == y) ≡ (y == x)
same_flips x y = same_from_decides (x == y) (y == x) (Decides-eqb x y) (λ e. sym ((Decides-eqb y x).0 e), λ e. (Decides-eqb y x).1 (sym e))

simple_turned : (cycle : List ℕ) (at : ℕ) → IsSimple cycle → IsSimple (drop at cycle ++ take at cycle)
simple_turned cycle at simple =
    let moved = subst (λ (xs : List ℕ). IsPermutation xs (drop at cycle ++ take at cycle)) (take-append-drop at cycle) (IsPermutation-append_comm (take at cycle) (drop at cycle)) in
    AllPairs-from_IsDistinct Decides-eqb (drop at cycle ++ take at cycle)
    (IsDistinct-IsPermutation (λ x y. x == y) same_flips cycle (drop at cycle ++ take at cycle) moved (IsDistinct-from_AllPairs Decides-eqb cycle simple))

-- a cycle, from its least edge on
pub cycle_told : (waits : List (List ℕ)) (cycle : List ℕ) (at : ℕ) (es : List ℕ) → IsCycle waits cycle → at < length cycle → All (λ n. slice_index cycle at ≤ n) cycle
    → IsSimple cycle → es ≡ drop at cycle ++ take at cycle → IsCycle waits es × IsSimple es × IsLeastFirst es
cycle_told waits cycle at es is h least simple e =
    let y = slice_index cycle at in
    let ys = drop (suc at) cycle in
    let split : drop at cycle ≡ y ∷ ys = drop-cons cycle at 0 h in
    let whole : take at cycle ++ (y ∷ ys) ≡ cycle = ap (λ (zs : List ℕ). take at cycle ++ zs) (sym split) ∙ take-append-drop at cycle in
    let turned : es ≡ y ∷ (ys ++ take at cycle) = e ∙ ap (λ (zs : List ℕ). zs ++ take at cycle) split in (
      subst (IsCycle waits) (sym turned) (cycle_turned waits (take at cycle) y ys (subst (IsCycle waits) (sym whole) is)),
      subst IsSimple (sym e) (simple_turned cycle at simple),
      subst IsLeastFirst (sym turned) (least_first waits cycle at ys split least),
    )

-- the cycle that a path closes if an edge on it is waited for
pub cycle_closed : (waits : List (List ℕ)) (path : List ℕ) (edge place : ℕ) → place < length path → slice_index path place ≡ edge → Chain waits (path ++ edge ∷ []) → IsCycle waits (drop place path)
cycle_closed waits path edge place h here chain =
    let rest = drop (suc place) path in
    let split : drop place path ≡ edge ∷ rest = drop-cons path place 0 h ∙ ap (λ (x : ℕ). x ∷ rest) here in
    let whole : path ≡ take place path ++ (edge ∷ rest) = sym (ap (λ (zs : List ℕ). take place path ++ zs) (sym split) ∙ take-append-drop place path) in
    subst (IsCycle waits) (sym split) (cycle_at waits (take place path) edge rest (subst (λ (zs : List ℕ). Chain waits (zs ++ edge ∷ [])) whole chain))

-- === Passed waits; the beginning and the end of a walk ===

-- the waits of an edge that are done were passed
pub passes : (waits : List (List ℕ)) (marks : List Mark) (passed ranks path : List ℕ) (e n : ℕ) → IsWalk waits marks passed ranks path → e < length waits → n ≤ length (get_or waits e []) → DoneTo marks (get_or waits e []) n
    → IsWalk waits marks (set passed e n) ranks path
passes waits marks passed ranks path e n w here within done =
    let same : slice_index (set passed e n) e ≡ n = get_or-set_same passed e n 0 (omega (arith, here, w.counted)) in
    record {
      marked = w.marked;
      ranked = w.ranked;
      counted = length-set passed e n ∙ w.counted;
      finished = w.finished;
      opened = w.opened;
      on_path = w.on_path;
      apart = w.apart;
      chain = w.chain;
      within = λ k. elim (eqb_tells k e) [
        | inl y ↦ subst (λ x. slice_index (set passed e n) x ≤ length (get_or waits x [])) (sym y.1) (omega (arith, same, within))
        | inr y ↦ let other : slice_index (set passed e n) k ≡ slice_index passed k = get_or-set_other passed e k n 0 y.1 in let low = w.within k in omega (arith, other, low)
      ];
      behind = λ k. elim (eqb_tells k e) [
        | inl y ↦ subst (λ x. DoneTo marks (get_or waits x []) (slice_index (set passed e n) x)) (sym y.1) (subst (DoneTo marks (get_or waits e [])) (sym same) done)
        | inr y ↦ subst (DoneTo marks (get_or waits k [])) (sym (get_or-set_other passed e k n 0 y.1)) (w.behind k)
      ];
      low = w.low;
      most = w.most;
    }

abbrev zeros : ℕ → List ℕ
zeros n = replicate n 0

zeros_past : (n e : ℕ) → n ≤ e → length (zeros n) ≤ e
zeros_past n e h = let long : length (zeros n) ≡ n = length-replicate {A = ℕ} n 0 in omega (arith, h, long)

zero_at : (n e : ℕ) → slice_index (replicate n 0) e ≡ 0
zero_at n e = elim (cases_lt e n) [
  | inl h ↦ get_or-replicate {A = ℕ} n e 0 0 h
  | inr h ↦ get_or_past {X = ℕ} (zeros n) e 0 (zeros_past n e h)
]

only_new : (n e : ℕ) (m : Mark) → slice_get (replicate n New) e ≡ Some m → m ≡ New
only_new n e m h =
    let within : e < length (replicate n New) = slice_get_within (replicate n New) e m h in
    let long : length (replicate n New) ≡ n = length-replicate n New in
    sym (get_or_from_slice_get (replicate n New) e m New h) ∙ get_or-replicate n e New New (omega (arith, within, long))

-- a walk that has met no edge
pub starts : (waits : List (List ℕ)) → IsWalk waits (replicate (length waits) New) (replicate (length waits) 0) (replicate (length waits) 0) []
starts waits =
    let n = length waits in
    record {
      marked = length-replicate n New;
      ranked = length-replicate n 0;
      counted = length-replicate n 0;
      finished = λ e d. absurd (done_not_new (only_new n e Done d));
      opened = λ e o. absurd (open_not_new (only_new n e Open o));
      on_path = λ i h. absurd (omega (arith, h));
      apart = λ i j h g alike. omega (arith, g);
      chain = tt;
      within = λ e. let zero_here = zero_at n e in omega (arith, zero_here);
      behind = λ e i h. let zero_here = zero_at n e in absurd (omega (arith, h, zero_here));
      low = λ e d. absurd (done_not_new (only_new n e Done d));
      most = let sum : pending (replicate n New) ≡ n * 1 = sum_by-replicate is_pending n New in let long : length (replicate n New) ≡ n = length-replicate n New in omega (arith, sum, long);
    }

last_mark : (m : Mark) → m ≢ New → m ≢ Open → m ≡ Done
last_mark New a b = absurd (a refl)
last_mark Open a b = absurd (b refl)
last_mark Done a b = refl

nothing_open : (e : ℕ) → Contains [] e → ⊥
nothing_open e (k, h, is) = omega (arith, h)

-- the ranks at the end of a walk that has met all edges
pub ranks_are : (waits : List (List ℕ)) (marks : List Mark) (passed ranks : List ℕ) → IsWalk waits marks passed ranks [] → ((e : ℕ) → e < length waits → slice_get marks e ≢ Some New)
    → ranks ≡ map (rank_over ranks) waits
ranks_are waits marks passed ranks w met =
    let long : length ranks ≡ length (map (rank_over ranks) waits) = w.ranked ∙ sym (length-map waits (rank_over ranks)) in
    ext_get_or 0 ranks (map (rank_over ranks) waits) long (λ e h.
    let here : e < length waits = omega (arith, h, w.ranked) in
    let mark : slice_get marks e ≡ Some (get_or marks e New) = slice_get-get_or marks e New (omega (arith, here, w.marked)) in
    let done : get_or marks e New ≡ Done = last_mark (get_or marks e New) (λ n. met e here (mark ∙ ap (λ (m : Mark). Some m) n)) (λ o. nothing_open e (w.opened e (mark ∙ ap (λ (m : Mark). Some m) o))) in
    (w.finished e (mark ∙ ap (λ (m : Mark). Some m) done)).1 ∙ sym (get_or-map (rank_over ranks) waits e [] 0 here))

-- they are less than the number of edges
pub ranks_low : (waits : List (List ℕ)) (marks : List Mark) (passed ranks : List ℕ) → IsWalk waits marks passed ranks [] → ((e : ℕ) → e < length waits → slice_get marks e ≢ Some New)
    → All (λ r. r < length waits) ranks
ranks_low waits marks passed ranks w met e d h =
    let here : e < length waits = omega (arith, h, w.ranked) in
    let mark : slice_get marks e ≡ Some (get_or marks e New) = slice_get-get_or marks e New (omega (arith, here, w.marked)) in
    let done : get_or marks e New ≡ Done = last_mark (get_or marks e New) (λ n. met e here (mark ∙ ap (λ (m : Mark). Some m) n)) (λ o. nothing_open e (w.opened e (mark ∙ ap (λ (m : Mark). Some m) o))) in
    let low : slice_index ranks e + pending marks < length marks = w.low e (mark ∙ ap (λ (m : Mark). Some m) done) in
    let same : get_or ranks e d ≡ slice_index ranks e = get_or_default ranks e d 0 h in
    omega (arith, low, w.marked, same)
