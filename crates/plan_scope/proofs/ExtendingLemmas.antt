-- Edges whose paths are copied with others. Used for src/edge/extending.rt.
use Rattle.std.proofs.Common.{◌≡◌, ℕ, zero, suc, ◌+◌, ◌<◌, ◌≤◌, List, [], ◌∷◌, ◌++◌, length, map, get_or, set, drop, take, refl, ap, sym, subst, ◌∙◌, append-nil, append_assoc, arith, length-append}
use Rattle.std.specs.Prelude.{All, OnErr, Result, Ok, Err}
use Rattle.std.proofs.lemmas.List.{drop_all, drop-append-le, get_or_append_left, length-take-le, take_more}
use Rattle.std.proofs.lemmas.List.Elements.{All-get_or, All-head, All-set, All-tail, All-weaker}
use Rattle.plan_parse.specs.declared.compact.PathLists.{PathLists}
use Rattle.plan_parse.specs.PathLists.{between}
use Rattle.plan_chunks.specs.Joining.{HasMore}
use Rattle.plan_scope.specs.declared.edge.addition.Addition.{Addition}
use Rattle.plan_scope.specs.declared.edge.edge_list.PathPlaces.{PathPlaces}
use Rattle.plan_scope.specs.declared.edge.edge_list.EdgeMarks.{EdgeMarks}
use Rattle.plan_scope.specs.declared.edge.edge_list.EdgeRows.{EdgeRows}
use Rattle.plan_scope.specs.Scopes.{Text}
use Rattle.plan_scope.specs.Edge.{Edge}
use Rattle.plan_scope.specs.EdgePlaces.{ArePlaced, paths_at}
use Rattle.plan_scope.specs.EdgeRows.{AreWithin, BeginsEmpty, IsPlaced, edge_at, edge_with, edges_in}
use Rattle.plan_scope.specs.Extended.{added, changed_at, paths_with}
use Rattle.plan_scope.proofs.PathLemmas.{between_more, list_placed, same_lists}
use Rattle.plan_scope.proofs.EdgeRowLemmas.{more_far, paths_stay, placed_wider}

-- Rows have more than themselves, namely none.
pub more_none : (rows : List Text) → HasMore rows rows
more_none rows = ([], sym (append-nil rows))

longer : (before now : List Text) → HasMore before now → length before ≤ length now
longer before now more =
    let whole = ap length more.1 ∙ length-append before more.0 in
    omega (arith, whole)

-- No row is copied yet.
pub copied_none : (rows : List Text) (start : ℕ) → rows ≡ rows ++ between start start rows
copied_none rows start =
    let none : between start start rows ≡ [] = drop_all start (take start rows) (length_take_most start rows) in
    sym (append-nil rows) ∙ ap (λ (l : List Text). rows ++ l) (sym none)
  where
    length_take_most : (n : ℕ) (l : List Text) → length (take n l) ≤ n
    length_take_most zero l = omega arith
    length_take_most (suc n) [] = omega arith
    length_take_most (suc n) (x ∷ l) = let h = length_take_most n l in omega (arith, h)

-- One more row is copied.
pub copied_more : (first now next : List Text) (start n : ℕ) → start ≤ n → n < length first → now ≡ first ++ between start n first → next ≡ now ++ get_or now n [] ∷ [] → next ≡ first ++ between start (n + 1) first
copied_more first now next start n le lt so_far one =
    let f : length (take n first) ≡ n = length-take-le n first (omega (arith, lt)) in
    let row : get_or now n [] ≡ get_or first n [] = ap (λ (l : List Text). get_or l n []) so_far ∙ get_or_append_left first (between start n first) [] n lt in
    let more : between start (n + 1) first ≡ between start n first ++ get_or first n [] ∷ [] = ap (drop start) (take_more first n [] lt) ∙ drop-append-le start (take n first) (get_or first n [] ∷ []) (omega (arith, f, le)) in
    one
    ∙ ap (λ (l : List Text). l ++ get_or now n [] ∷ []) so_far
    ∙ ap (λ (x : Text). (first ++ between start n first) ++ x ∷ []) row
    ∙ append_assoc first (between start n first) (get_or first n [] ∷ [])
    ∙ ap (λ (l : List Text). first ++ l) (sym more)

-- Rows that were copied, and then others.
pub put_both : (first copied now : List Text) (list more : List Text) → copied ≡ first ++ list → now ≡ copied ++ more → now ≡ first ++ (list ++ more)
put_both first copied now list more c n = n ∙ ap (λ (l : List Text). l ++ more) c ∙ append_assoc first list more

-- The rows after each list of an edge's paths was put.
pub record ArePut (first : List Text) (p : PathPlaces) (a : Addition) (one two three four now : List Text) : Type 0 where
  pub outputs : one ≡ first ++ between p.outputs p.implicit_outputs first
  pub implicit_outputs : two ≡ one ++ (between p.implicit_outputs p.inputs one ++ a.outputs)
  pub inputs : three ≡ two ++ between p.inputs p.implicit_inputs two
  pub implicit_inputs : four ≡ three ++ (between p.implicit_inputs p.order_only_inputs three ++ a.inputs)
  pub order_only_inputs : now ≡ four ++ (between p.order_only_inputs p.end four ++ a.order_only)

-- The numbers of rows after each list.
pub record AreCounts (first one two three four now : List Text) (q : PathPlaces) : Type 0 where
  pub outputs : q.outputs ≡ length first
  pub implicit_outputs : q.implicit_outputs ≡ length one
  pub inputs : q.inputs ≡ length two
  pub implicit_inputs : q.implicit_inputs ≡ length three
  pub order_only_inputs : q.order_only_inputs ≡ length four
  pub end : q.end ≡ length now

-- A list of an edge that is copied from rows to which others were appended.
copied_list : (first now : List Text) (start end : ℕ) (more : List Text) → HasMore first now → end ≤ length first → between start end now ++ more ≡ between start end first ++ more
copied_list first now start end more h le = ap (λ (l : List Text). l ++ more) (ap (between start end) h.1 ∙ between_more start end first h.0 le)

-- The paths of an edge with an addition, after all its lists were put.
pub paths_put : (first one two three four now : List Text) (p q : PathPlaces) (a : Addition) → ArePlaced (length first) p → ArePut first p a one two three four now → AreCounts first one two three four now q
    → (paths_at now q ≡ paths_with a (paths_at first p)) × ArePlaced (length now) q × HasMore first now
paths_put first one two three four now p q a placed put count =
    let po = placed.outputs in
    let pio = placed.implicit_outputs in
    let pi = placed.inputs in
    let pii = placed.implicit_inputs in
    let poo = placed.order_only_inputs in
    let pe = placed.end in
    let list1 : List Text = between p.outputs p.implicit_outputs first in
    let list2 : List Text = between p.implicit_outputs p.inputs one ++ a.outputs in
    let list3 : List Text = between p.inputs p.implicit_inputs two in
    let list4 : List Text = between p.implicit_inputs p.order_only_inputs three ++ a.inputs in
    let list5 : List Text = between p.order_only_inputs p.end four ++ a.order_only in
    let to1 : HasMore first one = (list1, put.outputs) in
    let to2 : HasMore first two = more_far first one two to1 (list2, put.implicit_outputs) in
    let to3 : HasMore first three = more_far first two three to2 (list3, put.inputs) in
    let to4 : HasMore first four = more_far first three four to3 (list4, put.implicit_inputs) in
    let from4 : HasMore four now = (list5, put.order_only_inputs) in
    let from3 : HasMore three now = more_far three four now (list4, put.implicit_inputs) from4 in
    let from2 : HasMore two now = more_far two three now (list3, put.inputs) from3 in
    let from1 : HasMore one now = more_far one two now (list2, put.implicit_outputs) from2 in
    let l1 = longer first one to1 in
    let l2 = longer one two (list2, put.implicit_outputs) in
    let l3 = longer two three (list3, put.inputs) in
    let l4 = longer three four (list4, put.implicit_inputs) in
    let l5 = longer four now from4 in
    let c0 = count.outputs in
    let c1 = count.implicit_outputs in
    let c2 = count.inputs in
    let c3 = count.implicit_inputs in
    let c4 = count.order_only_inputs in
    let c5 = count.end in
    let outputs : between q.outputs q.implicit_outputs now ≡ between p.outputs p.implicit_outputs first =
    list_placed first list1 one from1.0 now q.outputs q.implicit_outputs put.outputs from1.1 c0 c1 in
    let implicit_outputs : between q.implicit_outputs q.inputs now ≡ between p.implicit_outputs p.inputs first ++ a.outputs =
    list_placed one list2 two from2.0 now q.implicit_outputs q.inputs put.implicit_outputs from2.1 c1 c2
    ∙ copied_list first one p.implicit_outputs p.inputs a.outputs to1 (omega (arith, pi, pii, poo, pe)) in
    let inputs : between q.inputs q.implicit_inputs now ≡ between p.inputs p.implicit_inputs first =
    list_placed two list3 three from3.0 now q.inputs q.implicit_inputs put.inputs from3.1 c2 c3
    ∙ (ap (between p.inputs p.implicit_inputs) to2.1 ∙ between_more p.inputs p.implicit_inputs first to2.0 (omega (arith, pii, poo, pe))) in
    let implicit_inputs : between q.implicit_inputs q.order_only_inputs now ≡ between p.implicit_inputs p.order_only_inputs first ++ a.inputs =
    list_placed three list4 four from4.0 now q.implicit_inputs q.order_only_inputs put.implicit_inputs from4.1 c3 c4
    ∙ copied_list first three p.implicit_inputs p.order_only_inputs a.inputs to3 (omega (arith, poo, pe)) in
    let order_only : between q.order_only_inputs q.end now ≡ between p.order_only_inputs p.end first ++ a.order_only =
    list_placed four list5 now [] now q.order_only_inputs q.end put.order_only_inputs (sym (append-nil now)) c4 c5
    ∙ copied_list first four p.order_only_inputs p.end a.order_only to4 pe in (
      same_lists (paths_at now q) (paths_with a (paths_at first p)) outputs implicit_outputs inputs implicit_inputs order_only,
      record { outputs = omega (arith, c0, c1, l1); implicit_outputs = omega (arith, c1, c2, l2); inputs = omega (arith, c2, c3, l3); implicit_inputs = omega (arith, c3, c4, l4); order_only_inputs = omega (arith, c4, c5, l5); end = omega (arith, c5) },
      more_far first four now to4 from4,
    )

-- The marks of an edge with other places of its paths.
abbrev pub placed_at : PathPlaces → EdgeMarks → EdgeMarks
placed_at q m = record { paths = q; command = m.command; description = m.description; depfile = m.depfile; deps = m.deps; pool = m.pool; restat = m.restat; generator = m.generator; phony = m.phony }

edge_kept : (rows more texts : List Text) (count : ℕ) (m : EdgeMarks) → IsPlaced (length rows) count m → edge_at (rows ++ more) texts m ≡ edge_at rows texts m
edge_kept rows more texts count m h = ap (λ (p : PathLists (List Text)). edge_with p texts m) (paths_stay rows more m.paths h.paths)

kept_marks : (rows more texts : List Text) (count : ℕ) (ms : List EdgeMarks) → All (IsPlaced (length rows) count) ms → map (edge_at (rows ++ more) texts) ms ≡ map (edge_at rows texts) ms
kept_marks rows more texts count [] h = refl
kept_marks rows more texts count (m ∷ ms) h =
    let first = edge_kept rows more texts count m (All-head (IsPlaced (length rows) count) m ms h) in
    let rest = kept_marks rows more texts count ms (All-tail (IsPlaced (length rows) count) m ms h) in
    ap (λ (e : Edge). e ∷ map (edge_at (rows ++ more) texts) ms) first ∙ ap (λ (es : List Edge). edge_at rows texts m ∷ es) rest

changed_marks : (rows more texts : List Text) (count : ℕ) (a : Addition) (q : PathPlaces) (d : EdgeMarks) (ms : List EdgeMarks) (n : ℕ) → All (IsPlaced (length rows) count) ms → n < length ms
    → paths_at (rows ++ more) q ≡ paths_with a (paths_at rows (get_or ms n d).paths) → map (edge_at (rows ++ more) texts) (set ms n (placed_at q (get_or ms n d))) ≡ changed_at n (added a) (map (edge_at rows texts) ms)
changed_marks rows more texts count a q d [] n h lt e = absurd (omega arith)
changed_marks rows more texts count a q d (m ∷ ms) zero h lt e =
    let first : edge_at (rows ++ more) texts (placed_at q m) ≡ added a (edge_at rows texts m) = ap (λ (p : PathLists (List Text)). edge_with p texts m) e in
    let rest = kept_marks rows more texts count ms (All-tail (IsPlaced (length rows) count) m ms h) in
    ap (λ (x : Edge). x ∷ map (edge_at (rows ++ more) texts) ms) first ∙ ap (λ (es : List Edge). added a (edge_at rows texts m) ∷ es) rest
changed_marks rows more texts count a q d (m ∷ ms) (suc n) h lt e =
    let first = edge_kept rows more texts count m (All-head (IsPlaced (length rows) count) m ms h) in
    let rest = changed_marks rows more texts count a q d ms n (All-tail (IsPlaced (length rows) count) m ms h) (omega arith) e in
    ap (λ (x : Edge). x ∷ map (edge_at (rows ++ more) texts) (set ms n (placed_at q (get_or ms n d)))) first ∙ ap (λ (es : List Edge). edge_at rows texts m ∷ es) rest

wider : (a b count : ℕ) (m : EdgeMarks) → a ≤ b → IsPlaced a count m → IsPlaced b count m
wider a b count m le h = record { paths = placed_wider a b m.paths le h.paths; command = h.command; description = h.description; depfile = h.depfile; pool = h.pool }

-- Edges to whose rows paths were appended that no edge has.
pub edges_kept : (before now : EdgeRows) → HasMore before.paths.rows now.paths.rows → now.texts ≡ before.texts → now.marks.items ≡ before.marks.items → AreWithin before
    → (edges_in now ≡ edges_in before) × AreWithin now
edges_kept before now more texts marks within =
    let rows : List Text = before.paths.rows in
    let le = longer rows now.paths.rows more in
    let all = All-weaker (IsPlaced (length rows) (length before.texts)) (IsPlaced (length now.paths.rows) (length before.texts))
    (λ m h. wider (length rows) (length now.paths.rows) (length before.texts) m le h) before.marks.items within.marks in (
      ap (λ (ms : List EdgeMarks). map (edge_at now.paths.rows now.texts) ms) marks
          ∙ ap (λ (ts : List Text). map (edge_at now.paths.rows ts) before.marks.items) texts
          ∙ ap (λ (rs : List Text). map (edge_at rs before.texts) before.marks.items) more.1
          ∙ kept_marks rows more.0 before.texts (length before.texts) before.marks.items within.marks,
      record {
        marks = subst (λ (ms : List EdgeMarks). All (IsPlaced (length now.paths.rows) (length now.texts)) ms) (sym marks) (subst (λ (ts : List Text). All (IsPlaced (length now.paths.rows) (length ts)) before.marks.items) (sym texts) all);
        empty = subst (λ (ts : List Text). BeginsEmpty ts) (sym texts) within.empty;
      },
    )

-- Edges of which the one with these marks has an addition.
pub edges_added : (before now : EdgeRows) (a : Addition) (q : PathPlaces) (m : EdgeMarks) (n : ℕ) → get_or before.marks.items n m ≡ m → n < length before.marks.items → AreWithin before
    → HasMore before.paths.rows now.paths.rows → now.texts ≡ before.texts → now.marks.items ≡ set before.marks.items n (placed_at q m) → ArePlaced (length now.paths.rows) q
    → paths_at now.paths.rows q ≡ paths_with a (paths_at before.paths.rows m.paths) → (edges_in now ≡ changed_at n (added a) (edges_in before)) × AreWithin now
edges_added before now a q m n at lt within more texts marks placed paths =
    let rows : List Text = before.paths.rows in
    let le = longer rows now.paths.rows more in
    let wide = All-weaker (IsPlaced (length rows) (length before.texts)) (IsPlaced (length now.paths.rows) (length before.texts))
    (λ x h. wider (length rows) (length now.paths.rows) (length before.texts) x le h) before.marks.items within.marks in
    let old : IsPlaced (length rows) (length before.texts) m = subst (IsPlaced (length rows) (length before.texts)) at (All-get_or (IsPlaced (length rows) (length before.texts)) before.marks.items n m lt within.marks) in
    let one : IsPlaced (length now.paths.rows) (length before.texts) (placed_at q m) = record { paths = placed; command = old.command; description = old.description; depfile = old.depfile; pool = old.pool } in
    let all = All-set (IsPlaced (length now.paths.rows) (length before.texts)) before.marks.items n (placed_at q m) one wide in
    let there : paths_at (rows ++ more.0) q ≡ paths_with a (paths_at rows (get_or before.marks.items n m).paths) =
    ap (λ (rs : List Text). paths_at rs q) (sym more.1) ∙ paths ∙ ap (λ (x : EdgeMarks). paths_with a (paths_at rows x.paths)) (sym at) in (
      ap (λ (ms : List EdgeMarks). map (edge_at now.paths.rows now.texts) ms) marks
          ∙ ap (λ (ts : List Text). map (edge_at now.paths.rows ts) (set before.marks.items n (placed_at q m))) texts
          ∙ ap (λ (rs : List Text). map (edge_at rs before.texts) (set before.marks.items n (placed_at q m))) more.1
          ∙ ap (λ (x : EdgeMarks). map (edge_at (rows ++ more.0) before.texts) (set before.marks.items n (placed_at q x))) (sym at)
          ∙ changed_marks rows more.0 before.texts (length before.texts) a q m before.marks.items n within.marks lt there,
      record {
        marks = subst (λ (ms : List EdgeMarks). All (IsPlaced (length now.paths.rows) (length now.texts)) ms) (sym marks) (subst (λ (ts : List Text). All (IsPlaced (length now.paths.rows) (length ts)) (set before.marks.items n (placed_at q m))) (sym texts) all);
        empty = subst (λ (ts : List Text). BeginsEmpty ts) (sym texts) within.empty;
      },
    )

-- What holds anyway holds if a call fails.
pub on_err : {T E : Type 0} (r : Result T E) {P : Type 0} → P → OnErr r P
on_err (Ok x) p = tt
on_err (Err e) p = p

-- Nothing is changed at a number without an item.
pub changed_beyond : {X : Type 0} (n : ℕ) (f : X → X) (xs : List X) → length xs ≤ n → changed_at n f xs ≡ xs
changed_beyond n f [] le = refl
changed_beyond zero f (x ∷ xs) le = absurd (omega arith)
changed_beyond {X} (suc n) f (x ∷ xs) le = ap (λ (l : List X). x ∷ l) (changed_beyond n f xs (omega arith))
