-- Edges whose paths and texts are held in rows that all edges share. Used for src/edge/edge_rows.rt and
-- src/edge/build_line.rt.
use Rattle.std.proofs.Common.{◌≡◌, ℕ, ◌<◌, ◌≤◌, List, [], ◌∷◌, ◌++◌, length, map, get_or, refl, ap, sym, subst, ◌∙◌, append_assoc, arith, length-append, Result, Ok, Err}
use Rattle.std.specs.List.{All}
use Rattle.std.proofs.lemmas.List.{get_or_append_left, map-append}
use Rattle.std.proofs.lemmas.List.Elements.{All-append, All-cons, All-head, All-nil, All-tail, All-weaker}
use Rattle.plan_parse.specs.declared.compact.PathLists.{PathLists}
use Rattle.plan_scope.specs.declared.edge.paths.PathTexts.{PathTexts}
use Rattle.plan_scope.specs.declared.edge.variables.Variables.{Variables}
use Rattle.plan_scope.specs.declared.fault.Cause.{Cause}
use Rattle.plan_scope.specs.declared.fault.StatementFault.{StatementFault}
use Rattle.plan_scope.specs.declared.fault.StatementFault.TheVariants.{Refused, Memory}
use Rattle.plan_scope.specs.declared.edge.edge_list.PathPlaces.{PathPlaces}
use Rattle.plan_scope.specs.declared.edge.edge_list.EdgeMarks.{EdgeMarks}
use Rattle.plan_scope.specs.declared.edge.edge_list.EdgeRows.{EdgeRows}
use Rattle.plan_scope.specs.Scopes.{Text}
use Rattle.plan_scope.specs.Edge.{Edge}
use Rattle.plan_scope.specs.Edges.{edge_of, is_present}
use Rattle.plan_scope.specs.EdgePlaces.{ArePlaced, paths_at}
use Rattle.plan_scope.specs.EdgeRows.{AreWithin, BeginsEmpty, IsPlaced, edge_at, edge_with, edges_in}
use Rattle.plan_chunks.specs.Joining.{HasMore}
use Rattle.plan_scope.specs.EdgeAnswers.{AreTexts, GivesEdge, GivesMarks, texts_read}
use Rattle.plan_scope.proofs.PathLemmas.{between_more, same_lists}

-- The paths of an edge stay the same when more paths are appended.
pub paths_stay : (rows more : List Text) (p : PathPlaces) → ArePlaced (length rows) p → paths_at (rows ++ more) p ≡ paths_at rows p
paths_stay rows more p h =
    let io = h.implicit_outputs in
    let i = h.inputs in
    let ii = h.implicit_inputs in
    let oo = h.order_only_inputs in
    let e = h.end in
    same_lists (paths_at (rows ++ more) p) (paths_at rows p)
    (between_more p.outputs p.implicit_outputs rows more (omega (arith, io, i, ii, oo, e)))
    (between_more p.implicit_outputs p.inputs rows more (omega (arith, i, ii, oo, e)))
    (between_more p.inputs p.implicit_inputs rows more (omega (arith, ii, oo, e)))
    (between_more p.implicit_inputs p.order_only_inputs rows more (omega (arith, oo, e)))
    (between_more p.order_only_inputs p.end rows more e)

abbrev made : PathLists (List Text) → Text → Text → Text → Text → EdgeMarks → Edge
made paths command description depfile pool m = record { paths = paths; command = command; description = description; depfile = depfile; deps = m.deps; restat = m.restat; generator = m.generator; phony = m.phony; pool = pool }

same_made : (p q : PathLists (List Text)) (a b c d w x y z : Text) (m : EdgeMarks) → p ≡ q → a ≡ w → b ≡ x → c ≡ y → d ≡ z → made p a b c d m ≡ made q w x y z m
same_made p q a b c d w x y z m e f g h i = cc

-- Its texts stay the same too.
pub edge_stays : (rows more texts others : List Text) (m : EdgeMarks) → IsPlaced (length rows) (length texts) m → edge_at (rows ++ more) (texts ++ others) m ≡ edge_at rows texts m
edge_stays rows more texts others m h =
    same_made _ _ _ _ _ _ _ _ _ _ m (paths_stay rows more m.paths h.paths)
    (get_or_append_left texts others [] m.command h.command)
    (get_or_append_left texts others [] m.description h.description)
    (get_or_append_left texts others [] m.depfile h.depfile)
    (get_or_append_left texts others [] m.pool h.pool)

-- Edges stay the same when more paths and texts are appended.
edges_stay : (rows more texts others : List Text) (ms : List EdgeMarks) → All (IsPlaced (length rows) (length texts)) ms → map (edge_at (rows ++ more) (texts ++ others)) ms ≡ map (edge_at rows texts) ms
edges_stay rows more texts others [] h = refl
edges_stay rows more texts others (m ∷ ms) h =
    let first = edge_stays rows more texts others m (All-head (IsPlaced (length rows) (length texts)) m ms h) in
    let rest = edges_stay rows more texts others ms (All-tail (IsPlaced (length rows) (length texts)) m ms h) in
    ap (λ (e : Edge). e ∷ map (edge_at (rows ++ more) (texts ++ others)) ms) first ∙ ap (λ (es : List Edge). edge_at rows texts m ∷ es) rest

-- Places that are within fewer rows are within more rows.
pub placed_wider : (a b : ℕ) (p : PathPlaces) → a ≤ b → ArePlaced a p → ArePlaced b p
placed_wider a b p w h =
    let e = h.end in
    record { outputs = h.outputs; implicit_outputs = h.implicit_outputs; inputs = h.inputs; implicit_inputs = h.implicit_inputs; order_only_inputs = h.order_only_inputs; end = omega (arith, e, w) }

longer : (before more now : List Text) → now ≡ before ++ more → length before ≤ length now
longer before more now e =
    let whole = ap length e ∙ length-append before more in
    omega (arith, whole)

-- A first text that is empty stays so.
pub begins_still : (before now : List Text) → HasMore before now → BeginsEmpty before → BeginsEmpty now
begins_still before now more b =
    let some = b.some in
    let far = longer before more.0 now more.1 in
    record { some = omega (arith, some, far); none = ap (λ l. get_or l 0 []) more.1 ∙ get_or_append_left before more.0 [] 0 b.some ∙ b.none }

-- A text that was appended stays the same.
pub text_stays : (before now : List Text) (n : ℕ) (text : Text) → HasMore before now → (get_or before n [] ≡ text) × (n < length before) → (get_or now n [] ≡ text) × (n < length now)
text_stays before now n text more h =
    let far = longer before more.0 now more.1 in
    let lt = h.1 in
    (ap (λ l. get_or l n []) more.1 ∙ get_or_append_left before more.0 [] n h.1 ∙ h.0, omega (arith, lt, far))

-- Rows that got more in each of two steps got more in both together.
pub more_far : (before mid now : List Text) → HasMore before mid → HasMore mid now → HasMore before now
more_far before mid now m n = (m.0 ++ n.0, n.1 ∙ ap (λ l. l ++ n.0) m.1 ∙ append_assoc before m.0 n.0)

-- One more edge, whose paths and texts were appended.
pub edge_put : (before now : EdgeRows) (more others : List Text) (m : EdgeMarks) → now.paths.rows ≡ before.paths.rows ++ more → now.texts ≡ before.texts ++ others
    → now.marks.items ≡ before.marks.items ++ m ∷ [] → AreWithin before → ArePlaced (length now.paths.rows) m.paths → AreTexts (length now.texts) m
    → (edges_in now ≡ edges_in before ++ edge_at now.paths.rows now.texts m ∷ []) × AreWithin now
edge_put before now more others m p t n within places texts =
    let rows = before.paths.rows in
    let wide = longer rows more now.paths.rows p in
    let far = longer before.texts others now.texts t in
    let one : IsPlaced (length now.paths.rows) (length now.texts) m = record { paths = places; command = texts.0; description = texts.1; depfile = texts.2; pool = texts.3 } in
    let all = All-append (IsPlaced (length now.paths.rows) (length now.texts)) before.marks.items (m ∷ [])
    (All-weaker (IsPlaced (length rows) (length before.texts)) (IsPlaced (length now.paths.rows) (length now.texts))
    (λ x h.
    let c = h.command in
    let d = h.description in
    let e = h.depfile in
    let f = h.pool in
    record { paths = placed_wider (length rows) (length now.paths.rows) x.paths wide h.paths; command = omega (arith, c, far); description = omega (arith, d, far); depfile = omega (arith, e, far); pool = omega (arith, f, far) }) before.marks.items within.marks)
    (All-cons (IsPlaced (length now.paths.rows) (length now.texts)) m [] one (All-nil (IsPlaced (length now.paths.rows) (length now.texts)))) in
    let stay = ap (λ (r : List Text). map (edge_at r now.texts) before.marks.items) p ∙ ap (λ (r : List Text). map (edge_at (rows ++ more) r) before.marks.items) t ∙ edges_stay rows more before.texts others before.marks.items within.marks in (
      ap (map (edge_at now.paths.rows now.texts)) n ∙ map-append (edge_at now.paths.rows now.texts) before.marks.items (m ∷ []) ∙ ap (λ (es : List Edge). es ++ edge_at now.paths.rows now.texts m ∷ []) stay,
      record { marks = subst (All (IsPlaced (length now.paths.rows) (length now.texts))) (sym n) all; empty = begins_still before.texts now.texts (others, t) within.empty },
    )

-- An edge whose texts were appended.
pub texts_put : (now : List Text) (paths : PathLists (List Text)) (v : Variables) (m : EdgeMarks) → get_or now m.command [] ≡ v.command → get_or now m.description [] ≡ v.description
    → get_or now m.depfile [] ≡ v.depfile → get_or now m.pool [] ≡ v.pool → m.deps ≡ is_present v.deps → m.restat ≡ is_present v.restat → m.generator ≡ is_present v.generator → edge_with paths now m ≡ edge_of paths v m.phony
texts_put now paths v m c d e f k r g = cc

-- A refusal of an edge's texts is one of the edge.
pub marks_refused : (paths : PathLists (List Text)) (places : PathPlaces) (old new : List Text) (before now : EdgeRows) (fault : StatementFault) (held meant : Result Edge Cause) → held ≡ meant
    → GivesMarks paths places old new (Err fault) held → GivesEdge before now (Err fault) meant
marks_refused paths places old new before now (Refused cause) held meant e h = sym e ∙ h
marks_refused paths places old new before now Memory held meant e h = tt {0}

-- An edge whose paths were read and whose texts were appended.
pub edge_given : (before now : EdgeRows) (read : PathTexts) (places : PathPlaces) (m : EdgeMarks) (held meant : Result Edge Cause) → HasMore before.paths.rows now.paths.rows
    → ArePlaced (length now.paths.rows) places → read ≡ texts_read now.paths places → GivesMarks read.paths places before.texts now.texts (Ok m) held → held ≡ meant
    → now.marks.items ≡ before.marks.items ++ m ∷ [] → AreWithin before → GivesEdge before now (Ok (tt {0})) meant
edge_given before now read places m held meant more placed e g s n within =
    let there = subst (ArePlaced (length now.paths.rows)) (sym g.1) placed in
    let put = edge_put before now more.0 g.3.0 m more.1 g.3.1 n within there g.2 in
    let paths : read.paths ≡ paths_at now.paths.rows m.paths = ap (λ (r : PathTexts). r.paths) e ∙ ap (paths_at now.paths.rows) (sym g.1) in (
      edge_at now.paths.rows now.texts m,
      sym s ∙ g.0 ∙ ap (λ (p : PathLists (List Text)). Ok (edge_with p now.texts m)) paths,
      put.0,
      put.1,
    )
