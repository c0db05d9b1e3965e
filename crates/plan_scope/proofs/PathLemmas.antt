-- Blocks and paths whose texts are kept equally. Used for src/edge/paths.rt.
use Rattle.std.proofs.Common.{◌≡◌, ℕ, ◌+◌, ◌<◌, ◌≤◌, Bool, true, false, ◌||◌, List, [], ◌∷◌, ◌++◌, length, map, Ok, Err, refl, ap, sym, ◌∙◌, cond, inl, inr, arith, drop, take, get_or, append_assoc, length-append}
use Rattle.std.specs.List.{list_any}
use Rattle.std.proofs.lemmas.Bool.{lt-ltb, ltb-false, ne_eqb}
use Rattle.std.proofs.lemmas.List.{append-nil, map_more, map_push, map-append, take-append-le}
use Rattle.std.proofs.Math.Seq.{drop-append_seam, take-length}
use Rattle.std.proofs.lemmas.List.Folds.{list_any-append}
use Rattle.plan_parse.specs.declared.compact.PathLists.{PathLists}
use Rattle.plan_parse.specs.PathLists.{all_in, between}
use Rattle.plan_parse.specs.declared.statement.Binding.{Binding}
use Rattle.plan_parse.specs.declared.compact.CompactBinding.{CompactBinding}
use Rattle.plan_parse.specs.Compact.{variable_in}
use Rattle.plan_text.specs.Path.{canonical_of}
use Rattle.plan_text.specs.Pieces.{literal_of}
use Rattle.plan_scope.specs.Scopes.{Text, Name, Bindings, last_of, expand, is_too_long, is_long_path, is_empty}
use Rattle.plan_text.specs.Limits.{max_text, max_path}
use Rattle.plan_scope.specs.declared.fault.Cause.TheVariants.{EmptyPath, PathTooLong}
use Rattle.plan_scope.specs.declared.manifest.DefaultTarget.{DefaultTarget}
use Rattle.plan_scope.specs.Edges.{Paths, canonical_paths, has_long, block_of, near, path_of, canonical_or, first_of, or_refused, target_at, targets_by}
use Rattle.plan_scope.specs.Kept.{kept, KeptEqBindings, KeptEqLookup}
use Rattle.plan_scope.specs.declared.edge.paths.PathRows.{PathRows}
use Rattle.plan_scope.specs.Paths.{ReadsPath, ReadsPaths, kept_in}
use Rattle.plan_scope.proofs.TextLemmas.{Same, same_from_kept, kept_or}

-- Names with equal kept texts in a block and above it have equal kept texts on the build line.
pub kept_near : (block b : Bindings Text) (here m : Name → Text) → KeptEqBindings block b → KeptEqLookup here m → KeptEqLookup (near here block) (near m b)
kept_near block b here m h k n = kept_or (last_of n block) (last_of n b) (here n) (m n) (h n) (k n)

-- One more line of a block, with its kept text.
pub block_read : (here : Name → Text) (text : Text) (all : List CompactBinding) (i : ℕ) (b : CompactBinding) → i < length all → b ≡ get_or all i b
    → block_of here (map (variable_in text) (take (i + 1) all)) ≡ block_of here (map (variable_in text) (take i all)) ++ ((variable_in text b).name, expand here (variable_in text b).value) ∷ []
block_read here text all i b lt e =
    let read : CompactBinding → Binding = variable_in text in
    let entry : Binding → Name × Text = λ x. (x.name, expand here x.value) in
    ap (block_of here) (map_more read all i b lt)
    ∙ map_push entry (map read (take i all)) (read (get_or all i b))
    ∙ ap (λ (x : CompactBinding). block_of here (map read (take i all)) ++ entry (read x) ∷ []) (sym e)

or_false : (t : Bool) → (t || false) ≡ t
or_false true = refl
or_false false = refl

-- Whether a text of a block is too long, with one more line.
pub long_push : (xs : Bindings Text) (x : Name × Text) → list_any (λ b. is_too_long b.1) (xs ++ x ∷ []) ≡ (list_any (λ b. is_too_long b.1) xs || is_too_long x.1)
long_push xs x =
    list_any-append (λ b. is_too_long b.1) xs (x ∷ [])
    ∙ ap (λ (t : Bool). list_any (λ b. is_too_long b.1) xs || t) (or_false (is_too_long x.1))

any_kept : (test : Text → Bool) → ((a b : Text) → kept a ≡ kept b → test a ≡ test b) → (ps qs : List Text) → map kept ps ≡ map kept qs → list_any test ps ≡ list_any test qs
any_kept test h [] [] e = refl
any_kept test h [] (q ∷ qs) e = cc
any_kept test h (p ∷ ps) [] e = cc
any_kept test h (p ∷ ps) (q ∷ qs) e =
    let k : kept p ≡ kept q = cc in
    let l : map kept ps ≡ map kept qs = cc in
    ap (λ t. t || list_any test ps) (h p q k) ∙ ap (λ t. test q || t) (any_kept test h ps qs l)

empty_same : (a b : Text) → Same a b → is_empty a ≡ is_empty b
empty_same a b (inl e) = ap is_empty e
empty_same a b (inr h) = ne_eqb (length a) 0 (λ e. omega arith) ∙ sym (ne_eqb (length b) 0 (λ e. omega arith))

-- Of two texts with equal kept texts, both are empty or neither is.
pub empty_kept : (a b : Text) → kept a ≡ kept b → is_empty a ≡ is_empty b
empty_kept a b e = empty_same a b (same_from_kept a b e)

far_same : (a b : Text) → Same a b → is_long_path a ≡ is_long_path b
far_same a b (inl e) = ap is_long_path e
far_same a b (inr h) = lt-ltb max_path (length a) (omega arith) ∙ sym (lt-ltb max_path (length b) (omega arith))

-- Of two texts with equal kept texts, both are too long for a path or neither is.
pub far_kept : (a b : Text) → kept a ≡ kept b → is_long_path a ≡ is_long_path b
far_kept a b e = far_same a b (same_from_kept a b e)

exact_same : (a b : Text) → Same a b → length a ≤ max_text → a ≡ b
exact_same a b (inl e) l = e
exact_same a b (inr h) l = absurd (omega arith)

-- A text that isn't too long is equal to each text with an equal kept text.
pub exact_kept : (a b : Text) → kept a ≡ kept b → length a ≤ max_text → a ≡ b
exact_kept a b e l = exact_same a b (same_from_kept a b e) l

-- Neither of two tests holds.
pub or_parts : (x y : Bool) → (x || y) ≡ false → (x ≡ false) × (y ≡ false)
or_parts true y e = cc
or_parts false y e = (refl, e)

-- Paths with equal kept texts are equal if none is too long.
exact_paths : (ps qs : List Text) → map kept ps ≡ map kept qs → list_any is_long_path ps ≡ false → ps ≡ qs
exact_paths [] [] e f = refl
exact_paths [] (q ∷ qs) e f = cc
exact_paths (p ∷ ps) [] e f = cc
exact_paths (p ∷ ps) (q ∷ qs) e f =
    let k : kept p ≡ kept q = cc in
    let l : map kept ps ≡ map kept qs = cc in
    let parts = or_parts (is_long_path p) (list_any is_long_path ps) f in
    let short = ltb-false max_path (length p) parts.0 in
    let first : p ≡ q = exact_same p q (same_from_kept p q k) (omega arith) in
    let others : ps ≡ qs = exact_paths ps qs l parts.1 in
    cc

-- A path that is too long stays as it is.
far_stays : (a : Text) → max_text < length a → path_of a ≡ a
far_stays a h = ap (λ (t : Bool). cond t a (canonical_or a (canonical_of a))) (lt-ltb max_path (length a) (omega arith))

path_same : (a b : Text) → kept a ≡ kept b → Same a b → kept (path_of a) ≡ kept (path_of b)
path_same a b e (inl s) = ap (λ t. kept (path_of t)) s
path_same a b e (inr h) = ap kept (far_stays a h.0) ∙ (e ∙ ap kept (sym (far_stays b h.1)))

kept_path : (a b : Text) → kept a ≡ kept b → kept (path_of a) ≡ kept (path_of b)
kept_path a b e = path_same a b e (same_from_kept a b e)

kept_canonical : (ps qs : List Text) → map kept ps ≡ map kept qs → map kept (map path_of ps) ≡ map kept (map path_of qs)
kept_canonical [] [] e = refl
kept_canonical [] (q ∷ qs) e = cc
kept_canonical (p ∷ ps) [] e = cc
kept_canonical (p ∷ ps) (q ∷ qs) e =
    let k : kept p ≡ kept q = cc in
    let l : map kept ps ≡ map kept qs = cc in
    ap (λ o. o ∷ map kept (map path_of ps)) (kept_path p q k) ∙ ap (λ os. kept (path_of q) ∷ os) (kept_canonical ps qs l)

-- The kept texts of each list.
pub record KeptLists (p q : Paths) : Type 0 where
  pub outputs : map kept p.outputs ≡ map kept q.outputs
  pub implicit_outputs : map kept p.implicit_outputs ≡ map kept q.implicit_outputs
  pub inputs : map kept p.inputs ≡ map kept q.inputs
  pub implicit_inputs : map kept p.implicit_inputs ≡ map kept q.implicit_inputs
  pub order_only_inputs : map kept p.order_only_inputs ≡ map kept q.order_only_inputs

-- The kept texts of each list.
pub kept_lists : (p q : Paths) → kept_in p ≡ kept_in q → KeptLists p q
kept_lists p q e = record {
  outputs = ap (λ l. l.outputs) e;
  implicit_outputs = ap (λ l. l.implicit_outputs) e;
  inputs = ap (λ l. l.inputs) e;
  implicit_inputs = ap (λ l. l.implicit_inputs) e;
  order_only_inputs = ap (λ l. l.order_only_inputs) e;
}

abbrev lists_of : {X : Type 0} → X → X → X → X → X → PathLists X
lists_of a b c d e = record { outputs = a; implicit_outputs = b; inputs = c; implicit_inputs = d; order_only_inputs = e }

five : {X : Type 0} (a b c d e k l m n o : X) → a ≡ k → b ≡ l → c ≡ m → d ≡ n → e ≡ o → lists_of a b c d e ≡ lists_of k l m n o
five a b c d e k l m n o p q r s t = cc

-- Equal lists, one by one.
pub same_lists : {X : Type 0} (p q : PathLists X) → p.outputs ≡ q.outputs → p.implicit_outputs ≡ q.implicit_outputs → p.inputs ≡ q.inputs → p.implicit_inputs ≡ q.implicit_inputs → p.order_only_inputs ≡ q.order_only_inputs → p ≡ q
same_lists p q o io i ii oo = five _ _ _ _ _ _ _ _ _ _ o io i ii oo

-- The canonical forms of paths have equal kept texts.
pub kept_forms : (p q : Paths) → kept_in p ≡ kept_in q → kept_in (canonical_paths p) ≡ kept_in (canonical_paths q)
kept_forms p q e =
    let s = kept_lists p q e in
    same_lists (kept_in (canonical_paths p)) (kept_in (canonical_paths q))
    (kept_canonical p.outputs q.outputs s.outputs) (kept_canonical p.implicit_outputs q.implicit_outputs s.implicit_outputs) (kept_canonical p.inputs q.inputs s.inputs)
    (kept_canonical p.implicit_inputs q.implicit_inputs s.implicit_inputs) (kept_canonical p.order_only_inputs q.order_only_inputs s.order_only_inputs)

append_kept : (a b c d : List Text) → map kept a ≡ map kept b → map kept c ≡ map kept d → map kept (a ++ c) ≡ map kept (b ++ d)
append_kept a b c d e f = map-append kept a c ∙ (ap (λ l. l ++ map kept c) e ∙ (ap (λ l. map kept b ++ l) f ∙ sym (map-append kept b d)))

-- A test that depends only on kept texts has the same result for paths with equal kept texts.
pub any_in : (test : Text → Bool) → ((a b : Text) → kept a ≡ kept b → test a ≡ test b) → (p q : Paths) → kept_in p ≡ kept_in q → list_any test (all_in p) ≡ list_any test (all_in q)
any_in test h p q e =
    let s = kept_lists p q e in
    any_kept test h (all_in p) (all_in q)
    (append_kept (p.outputs ++ p.implicit_outputs ++ p.inputs ++ p.implicit_inputs) (q.outputs ++ q.implicit_outputs ++ q.inputs ++ q.implicit_inputs) p.order_only_inputs q.order_only_inputs
    (append_kept (p.outputs ++ p.implicit_outputs ++ p.inputs) (q.outputs ++ q.implicit_outputs ++ q.inputs) p.implicit_inputs q.implicit_inputs
    (append_kept (p.outputs ++ p.implicit_outputs) (q.outputs ++ q.implicit_outputs) p.inputs q.inputs
    (append_kept p.outputs q.outputs p.implicit_outputs q.implicit_outputs s.outputs s.implicit_outputs)
    s.inputs) s.implicit_inputs) s.order_only_inputs)

any_parts : (test : Text → Bool) (a b : List Text) → list_any test (a ++ b) ≡ false → (list_any test a ≡ false) × (list_any test b ≡ false)
any_parts test a b e = or_parts (list_any test a) (list_any test b) (sym (list_any-append test a b) ∙ e)

-- If no path of a build line is too long, paths with equal kept texts are equal.
pub exact_forms : (p q : Paths) → kept_in p ≡ kept_in q → has_long p ≡ false → p ≡ q
exact_forms p q e f =
    let s = kept_lists p q e in
    let four = any_parts is_long_path (p.outputs ++ p.implicit_outputs ++ p.inputs ++ p.implicit_inputs) p.order_only_inputs f in
    let three = any_parts is_long_path (p.outputs ++ p.implicit_outputs ++ p.inputs) p.implicit_inputs four.0 in
    let two = any_parts is_long_path (p.outputs ++ p.implicit_outputs) p.inputs three.0 in
    let one = any_parts is_long_path p.outputs p.implicit_outputs two.0 in
    same_lists p q
    (exact_paths p.outputs q.outputs s.outputs one.0) (exact_paths p.implicit_outputs q.implicit_outputs s.implicit_outputs one.1) (exact_paths p.inputs q.inputs s.inputs two.1)
    (exact_paths p.implicit_inputs q.implicit_inputs s.implicit_inputs three.1) (exact_paths p.order_only_inputs q.order_only_inputs s.order_only_inputs four.1)

-- The held paths of targets determine the cause for which they are refused.
targets_at : (n : ℕ) (held meant : List Text) → map kept held ≡ map kept meant
    → targets_by n meant ≡ or_refused (first_of ((list_any is_empty held, EmptyPath) ∷ (list_any is_long_path held, PathTooLong) ∷ [])) (map (target_at n) meant)
targets_at n held meant e =
    sym (ap (λ t. or_refused (first_of ((t, EmptyPath) ∷ (list_any is_long_path held, PathTooLong) ∷ [])) (map (target_at n) meant)) (any_kept is_empty empty_kept held meant e)
    ∙ ap (λ t. or_refused (first_of ((list_any is_empty meant, EmptyPath) ∷ (t, PathTooLong) ∷ [])) (map (target_at n) meant)) (any_kept is_long_path far_kept held meant e))

-- Targets with an empty path.
pub targets_empty : (n : ℕ) (held meant : List Text) → map kept held ≡ map kept meant → list_any is_empty held ≡ true → targets_by n meant ≡ Err EmptyPath
targets_empty n held meant e f =
    targets_at n held meant e ∙ ap (λ t. or_refused (first_of ((t, EmptyPath) ∷ (list_any is_long_path held, PathTooLong) ∷ [])) (map (target_at n) meant)) f

-- Targets with a path that is too long.
pub targets_long : (n : ℕ) (held meant : List Text) → map kept held ≡ map kept meant → list_any is_empty held ≡ false → list_any is_long_path held ≡ true → targets_by n meant ≡ Err PathTooLong
targets_long n held meant e f g =
    targets_at n held meant e
    ∙ (ap (λ t. or_refused (first_of ((t, EmptyPath) ∷ (list_any is_long_path held, PathTooLong) ∷ [])) (map (target_at n) meant)) f
    ∙ ap (λ t. or_refused (first_of ((false, EmptyPath) ∷ (t, PathTooLong) ∷ [])) (map (target_at n) meant)) g)

-- Targets whose paths are accepted.
pub targets_made : (n : ℕ) (held meant : List Text) (made : List DefaultTarget) → map kept held ≡ map kept meant → list_any is_empty held ≡ false → list_any is_long_path held ≡ false → made ≡ map (target_at n) held → targets_by n meant ≡ Ok made
targets_made n held meant made e f g h =
    targets_at n held meant e
    ∙ (ap (λ t. or_refused (first_of ((t, EmptyPath) ∷ (list_any is_long_path held, PathTooLong) ∷ [])) (map (target_at n) meant)) f
    ∙ (ap (λ t. or_refused (first_of ((false, EmptyPath) ∷ (t, PathTooLong) ∷ [])) (map (target_at n) meant)) g
    ∙ (ap (λ (l : List Text). Ok (map (target_at n) l)) (sym (exact_paths held meant e g)) ∙ ap (λ (l : List DefaultTarget). Ok l) (sym h))))

any_push : (test : Text → Bool) (xs : List Text) (x : Text) → list_any test (xs ++ x ∷ []) ≡ (list_any test xs || test x)
any_push test xs x = list_any-append test xs (x ∷ []) ∙ ap (λ (t : Bool). list_any test xs || t) (or_false (test x))

-- The text of a literal.
pub expand_literal : (here : Name → Text) (bytes : Text) → expand here (literal_of bytes) ≡ bytes
expand_literal here [] = refl
expand_literal here (b ∷ bytes) = append-nil (b ∷ bytes)

-- No path was read yet.
pub reads_none : (r : PathRows) → ReadsPaths r [] r
reads_none r = record { rows = sym (append-nil r.rows); empty = sym (or_false r.has_empty); long = sym (or_false r.has_long) }

or_more : (t : Bool) (test : Text → Bool) (xs : List Text) (x : Text) → ((t || list_any test xs) || test x) ≡ (t || list_any test (xs ++ x ∷ []))
or_more true test xs x = refl
or_more false test xs x = sym (any_push test xs x)

-- One more path is read.
pub reads_more : (before now next : PathRows) (texts : List Text) (t : Text) → ReadsPaths before texts now → ReadsPath now t next → ReadsPaths before (texts ++ t ∷ []) next
reads_more before now next texts t h one = record {
  rows = one.rows ∙ ap (λ (l : List Text). l ++ path_of t ∷ []) h.rows ∙ append_assoc before.rows (map path_of texts) (path_of t ∷ []) ∙ ap (λ (l : List Text). before.rows ++ l) (sym (map-append path_of texts (t ∷ [])));
  empty = one.empty ∙ ap (λ (b : Bool). b || is_empty t) h.empty ∙ or_more before.has_empty is_empty texts t;
  long = one.long ∙ ap (λ (b : Bool). b || is_long_path t) h.long ∙ or_more before.has_long is_long_path texts t;
}

or_lists : (t : Bool) (test : Text → Bool) (xs ys : List Text) → ((t || list_any test xs) || list_any test ys) ≡ (t || list_any test (xs ++ ys))
or_lists true test xs ys = refl
or_lists false test xs ys = sym (list_any-append test xs ys)

-- Two lists are read one after the other.
pub reads_both : (before now next : PathRows) (texts others : List Text) → ReadsPaths before texts now → ReadsPaths now others next → ReadsPaths before (texts ++ others) next
reads_both before now next texts others h k = record {
  rows = k.rows ∙ ap (λ (l : List Text). l ++ map path_of others) h.rows ∙ append_assoc before.rows (map path_of texts) (map path_of others) ∙ ap (λ (l : List Text). before.rows ++ l) (sym (map-append path_of texts others));
  empty = k.empty ∙ ap (λ (b : Bool). b || list_any is_empty others) h.empty ∙ or_lists before.has_empty is_empty texts others;
  long = k.long ∙ ap (λ (b : Bool). b || list_any is_long_path others) h.long ∙ or_lists before.has_long is_long_path texts others;
}

-- Rows between two places, with more rows after them.
pub between_more : {X : Type 0} (start end : ℕ) (rows more : List X) → end ≤ length rows → between start end (rows ++ more) ≡ between start end rows
between_more start end rows more e = ap (drop start) (take-append-le end rows more e)

-- The rows that were appended to others.
pub between_last : {X : Type 0} (rows more now : List X) (start end : ℕ) → now ≡ rows ++ more → start ≡ length rows → end ≡ length now → between start end now ≡ more
between_last rows more now start end n s e =
    ap (λ k. drop start (take k now)) e
    ∙ ap (drop start) (take-length now)
    ∙ ap (λ k. drop k now) s
    ∙ ap (drop (length rows)) n
    ∙ drop-append_seam rows more

-- A list of paths whose forms were appended to others, with more rows after them.
pub list_placed : (before forms now more all : List Text) (start end : ℕ) → now ≡ before ++ forms → all ≡ now ++ more → start ≡ length before → end ≡ length now → between start end all ≡ forms
list_placed before forms now more all start end n a s e = ap (between start end) a ∙ between_more start end now more (omega (arith, e)) ∙ between_last before forms now start end n s e

-- There are no fewer rows after a list of paths was read.
pub list_longer : (before now : PathRows) (texts : List Text) → ReadsPaths before texts now → length before.rows ≤ length now.rows
list_longer before now texts r =
    let whole = ap length r.rows ∙ length-append before.rows (map path_of texts) in
    omega (arith, whole)

-- The canonical forms of all paths are those of each list.
pub forms_in : (p : Paths) → map path_of (all_in p) ≡ all_in (canonical_paths p)
forms_in p =
    map-append path_of (p.outputs ++ p.implicit_outputs ++ p.inputs ++ p.implicit_inputs) p.order_only_inputs
    ∙ ap (λ l. l ++ map path_of p.order_only_inputs) (map-append path_of (p.outputs ++ p.implicit_outputs ++ p.inputs) p.implicit_inputs
    ∙ ap (λ l. l ++ map path_of p.implicit_inputs) (map-append path_of (p.outputs ++ p.implicit_outputs) p.inputs
    ∙ ap (λ l. l ++ map path_of p.inputs) (map-append path_of p.outputs p.implicit_outputs)))
