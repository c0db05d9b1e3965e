-- Statements that are held as segments of files. Used for src/tree/loaded.rt and src/tree/statements.rt.
use Rattle.std.proofs.Common.{◌≡◌, ℕ, ◌+◌, ◌-◌, ◌<◌, ◌≤◌, List, [], ◌∷◌, ◌++◌, Some, length, map, max, refl, ap, sym, ◌∙◌, take, drop, get_or, append-nil, arith}
use Rattle.std.specs.Prelude.{slice_get}
use Rattle.std.proofs.lemmas.List.{drop-map, take-map, length-drop, length-take-le, drop_all}
use Rattle.std.proofs.lemmas.List.Concat.{flat_map-append, flat_map-cons}
use Rattle.std.proofs.lemmas.Option.{slice_get_within, get_or_from_slice_get}
use Rattle.plan_parse.specs.declared.compact.CompactStatement.{CompactStatement}
use Rattle.plan_parse.specs.PathLists.{between}
use Rattle.plan_scope.specs.declared.tree.File.{File}
use Rattle.plan_scope.specs.Trees.{TreeStatement}
use Rattle.plan_scope.specs.Loading.{greatest_scope, own_scope}
use Rattle.plan_scope.specs.FileStatements.{joined, left_of, statement_at, statements_at}
use Rattle.plan_scope.proofs.ListLemmas.{one_dropped}

-- The statements of a file between two numbers, one by one.
between_kept : (f : File) (start end : ℕ) → between start end (statements_at f) ≡ map (statement_at f) (between start end f.parsed.value.statements)
between_kept f start end = ap (drop start) (take-map (statement_at f) end f.parsed.value.statements) ∙ drop-map (statement_at f) start (take end f.parsed.value.statements)

length_between : {X : Type 0} (start end : ℕ) (xs : List X) → end ≤ length xs → length (between start end xs) ≡ end - start
length_between start end xs le = length-drop start (take end xs) ∙ ap (λ n. n - start) (length-take-le end xs le)

greatest_kept : (f : File) (xs : List CompactStatement) → 0 < length xs → greatest_scope (map (statement_at f) xs) ≡ own_scope f.scopes
greatest_kept f [] lt = let no : ⊥ = omega (arith, lt) in absurd no
greatest_kept f (x ∷ []) lt = omega arith
greatest_kept f (x ∷ y ∷ more) lt = let rest = greatest_kept f (y ∷ more) (omega arith) in omega (arith, rest)

greatest_append : (xs ys : List TreeStatement) → greatest_scope (xs ++ ys) ≡ max (greatest_scope xs) (greatest_scope ys)
greatest_append [] ys = omega arith
greatest_append (x ∷ xs) ys = let rest = greatest_append xs ys in omega (arith, rest)

-- Segments, and one more segment.
pub joined_more : (front : List (List TreeStatement)) (segment : List TreeStatement) → joined (front ++ segment ∷ []) ≡ joined front ++ segment
joined_more front segment = flat_map-append (λ (s : List TreeStatement). s) front (segment ∷ []) ∙ ap (λ (x : List TreeStatement). joined front ++ x) (append-nil segment)

-- The greatest own scope with one more segment of a file.
pub greatest_behind : (f : File) (start end : ℕ) (front now : List (List TreeStatement)) → start < end → end ≤ length f.parsed.value.statements
    → now ≡ front ++ between start end (statements_at f) ∷ [] → max (greatest_scope (joined front)) (own_scope f.scopes) ≡ greatest_scope (joined now)
greatest_behind f start end front now lt le e =
    let some : length (between start end f.parsed.value.statements) ≡ end - start = length_between start end f.parsed.value.statements le in
    let own : greatest_scope (between start end (statements_at f)) ≡ own_scope f.scopes =
    ap greatest_scope (between_kept f start end) ∙ greatest_kept f (between start end f.parsed.value.statements) (omega (arith, some, lt)) in
    ap (max (greatest_scope (joined front))) (sym own)
    ∙ (sym (greatest_append (joined front) (between start end (statements_at f)))
    ∙ ap greatest_scope (sym (joined_more front (between start end (statements_at f))) ∙ ap joined (sym e)))

-- No statement of the first segment was returned yet.
pub left_of_all : (segments : List (List TreeStatement)) → left_of segments 0 ≡ joined segments
left_of_all [] = refl
left_of_all (s ∷ more) = sym (flat_map-cons (λ (x : List TreeStatement). x) s more)

-- All statements of the first segment were returned.
pub left_behind : (segment : List TreeStatement) (behind : List (List TreeStatement)) (passed : ℕ) → length segment ≤ passed → left_of (segment ∷ behind) passed ≡ left_of behind 0
left_behind segment behind passed le = ap (λ (x : List TreeStatement). x ++ joined behind) (drop_all passed segment le) ∙ sym (left_of_all behind)

-- One statement of the first segment is returned.
left_more : (segment : List TreeStatement) (behind : List (List TreeStatement)) (passed : ℕ) (l : TreeStatement) → slice_get segment passed ≡ Some l → left_of (segment ∷ behind) passed ≡ l ∷ left_of (segment ∷ behind) (passed + 1)
left_more segment behind passed l e =
    ap (λ (x : List TreeStatement). x ++ joined behind) (one_dropped segment passed l (slice_get_within segment passed l e) (sym (get_or_from_slice_get segment passed l l e)))

-- The same for the first of all segments.
pub first_given : (segments : List (List TreeStatement)) (segment : List TreeStatement) (passed : ℕ) (l : TreeStatement) → 1 ≤ length segments → segment ≡ get_or segments 0 segment → slice_get segment passed ≡ Some l
    → left_of segments passed ≡ l ∷ left_of segments (passed + 1)
first_given [] segment passed l le is e = let no : ⊥ = omega (arith, le) in absurd no
first_given (s ∷ behind) segment passed l le is e = left_more s behind passed l (ap (λ (x : List TreeStatement). slice_get x passed) (sym is) ∙ e)
