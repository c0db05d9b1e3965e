-- Texts that are memoized on the way to others. Used for src/edge/memo.rt and src/edge/expansion.rt.
use Rattle.std.proofs.Common.{◌≡◌, ℕ, zero, suc, Bool, true, false, ◌&&◌, bytes_eq, leb, ◌+◌, ◌-◌, ◌<◌, ◌≤◌, List, [], ◌∷◌, ◌++◌, length, take, get_or, Option, Some, None, Ok, Err, refl, ap, sym, subst, ◌∙◌, option_map, append-nil, append_assoc, length-append, arith, slice_range}
use Rattle.std.proofs.Math.Seq.{drop-append_seam}
use Rattle.std.proofs.lemmas.Bool.{leb-true}
use Rattle.std.proofs.lemmas.Slice.Eq.{bytes_eq-Decides}
use Rattle.std.proofs.lemmas.List.{take_more}
use Rattle.std.proofs.lemmas.Grind.{common_steps}
use Rattle.plan_text.specs.declared.piece_reader.Piece.{Piece}
use Rattle.plan_scope.specs.declared.fault.StatementFault.{StatementFault}
use Rattle.plan_scope.specs.declared.fault.StatementFault.TheVariants.{Refused, Memory}
use Rattle.plan_scope.specs.declared.edge.expansion.MemoEntry.{MemoEntry}
use Rattle.plan_scope.specs.Scopes.{Text, Name}
use Rattle.plan_text.specs.Limits.{max_text}
use Rattle.plan_scope.specs.Expansion.{Meaning, Late, both, joined, text_of, text_of_piece, text_within}
use Rattle.plan_scope.specs.Kept.{kept}
use Rattle.plan_scope.specs.Memo.{AppendsBy, IsMemo, IsRecalled, IsMemoEntry, Says, text_by}
use Rattle.plan_scope.specs.Outcomes.{Appends}
use Rattle.plan_scope.proofs.TextLemmas.{both_long, kept_then}
use Rattle.plan_scope.proofs.PathLemmas.{exact_kept}
use Rattle.plan_scope.proofs.ExpansionLemmas.{by_more, joined_by, piece_by, within_is_by}

-- A text after another, cut out of both.
pub cut_behind : (out before behind now : Text) (start : ℕ) → length out ≤ max_text → length before ≡ start → kept out ≡ kept (before ++ behind) → now ≡ slice_range out start (length out) → now ≡ behind
cut_behind out before behind now start le e k n =
    let whole : out ≡ before ++ behind = exact_kept out (before ++ behind) k le in
    let cut : slice_range (before ++ behind) (length before) (length (before ++ behind)) ≡ behind = grind (arith, common_steps, drop-append_seam {A = ℕ}, length-append {A = ℕ}) in
    n ∙ (ap (λ (o : Text). slice_range o start (length o)) whole ∙ (ap (λ (i : ℕ). slice_range (before ++ behind) i (length (before ++ behind))) (sym e) ∙ cut))

-- A variable after a text that is already too long.
pub found_long : (m : Name → Meaning) (s : MemoEntry) (out : Text) → max_text < length out → IsMemoEntry m s → IsRecalled m s.depth s.name.now out (Some (s.depth, []))
found_long m s out lt h =
    (omega arith, ap (option_map (λ t. kept (out ++ t))) h.1 ∙ ap (λ (o : Option Text). Some o) (both_long (out ++ h.0) (out ++ []) (omega (arith, length-append out h.0)) (omega (arith, length-append {A = ℕ} out []))))

-- A variable whose text is memoized.
found_text : (m : Name → Meaning) (s : MemoEntry) (out text : Text) → s.text ≡ Some text → IsMemoEntry m s → IsRecalled m s.depth s.name.now out (Some (s.depth, text))
found_text m s out text e h =
    let said : text ≡ h.0 = subst (λ (o : Option Text). Says o h.0) e h.2 in
    (omega arith, ap (option_map (λ t. kept (out ++ t))) h.1 ∙ ap (λ (t : Text). Some (kept (out ++ t))) (sym said))

-- One of the entries.
pub memo_at : (m : Name → Meaning) (ss : List MemoEntry) (i : ℕ) (s : MemoEntry) → i < length ss → s ≡ get_or ss i s → IsMemo m ss → IsMemoEntry m s
memo_at m [] i s lt e h = let f : ⊥ = omega arith in absurd f
memo_at m (x ∷ ss) zero s lt e h = subst (IsMemoEntry m) (sym e) h.0
memo_at m (x ∷ ss) (suc i) s lt e h = memo_at m ss i s (omega arith) e h.1

-- The same if more steps are allowed.
pub found_more : (m : Name → Meaning) (depth left : ℕ) (said name out : Text) (o : Option (ℕ × Text)) → depth ≤ left → said ≡ name → IsRecalled m depth said out o → IsRecalled m left name out o
found_more m depth left said name out None le e h = h
found_more m depth left said name out (Some found) le e h =
    (omega (arith, h.0), subst (λ (n : Text). option_map (λ t. kept (out ++ t)) (text_by found.0 m n) ≡ Some (kept (out ++ found.1))) e h.1)

-- One more entry.
pub memo_more : (m : Name → Meaning) (ss : List MemoEntry) (s : MemoEntry) → IsMemo m ss → IsMemoEntry m s → IsMemo m (ss ++ s ∷ [])
memo_more m [] s a h = (h, tt {0})
memo_more m (x ∷ ss) s a h = (a.0, memo_more m ss s a.1 h)

-- The depth is small enough and the name is the same, as two tests show.
pub near_enough : (depth left : ℕ) (said name : Name) (b : Bool) → b ≡ bytes_eq said name → (leb depth left && b) ≡ true → (depth ≤ left) × (said ≡ name)
near_enough depth left said name b e h =
    let parts = both_true (leb depth left) b h in
    (leb-true depth left parts.0, (bytes_eq-Decides said name).0 (sym e ∙ parts.1))
  where
    both_true : (a b : Bool) → (a && b) ≡ true → (a ≡ true) × (b ≡ true)
    both_true true b h = (refl, h)
    both_true false b h = cc

abbrev Meant : Type 0
Meant = Name → Meaning

by_late : (m : Meant) (n : ℕ) (name : Name) (pieces : List Piece) → m name ≡ Late pieces → text_by (suc n) m name ≡ joined (text_by n m) pieces
by_late m n name pieces e = ap (λ a. text_of a false (joined (text_by n m))) e

-- The pieces of a variable have no text.
pub late_refused : (m : Meant) (left : ℕ) (name : Name) (pieces : List Piece) (before now : Text) (fault : StatementFault) → m name ≡ Late pieces → 0 < left
    → AppendsBy before now (left - 1) (Err fault) (λ n. joined (text_by n m) pieces) → AppendsBy before now left (Err fault) (λ n. text_by n m name)
late_refused m left name pieces before now (Refused cause) e lt h =
    let one : left ≡ suc (left - 1) = omega arith in
    (ap (λ n. text_by n m name) one ∙ (by_late m (left - 1) name pieces e ∙ h.0), h.1)
late_refused m left name pieces before now Memory e lt h = tt {0}

-- The pieces of a variable have a text.
pub late_appended : (m : Meant) (left depth : ℕ) (name : Name) (pieces : List Piece) (before now : Text) → m name ≡ Late pieces → 0 < left
    → AppendsBy before now (left - 1) (Ok depth) (λ n. joined (text_by n m) pieces) → AppendsBy before now left (Ok (depth + 1)) (λ n. text_by n m name)
late_appended m left depth name pieces before now e lt h =
    let one : depth + 1 ≡ suc depth = omega arith in
    (omega (arith, h.0), ap (λ n. option_map (λ t. kept (before ++ t)) (text_by n m name)) one ∙ (ap (option_map (λ t. kept (before ++ t))) (by_late m depth name pieces e) ∙ h.1))

has_text : (before now : Text) (o : Option Text) → option_map (λ t. kept (before ++ t)) o ≡ Some (kept now) → (t : Text) × (o ≡ Some t) × (kept now ≡ kept (before ++ t))
has_text before now None e = cc
has_text before now (Some t) e = let k : kept (before ++ t) ≡ kept now = cc in (t, refl, sym k)

-- The text is memoized.
pub memo_then : (m : Meant) (old new : List MemoEntry) (left depth start : ℕ) (name : Name) (before now out : Text) → out ≡ now → length before ≡ start → IsMemo m old
    → AppendsBy before now left (Ok depth) (λ n. text_by n m name)
    → ((before text : Text) → IsMemo m old → text_by depth m name ≡ Some text → length before ≡ start → kept out ≡ kept (before ++ text) → IsMemo m new) → IsMemo m new
memo_then m old new left depth start name before now out o e a h f =
    let t = has_text before now (text_by depth m name) h.1 in
    f before t.0 a t.1 e (ap kept o ∙ t.2)

none_both : (a : Option Text) → both a None ≡ None
none_both None = refl
none_both (Some x) = refl

none_at : (f : Name → Option Text) (pieces : List Piece) (i : ℕ) (p : Piece) → i < length pieces → p ≡ get_or pieces i p → text_of_piece f p ≡ None → joined f pieces ≡ None
none_at f [] i p lt e h = let no : ⊥ = omega arith in absurd no
none_at f (q ∷ pieces) zero p lt e h = ap (λ (x : Piece). both (text_of_piece f x) (joined f pieces)) (sym e) ∙ ap (λ (o : Option Text). both o (joined f pieces)) h
none_at f (q ∷ pieces) (suc i) p lt e h = ap (both (text_of_piece f q)) (none_at f pieces i p (omega arith) e h) ∙ none_both (text_of_piece f q)

-- A piece has no text.
pub pieces_refused : (m : Meant) (left : ℕ) (pieces : List Piece) (i : ℕ) (p : Piece) (before out now : Text) (fault : StatementFault) → i < length pieces → p ≡ get_or pieces i p
    → AppendsBy out now left (Err fault) (λ n. text_of_piece (text_by n m) p) → AppendsBy before now left (Err fault) (λ n. joined (text_by n m) pieces)
pieces_refused m left pieces i p before out now (Refused cause) lt e h = (none_at (text_by left m) pieces i p lt e h.0, h.1)
pieces_refused m left pieces i p before out now Memory lt e h = tt {0}

both_last : (a b c : Option Text) → both a (both b c) ≡ both (both a b) c
both_last None b c = refl
both_last (Some x) None c = refl
both_last (Some x) (Some y) None = refl
both_last (Some x) (Some y) (Some z) = ap (λ (t : Text). Some t) (sym (append_assoc x y z))

both_empty : (a : Option Text) → both a (Some []) ≡ both (Some []) a
both_empty None = refl
both_empty (Some x) = ap (λ (t : Text). Some t) (append-nil x)

pub joined_more : (f : Name → Option Text) (ps : List Piece) (p : Piece) → joined f (ps ++ p ∷ []) ≡ both (joined f ps) (text_of_piece f p)
joined_more f [] p = both_empty (text_of_piece f p)
joined_more f (q ∷ ps) p = ap (both (text_of_piece f q)) (joined_more f ps p) ∙ both_last (text_of_piece f q) (joined f ps) (text_of_piece f p)

as_much : (g : Text → Option Text) (a b : Option Text) (r : Option Text) → ((t : Text) → a ≡ Some t → b ≡ Some t) → option_map g a ≡ Some r → option_map g b ≡ Some r
as_much g None b r h e = cc
as_much g (Some t) b r h e = ap (option_map g) (h t refl) ∙ e

appended_both : (before out now : Text) (a b : Option Text) → option_map (λ t. kept (before ++ t)) a ≡ Some (kept out) → option_map (λ t. kept (out ++ t)) b ≡ Some (kept now)
    → option_map (λ t. kept (before ++ t)) (both a b) ≡ Some (kept now)
appended_both before out now None b e f = cc
appended_both before out now (Some x) None e f = cc
appended_both before out now (Some x) (Some y) e f =
    let k : kept (before ++ x) ≡ kept out = cc in
    let l : kept (out ++ y) ≡ kept now = cc in
    ap (λ (o : Option Text). Some o) (sym (kept_then before out now x y (sym k) (sym l)))

-- One more piece is appended.
pub piece_appended : (m : Meant) (deepest depth left more : ℕ) (pieces : List Piece) (i : ℕ) (p : Piece) (before out now : Text) → i < length pieces → p ≡ get_or pieces i p → deepest ≤ more → depth ≤ more
    → option_map (λ t. kept (before ++ t)) (joined (text_by deepest m) (take i pieces)) ≡ Some (kept out)
    → AppendsBy out now left (Ok depth) (λ n. text_of_piece (text_by n m) p)
    → option_map (λ t. kept (before ++ t)) (joined (text_by more m) (take (i + 1) pieces)) ≡ Some (kept now)
piece_appended m deepest depth left more pieces i p before out now lt e le lo h k =
    ap (λ (ps : List Piece). option_map (λ t. kept (before ++ t)) (joined (text_by more m) ps)) (take_more pieces i p lt ∙ ap (λ (x : Piece). take i pieces ++ x ∷ []) (sym e))
    ∙ (ap (option_map (λ t. kept (before ++ t))) (joined_more (text_by more m) (take i pieces) p)
    ∙ appended_both before out now (joined (text_by more m) (take i pieces)) (text_of_piece (text_by more m) p)
    (as_much (λ t. kept (before ++ t)) (joined (text_by deepest m) (take i pieces)) (joined (text_by more m) (take i pieces)) (kept out) (joined_by m deepest more le (take i pieces)) h)
    (as_much (λ t. kept (out ++ t)) (text_of_piece (text_by depth m) p) (text_of_piece (text_by more m) p) (kept now) (piece_by m depth more lo p) k.1))

-- The answer for a variable that is expanded from the outermost level.
pub whole_appended : (m : Meant) (left depth : ℕ) (name : Name) (before now : Text) (done : Unit {0}) → AppendsBy before now left (Ok depth) (λ n. text_by n m name) → Appends before now (Ok done) (text_within left m [] name)
whole_appended m left depth name before now done h =
    ap (option_map (λ t. kept (before ++ t))) (within_is_by m left name)
    ∙ as_much (λ t. kept (before ++ t)) (text_by depth m name) (text_by left m name) (kept now) (by_more m depth left h.0 name) h.1

-- A refusal within a number of steps is one with names in use.
pub whole_refused : (m : Meant) (left : ℕ) (name : Name) (before now : Text) (fault : StatementFault) → AppendsBy before now left (Err fault) (λ n. text_by n m name) → Appends before now (Err fault) (text_within left m [] name)
whole_refused m left name before now (Refused cause) h = (within_is_by m left name ∙ h.0, h.1)
whole_refused m left name before now Memory h = tt {0}

-- The text that was found is appended.
pub found_appended : (m : Meant) (left depth : ℕ) (name text before now out : Text) → out ≡ before → IsRecalled m left name out (Some (depth, text)) → kept now ≡ kept (before ++ text)
    → AppendsBy before now left (Ok depth) (λ n. text_by n m name)
found_appended m left depth name text before now out e h k =
    (h.0, ap (λ (o : Text). option_map (λ t. kept (o ++ t)) (text_by depth m name)) (sym e) ∙ (h.1 ∙ ap (λ (o : Option Text). Some o) (ap (λ (o : Text). kept (o ++ text)) e ∙ sym k)))
