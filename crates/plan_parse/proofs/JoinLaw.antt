-- The statements of a text that is appended to another one. Proofs for the law statements_join.
use Rattle.std.proofs.Common.{◌≡◌, ℕ, zero, suc, ◌+◌, ◌-◌, ◌≤◌, ◌==◌, Bool, true, false, cond, List, [], ◌∷◌, ◌++◌, length, drop, take, Result, Ok, Err, Option, Some, None, refl, sym, ap, ◌∙◌, arith, length-append}
use Rattle.std.specs.Prelude.{map, nat_lt}
use Rattle.std.specs.List.{position_or_len}
use Rattle.std.proofs.lemmas.List.Elements.{filter_map-append}
use Rattle.std.proofs.lemmas.Bool.Decides.{nat_tests}
use Rattle.plan_text.specs.Bytes.{nul, hash, begins_with}
use Rattle.plan_text.specs.Laws.{LinesJoin}
use Rattle.plan_text.specs.Limits.{max_source}
use Rattle.plan_text.specs.Lines.{Raw, newline_len, indent_len, logical_len, raw_past, raw_lines, has_ended_lines}
use Rattle.plan_text.specs.Outcome.{◌>>=◌, each}
use Rattle.plan_text.specs.declared.fault.TextFault.TheVariants.{NulByte, SourceTooLong}
use Rattle.plan_parse.specs.declared.fault.ParseFault.{ParseFault}
use Rattle.plan_parse.specs.declared.fault.ParseFault.TheVariants as fault
use Rattle.plan_parse.specs.Kinds.{Statement}
use Rattle.plan_parse.specs.Kinds.{StatementKind}
use Rattle.plan_parse.specs.Blocks.{BlockLine, Text, Refused, LineRole, Head, Below, Block, is_indented, role_of_line, roles_of_lines, below, blocks_of}
use Rattle.plan_parse.specs.Statements.{no_block_allowed, statement_of, statement_in, statements_of}
use Rattle.plan_parse.specs.Laws.{moved, leads, begins_block}
use Rattle.plan_parse.proofs.LikeLemmas.{Like, SameText}
use Rattle.plan_parse.proofs.StatementLemmas.{AtOffsets, SameBlockLine, SameBlockLines, statement_like}
use Rattle.plan_parse.proofs.WholeLaw.{found}

-- the roles of the same lines, k bytes later
abbrev SameTold : ℕ → LineRole → LineRole → Type 0
SameTold k (Head p) (Head q) = (q.at ≡ k + p.at) × SameText p q
SameTold k (Below m) (Below n) = SameBlockLine m n
SameTold k (Head p) (Below n) = ⊥
SameTold k (Below m) (Head q) = ⊥

abbrev MaySame : ℕ → Option LineRole → Option LineRole → Type 0
MaySame k None None = Unit {0}
MaySame k (Some x) (Some y) = SameTold k x y
MaySame k None (Some y) = ⊥
MaySame k (Some x) None = ⊥

abbrev AllSame : ℕ → List LineRole → List LineRole → Type 0
AllSame k [] [] = Unit {0}
AllSame k (x ∷ xs) (y ∷ ys) = SameTold k x y × AllSame k xs ys
AllSame k [] (y ∷ ys) = ⊥
AllSame k (x ∷ xs) [] = ⊥

line_role_of : (k at c : ℕ) (bytes : List ℕ) (t u v w : Bool) → c ≡ k + at
    → MaySame k
    (cond t None (cond u (cond v (Some (Below (Refused (NulByte (at + position_or_len (λ b. b == nul) bytes))))) None)
    (Some (cond w (Below (Text (record { at = at + indent_len bytes; bytes = drop (indent_len bytes) bytes }))) (Head (record { at = at + indent_len bytes; bytes = drop (indent_len bytes) bytes }))))))
    (cond t None (cond u (cond v (Some (Below (Refused (NulByte (c + position_or_len (λ b. b == nul) bytes))))) None)
    (Some (cond w (Below (Text (record { at = c + indent_len bytes; bytes = drop (indent_len bytes) bytes }))) (Head (record { at = c + indent_len bytes; bytes = drop (indent_len bytes) bytes }))))))
line_role_of k at c bytes true u v w e = tt
line_role_of k at c bytes false true true w e = tt
line_role_of k at c bytes false true false w e = tt
line_role_of k at c bytes false false v true e = refl
line_role_of k at c bytes false false v false e = (omega (arith, e), refl)

role_same : (k at c : ℕ) (bytes : List ℕ) → c ≡ k + at → MaySame k (role_of_line (record { at = at; bytes = bytes })) (role_of_line (record { at = c; bytes = bytes }))
role_same k at c bytes e =
    line_role_of k at c bytes (length bytes == indent_len bytes) (begins_with hash (drop (indent_len bytes) bytes)) (nat_lt (position_or_len (λ b. b == nul) bytes) (length bytes)) (is_indented bytes) e

cons_same : (k : ℕ) (raw other : Raw) (more others : List Raw) (o u : Option LineRole) → role_of_line raw ≡ o → role_of_line other ≡ u → MaySame k o u → AllSame k (roles_of_lines more) (roles_of_lines others)
    → AllSame k (roles_of_lines (raw ∷ more)) (roles_of_lines (other ∷ others))
cons_same k raw other more others None None e f h rest = rw (e, f) rest
cons_same k raw other more others (Some x) (Some y) e f h rest = rw (e, f) (h, rest)
cons_same k raw other more others None (Some y) e f h rest = absurd h
cons_same k raw other more others (Some x) None e f h rest = absurd h

lines_same : (k at c : ℕ) (text : List ℕ) (n : ℕ) → c ≡ k + at → AllSame k (roles_of_lines (raw_past at text n)) (roles_of_lines (raw_past c text n))
lines_same k at c [] n e = tt
lines_same k at c (b ∷ rest) (suc n) e = lines_same k (at + 1) (c + 1) rest n (omega (arith, e))
lines_same k at c (b ∷ rest) zero e =
    let len = logical_len (b ∷ rest) in
    let line = take len (b ∷ rest) in
    cons_same k (record { at = at; bytes = line }) (record { at = c; bytes = line }) (raw_past (at + 1) rest (len + newline_len (drop len (b ∷ rest)) - 1)) (raw_past (c + 1) rest (len + newline_len (drop len (b ∷ rest)) - 1))
    (role_of_line (record { at = at; bytes = line })) (role_of_line (record { at = c; bytes = line })) refl refl (role_same k at c line e)
    (lines_same k (at + 1) (c + 1) rest (len + newline_len (drop len (b ∷ rest)) - 1) (omega (arith, e)))

below_same : (k : ℕ) (xs ys : List LineRole) → AllSame k xs ys → SameBlockLines (below xs) (below ys)
below_same k [] [] h = tt
below_same k (Head p ∷ xs) (Head q ∷ ys) h = tt
below_same k (Below m ∷ xs) (Below n ∷ ys) h = (h.0, below_same k xs ys h.1)
below_same k (Head p ∷ xs) (Below n ∷ ys) h = absurd h.0
below_same k (Below m ∷ xs) (Head q ∷ ys) h = absurd h.0
below_same k [] (y ∷ ys) h = absurd h
below_same k (x ∷ xs) [] h = absurd h

leads_same : (k : ℕ) (xs ys : List LineRole) → AllSame k xs ys → leads xs ≡ leads ys
leads_same k [] [] h = refl
leads_same k (Head p ∷ xs) (Head q ∷ ys) h = refl
leads_same k (Below m ∷ xs) (Below n ∷ ys) h = refl
leads_same k (Head p ∷ xs) (Below n ∷ ys) h = absurd h.0
leads_same k (Below m ∷ xs) (Head q ∷ ys) h = absurd h.0
leads_same k [] (y ∷ ys) h = absurd h
leads_same k (x ∷ xs) [] h = absurd h

-- a statement that is k bytes later
made : (a b : ℕ) (x y : StatementKind) → a ≡ b → x ≡ y → ◌≡◌ {A = Statement} (record { offset = a; kind = x }) (record { offset = b; kind = y })
made a b x y e f = rw (e, f) refl

moved_by : (k i j : ℕ) (r q : Result Statement ParseFault) (s : Statement) → Like (AtOffsets i j) r q → j ≡ k + i → r ≡ Ok s → q ≡ Ok (moved k s)
moved_by k i j (Ok x) (Ok y) s h e f =
    let same : x ≡ s = cc in
    let here : s.offset ≡ i = sym (ap (λ (v : Statement). v.offset) same) ∙ h.0 in
    let there : y.offset ≡ k + s.offset = omega (arith, h.1, e, here) in
    ap (λ (v : Statement). Ok v) (made y.offset (k + s.offset) y.kind s.kind there (sym h.2 ∙ ap (λ (v : Statement). v.kind) same))
moved_by k i j (Ok x) (Err d) s h e f = absurd h
moved_by k i j (Err d) q s h e f = absurd cc

cons_ok : (r : Result Statement ParseFault) (q : Result (List Statement) ParseFault) (s : Statement) (ss : List Statement) → r ≡ Ok s → q ≡ Ok ss → (r >>= λ y. q >>= λ ys. Ok (y ∷ ys)) ≡ Ok (s ∷ ss)
cons_ok r q s ss e f = rw (e, f) refl

each_moved : (k : ℕ) (xs ys : List LineRole) (ss : List Statement) → AllSame k xs ys → each statement_in (blocks_of xs) ≡ Ok ss → each statement_in (blocks_of ys) ≡ Ok (map (moved k) ss)
each_moved k [] [] ss h e = let same : [] ≡ ss = cc in ap (λ (v : List Statement). Ok (map (moved k) v)) same
each_moved k (Head p ∷ xs) (Head q ∷ ys) ss h e =
    let a = found (statement_of p (below xs)) (λ y. each statement_in (blocks_of xs) >>= λ ys. Ok (y ∷ ys)) ss e in
    let b = found (each statement_in (blocks_of xs)) (λ ys. Ok (a.first ∷ ys)) ss a.gives in
    let same : a.first ∷ b.first ≡ ss = cc in
    cons_ok (statement_of q (below ys)) (each statement_in (blocks_of ys)) (moved k a.first) (map (moved k) b.first)
    (moved_by k p.at q.at (statement_of p (below xs)) (statement_of q (below ys)) a.first (statement_like p q (below xs) (below ys) h.0.1 (below_same k xs ys h.1)) h.0.0 a.was)
    (each_moved k xs ys b.first h.1 b.was)
    ∙ ap (λ (v : List Statement). Ok (map (moved k) v)) same
each_moved k (Below m ∷ xs) (Below n ∷ ys) ss h e = each_moved k xs ys ss h.1 e
each_moved k (Head p ∷ xs) (Below n ∷ ys) ss h e = absurd h.0
each_moved k (Below m ∷ xs) (Head q ∷ ys) ss h e = absurd h.0
each_moved k [] (y ∷ ys) ss h e = absurd h
each_moved k (x ∷ xs) [] ss h e = absurd h

-- lines before one that begins a block
below_front : (xs ys : List LineRole) → leads ys ≡ true → below (xs ++ ys) ≡ below xs
below_front [] [] e = cc
below_front [] (Head p ∷ ys) e = refl
below_front [] (Below m ∷ ys) e = cc
below_front (Head p ∷ xs) ys e = refl
below_front (Below m ∷ xs) ys e = ap (λ (v : List BlockLine). m ∷ v) (below_front xs ys e)

blocks_front : (xs ys : List LineRole) → leads ys ≡ true → blocks_of (xs ++ ys) ≡ blocks_of xs ++ blocks_of ys
blocks_front [] ys e = refl
blocks_front (Head p ∷ xs) ys e =
    ap (λ (v : List BlockLine). record { head = p; lines = v } ∷ blocks_of (xs ++ ys)) (below_front xs ys e)
    ∙ ap (λ (v : List Block). record { head = p; lines = below xs } ∷ v) (blocks_front xs ys e)
blocks_front (Below m ∷ xs) ys e = blocks_front xs ys e

each_append : (a b : List Block) (xs ys : List Statement) → each statement_in a ≡ Ok xs → each statement_in b ≡ Ok ys → each statement_in (a ++ b) ≡ Ok (xs ++ ys)
each_append [] b xs ys e f = let same : [] ≡ xs = cc in f ∙ ap (λ (v : List Statement). Ok (v ++ ys)) same
each_append (x ∷ a) b xs ys e f =
    let q = found (statement_in x) (λ y. each statement_in a >>= λ ys. Ok (y ∷ ys)) xs e in
    let r = found (each statement_in a) (λ ys. Ok (q.first ∷ ys)) xs q.gives in
    let same : q.first ∷ r.first ≡ xs = cc in
    cons_ok (statement_in x) (each statement_in (a ++ b)) q.first (r.first ++ ys) q.was (each_append a b r.first ys r.was f)
    ∙ ap (λ (v : List Statement). Ok (v ++ ys)) same

-- a text that has statements
record Parsed (text : List ℕ) (ss : List Statement) : Type 0 where
  front : no_block_allowed (below (roles_of_lines (raw_lines text))) ≡ Ok tt
  blocks : each statement_in (blocks_of (roles_of_lines (raw_lines text))) ≡ Ok ss

parsed : (text : List ℕ) (ss : List Statement) → statements_of text ≡ Ok ss → Parsed text ss
parsed text ss e = by (nat_lt max_source (length text)) e where
  by : (t : Bool)
      → cond t (Err (fault.Text (SourceTooLong max_source))) (no_block_allowed (below (roles_of_lines (raw_lines text))) >>= λ _. each statement_in (blocks_of (roles_of_lines (raw_lines text)))) ≡ Ok ss → Parsed text ss
  by true e = absurd cc
  by false e =
      let q = found (no_block_allowed (below (roles_of_lines (raw_lines text)))) (λ _. each statement_in (blocks_of (roles_of_lines (raw_lines text)))) ss e in
      record { front = q.was; blocks = q.gives }

not_long : (n : ℕ) → n ≤ max_source → nat_lt max_source n ≡ false
not_long n h = grind (arith, nat_tests)

from_lines : (text : List ℕ) (roles : List LineRole) (ss : List Statement) → length text ≤ max_source → roles_of_lines (raw_lines text) ≡ roles → no_block_allowed (below roles) ≡ Ok tt → each statement_in (blocks_of roles) ≡ Ok ss → statements_of text ≡ Ok ss
from_lines text roles ss l e f g =
    ap (λ (t : Bool). cond t (Err (fault.Text (SourceTooLong max_source))) (no_block_allowed (below (roles_of_lines (raw_lines text))) >>= λ _. each statement_in (blocks_of (roles_of_lines (raw_lines text))))) (not_long (length text) l)
    ∙ ap (λ (v : List LineRole). no_block_allowed (below v) >>= λ _. each statement_in (blocks_of v)) e
    ∙ ap (λ (r : Result (Unit {0}) ParseFault). r >>= λ _. each statement_in (blocks_of roles)) f
    ∙ g

-- after a text whose lines are ended, the statements of a text that begins a block follow, later by its length
pub joined : LinesJoin → (front back : List ℕ) (xs ys : List Statement) → has_ended_lines front ≡ true → begins_block back ≡ true → length front + length back ≤ max_source
    → statements_of front ≡ Ok xs → statements_of back ≡ Ok ys → statements_of (front ++ back) ≡ Ok (xs ++ map (moved (length front)) ys)
joined join front back xs ys is_ended begins short first second =
    let a = parsed front xs first in
    let b = parsed back ys second in
    let k = length front in
    let here = roles_of_lines (raw_lines front) in
    let there = roles_of_lines (raw_past (0 + k) back 0) in
    let e : 0 + k ≡ k + 0 = omega arith in
    let same = lines_same k 0 (0 + k) back 0 e in
    let head : leads there ≡ true = sym (leads_same k (roles_of_lines (raw_lines back)) there same) ∙ begins in
    let roles : roles_of_lines (raw_lines (front ++ back)) ≡ here ++ there = ap roles_of_lines (join 0 front back is_ended) ∙ filter_map-append role_of_line (raw_lines front) (raw_past (0 + k) back 0) in
    from_lines (front ++ back) (here ++ there) (xs ++ map (moved k) ys) (omega (arith, length-append front back, short)) roles
    (ap no_block_allowed (below_front here there head) ∙ a.front)
    (ap (each statement_in) (blocks_front here there head) ∙ each_append (blocks_of here) (blocks_of there) xs (map (moved k) ys) a.blocks (each_moved k (roles_of_lines (raw_lines back)) there ys same b.blocks))
