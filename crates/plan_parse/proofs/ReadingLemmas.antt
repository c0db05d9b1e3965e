-- Paths read from left to right. Lemmas for src/reading.rt.
use Rattle.std.proofs.Common.{◌≡◌, ℕ, zero, suc, ◌+◌, ◌-◌, ◌<◌, ◌≤◌, List, [], ◌∷◌, ◌++◌, length, take, get_or, drop, Result, Ok, Err, refl, sym, ap, ◌∙◌, append_assoc, arith, add-zero, eqb, ◌==◌, Bool, true, false, not, ◌||◌, cond, unwrap_or}
use Rattle.std.specs.Prelude.{nat_lt}
use Rattle.std.specs.List.{prefix_len}
use Rattle.std.proofs.lemmas.List.{append-nil}
use Rattle.std.proofs.lemmas.Bool.Decides.{nat_tests}
use Rattle.plan_text.specs.Outcome.{◌>>=◌}
use Rattle.plan_text.specs.Lines.{gap_unit, gap_len}
use Rattle.plan_text.specs.Bytes.{dollar, nul, tab}
use Rattle.plan_text.specs.Gathering.{is_special}
use Rattle.plan_text.specs.declared.piece_reader.Mode.TheVariants as mode
use Rattle.plan_text.specs.Laws.{PlainIsRead}
use Rattle.std.proofs.lemmas.List.{get_or-take, length-take-le}
use Rattle.std.proofs.lemmas.List.Sums.{prefix_len_passes}
use Rattle.plan_parse.specs.PlainPaths.{is_plain}
use Rattle.plan_text.specs.Pieces.{escape_size, literal_of}
use Rattle.plan_text.specs.Runs.{and_more, run_past, run}
use Rattle.plan_text.specs.declared.piece_reader.Piece.{Piece}
use Rattle.plan_parse.specs.declared.fault.ParseFault.{ParseFault}
use Rattle.plan_parse.specs.Reading.{Place, past, past_gap, ends_path, path_unit, path_len, path_at, lift_fault, path_onto, paths_past, paths_at}

-- paths that were read, before those that follow
abbrev pub with_front : List (List Piece) → Result (List (List Piece) × Place) ParseFault → Result (List (List Piece) × Place) ParseFault
with_front front (Ok x) = Ok (front ++ x.0, x.1)
with_front front (Err e) = Err e

-- no path before them changes nothing
pub front_none : (r : Result (List (List Piece) × Place) ParseFault) → with_front [] r ≡ r
front_none (Ok x) = refl
front_none (Err e) = refl

-- no unit follows a run
run_front : (size : List ℕ → ℕ) (b : ℕ) (rest : List ℕ) (k : ℕ) → size (b ∷ rest) ≡ k → ((n : ℕ) → run size (drop (run_past size rest n) rest) ≡ 0)
    → run size (drop (and_more k (λ n. run_past size rest n)) (b ∷ rest)) ≡ 0
run_front size b rest zero e over = ap (λ (k : ℕ). and_more k (λ n. run_past size rest n)) e
run_front size b rest (suc n) e over = over n

run_over : (size : List ℕ → ℕ) (text : List ℕ) (n : ℕ) → run size (drop (run_past size text n) text) ≡ 0
run_over size [] n = refl
run_over size (b ∷ rest) (suc n) = run_over size rest n
run_over size (b ∷ rest) zero = run_front size b rest (size (b ∷ rest)) refl (λ n. run_over size rest n)

within_front : (more : ℕ → ℕ) (len k : ℕ) → ((n : ℕ) → more n ≤ len) → and_more k more ≤ suc len
within_front more len zero h = omega arith
within_front more len (suc n) h = let e = h n in omega (arith, e)

-- a run is within its text
pub run_within : (size : List ℕ → ℕ) (text : List ℕ) (n : ℕ) → run_past size text n ≤ length text
run_within size [] n = omega arith
run_within size (b ∷ rest) (suc n) = let e = run_within size rest n in omega (arith, e)
run_within size (b ∷ rest) zero = within_front (λ n. run_past size rest n) (length rest) (size (b ∷ rest)) (λ n. run_within size rest n)

-- no gap follows a gap
pub gap_over : (p : Place) → gap_len (past_gap p).bytes ≡ 0
gap_over p = run_over gap_unit p.bytes 0

paths_skipped : (at : ℕ) (text : List ℕ) (n : ℕ) → n ≤ length text → paths_past at text n ≡ paths_past (at + n) (drop n text) 0
paths_skipped at [] zero h = rw (add-zero at) refl
paths_skipped at [] (suc n) h = absurd (omega arith)
paths_skipped at (b ∷ rest) zero h = rw (add-zero at) refl
paths_skipped at (b ∷ rest) (suc n) h = paths_skipped (at + 1) rest n (omega arith) ∙ ap (λ (k : ℕ). paths_past k (drop n rest) 0) place where
  place : at + 1 + n ≡ at + suc n
  place = omega arith

path_unit_go : (size : ℕ) (e d : Bool) → not (e || d) ≡ true → cond e 0 (cond d size 1) ≡ 1
path_unit_go size false false h = refl
path_unit_go size false true h = absurd cc
path_unit_go size true d h = absurd cc

plain_unit : (d e n t : Bool) → not (e || (d || n || t)) ≡ true → not (e || d) ≡ true
plain_unit false false n t h = refl
plain_unit true false n t h = absurd cc
plain_unit d true n t h = absurd cc

plain_go : (b : ℕ) (rest : List ℕ) (n : ℕ) (v : Bool) → is_plain b ≡ v → path_len rest ≡ n + path_len (drop n rest) → path_len (b ∷ rest) ≡ cond v (1 + n) 0 + path_len (drop (cond v (1 + n) 0) (b ∷ rest))
plain_go b rest n false e more = omega arith
plain_go b rest n true e more =
    let one : path_len (b ∷ rest) ≡ suc (path_len rest) = ap (λ (k : ℕ). and_more k (λ n. run_past path_unit rest n)) (path_unit_go (suc (unwrap_or (escape_size rest) 0)) (ends_path b) (b == dollar) (plain_unit (b == dollar) (ends_path b) (b == nul) (b == tab) e)) in
    let next : 1 + n ≡ suc n = omega arith in
    let left : path_len (drop (1 + n) (b ∷ rest)) ≡ path_len (drop n rest) = ap (λ (k : ℕ). path_len (drop k (b ∷ rest))) next in
    omega (arith, one, more, left)

-- the bytes of a path that stand for themselves
pub path_plain : (text : List ℕ) → path_len text ≡ prefix_len is_plain text + path_len (drop (prefix_len is_plain text) text)
path_plain [] = refl
path_plain (b ∷ rest) = plain_go b rest (prefix_len is_plain rest) (is_plain b) refl (path_plain rest)

-- no unit
pub run_end : (size : List ℕ → ℕ) (text : List ℕ) → size text ≡ 0 → run size text ≡ 0
run_end size [] e = refl
run_end size (b ∷ rest) e = ap (λ (k : ℕ). and_more k (λ n. run_past size rest n)) e

not_special : (e s : Bool) → not (e || s) ≡ true → s ≡ false
not_special false false h = refl
not_special false true h = absurd cc
not_special true s h = absurd cc

-- the pieces of these bytes
pub path_literal : PlainIsRead → (p : Place) (n : ℕ) → n ≤ length p.bytes → n ≤ prefix_len is_plain p.bytes → path_at p n ≡ Ok (literal_of (take n p.bytes))
path_literal law p n within plain =
    ap lift_fault (law mode.Path p.at (take n p.bytes) (λ k l.
    let less : k < n = omega (arith, l, length-take-le n p.bytes within) in
    ap (is_special mode.Path) (get_or-take n p.bytes k 0 less)
    ∙ not_special (ends_path (get_or p.bytes k 0)) (is_special mode.Path (get_or p.bytes k 0)) (prefix_len_passes is_plain p.bytes k 0 (omega (arith, less, plain)))))

some_test : (n : ℕ) → 0 < n → nat_lt 0 n ≡ true
some_test n h = grind (arith, nat_tests)

none_test : (n : ℕ) → n ≤ 0 → nat_lt 0 n ≡ false
none_test n h = grind (arith, nat_tests)

zero_test : (n : ℕ) → 0 < n → eqb n 0 ≡ false
zero_test n h = grind (arith, nat_tests)

skip_cons : (at b : ℕ) (rest : List ℕ) (n : ℕ) → 0 < n → n ≤ suc (length rest) → paths_past (at + 1) rest (n - 1) ≡ paths_past (at + n) (drop n (b ∷ rest)) 0
skip_cons at b rest zero h fits = absurd (omega arith)
skip_cons at b rest (suc n) h fits =
    ap (paths_past (at + 1) rest) less ∙ paths_skipped (at + 1) rest n (omega arith) ∙ ap (λ (k : ℕ). paths_past k (drop n rest) 0) place
  where
    less : suc n - 1 ≡ n
    less = omega arith

    place : at + 1 + n ≡ at + suc n
    place = omega arith

gap_go : (at : ℕ) (text : List ℕ) (n : ℕ) → n ≡ gap_len text → n ≤ length text → paths_past at text 0 ≡ paths_past (at + n) (drop n text) 0
gap_go at text zero e fits = rw (add-zero at) refl
gap_go at [] (suc n) e fits = absurd (omega arith)
gap_go at (b ∷ rest) (suc n) e fits =
    let t : nat_lt 0 (gap_len (b ∷ rest)) ≡ true = some_test (gap_len (b ∷ rest)) (omega (arith, e)) in
    rw t (ap (λ (k : ℕ). paths_past (at + 1) rest (k - 1)) (sym e) ∙ skip_cons at b rest (suc n) (omega arith) fits)

-- the gap before a path
pub past_gaps : (p : Place) → paths_at p ≡ paths_at (past_gap p)
past_gaps p = gap_go p.at p.bytes (gap_len p.bytes) refl (run_within gap_unit p.bytes 0)

path_go : (at : ℕ) (text : List ℕ) (n : ℕ) → gap_len text ≡ 0 → n ≡ path_len text → 0 < n → n ≤ length text
    → paths_past at text 0 ≡ (path_at (record { at = at; bytes = text }) n >>= λ path. path_onto path (paths_past (at + n) (drop n text) 0))
path_go at [] n g e h fits = absurd (omega arith)
path_go at (b ∷ rest) n g e h fits =
    let t : nat_lt 0 (gap_len (b ∷ rest)) ≡ false = none_test (gap_len (b ∷ rest)) (omega (arith, g)) in
    let z : eqb (path_len (b ∷ rest)) 0 ≡ false = zero_test (path_len (b ∷ rest)) (omega (arith, e)) in
    rw (t, z)
    (ap (λ (k : ℕ). path_at (record { at = at; bytes = b ∷ rest }) k >>= λ path. path_onto path (paths_past (at + 1) rest (k - 1))) (sym e)
    ∙ ap (λ (r : Result (List (List Piece) × Place) ParseFault). path_at (record { at = at; bytes = b ∷ rest }) n >>= λ path. path_onto path r) (skip_cons at b rest n h fits))

end_go : (at : ℕ) (text : List ℕ) → gap_len text ≡ 0 → path_len text ≡ 0 → paths_past at text 0 ≡ Ok ([], record { at = at; bytes = text })
end_go at [] g e = refl
end_go at (b ∷ rest) g e =
    let t : nat_lt 0 (gap_len (b ∷ rest)) ≡ false = none_test (gap_len (b ∷ rest)) (omega (arith, g)) in
    let z : eqb (path_len (b ∷ rest)) 0 ≡ true = grind (arith, nat_tests, e) in
    rw (t, z) refl

onto_front : (front : List (List Piece)) (path : List Piece) (r : Result (List (List Piece) × Place) ParseFault) → with_front (front ++ path ∷ []) r ≡ with_front front (path_onto path r)
onto_front front path (Ok x) = ap (λ (v : List (List Piece)). Ok (v, x.1)) (append_assoc front (path ∷ []) x.0)
onto_front front path (Err e) = refl

-- one more path, and the gap after it
pub reads_path : (front : List (List Piece)) (p : Place) (n : ℕ) (path : List Piece) (all : Result (List (List Piece) × Place) ParseFault) → gap_len p.bytes ≡ 0 → n ≡ path_len p.bytes → 0 < n → n ≤ length p.bytes
    → path_at p n ≡ Ok path → with_front front (paths_at p) ≡ all → with_front (front ++ path ∷ []) (paths_at (past_gap (past n p))) ≡ all
reads_path front p n path all g e h fits found so_far =
    ap (with_front (front ++ path ∷ [])) (sym (past_gaps (past n p)))
    ∙ onto_front front path (paths_at (past n p))
    ∙ ap (λ (r : Result (List Piece) ParseFault). with_front front (r >>= λ path. path_onto path (paths_at (past n p)))) (sym found)
    ∙ ap (with_front front) (sym (path_go p.at p.bytes n g e h fits)) ∙ so_far

-- a path with a fault has a byte
fault_some : (p : Place) (n : ℕ) (fault : ParseFault) → path_at p n ≡ Err fault → 0 < n
fault_some p zero fault h = absurd cc
fault_some p (suc n) fault h = omega arith

-- a fault in a path
pub stops : (front : List (List Piece)) (p : Place) (n : ℕ) (fault : ParseFault) (all : Result (List (List Piece) × Place) ParseFault) → gap_len p.bytes ≡ 0 → n ≡ path_len p.bytes
    → path_at p n ≡ Err fault → with_front front (paths_at p) ≡ all → all ≡ Err fault
stops front p n fault all g e found so_far =
    let within = run_within path_unit p.bytes 0 in
    sym so_far ∙ ap (with_front front) (path_go p.at p.bytes n g e (fault_some p n fault found) (omega (arith, e, within)))
    ∙ ap (λ (r : Result (List Piece) ParseFault). with_front front (r >>= λ path. path_onto path (paths_at (past n p)))) found

-- the end of the list
pub ends : (front : List (List Piece)) (p : Place) (all : Result (List (List Piece) × Place) ParseFault) → gap_len p.bytes ≡ 0 → path_len p.bytes ≡ 0 → with_front front (paths_at p) ≡ all → all ≡ Ok (front, p)
ends front p all g e so_far =
    sym so_far ∙ ap (with_front front) (end_go p.at p.bytes g e) ∙ ap (λ (v : List (List Piece)). Ok (v, p)) (append-nil front)
