-- Logical lines joined with their newlines. Proofs for the law lines_cover.
use Rattle.std.proofs.Common.{◌≡◌, inl, inr, ℕ, zero, suc, ◌+◌, ◌-◌, ◌<◌, ◌≤◌, Bool, ◌&&◌, true, false, cond, List, [], ◌∷◌, ◌++◌, length, take, drop, refl, sym, ap, subst, ◌∙◌, arith, eqb, length-drop}
use Rattle.std.proofs.lemmas.Bool.{eqb-true, ltb-true}
use Rattle.std.proofs.lemmas.List.{drop-drop, take-append-drop, length-take}
use Rattle.std.proofs.lemmas.List.Sums.{prefix_len-le-length}
use Rattle.plan_text.specs.Bytes.{hash, dollar, begins_with, is_space}
use Rattle.plan_text.specs.Lines.{newline_len, begins_newline, escaped_len, line_unit, comment_unit, indent_len, logical_len, Raw, raw_past, EndsLine, AreLinesOf}
use Rattle.plan_text.specs.Runs.{and_more, run_past, run}
use Rattle.plan_text.proofs.LineReaderLemmas.{progress}

-- no unit begins at the end of a run
run_stops : (size : List ℕ → ℕ) → size [] ≡ 0 → (text : List ℕ) (n : ℕ) → size (drop (run_past size text n) text) ≡ 0
run_stops size none [] n = none
run_stops size none (b ∷ rest) (suc n) = run_stops size none rest n
run_stops size none (b ∷ rest) zero = by (size (b ∷ rest)) refl (λ n. run_stops size none rest n) where
  by : (k : ℕ) → size (b ∷ rest) ≡ k → ((n : ℕ) → size (drop (run_past size rest n) rest) ≡ 0) → size (drop (and_more k (λ n. run_past size rest n)) (b ∷ rest)) ≡ 0
  by zero e more = e
  by (suc n) e more = more n

run_within : (size : List ℕ → ℕ) (text : List ℕ) (n : ℕ) → run_past size text n ≤ length text
run_within size [] n = omega arith
run_within size (b ∷ rest) (suc n) = let more = run_within size rest n in omega (arith, more)
run_within size (b ∷ rest) zero = by (size (b ∷ rest)) (λ n. run_within size rest n) where
  by : (k : ℕ) → ((n : ℕ) → run_past size rest n ≤ length rest) → and_more k (λ n. run_past size rest n) ≤ suc (length rest)
  by zero more = omega arith
  by (suc n) more = let h = more n in omega (arith, h)

-- a text that is no unit of a line begins with a newline
ends_by_cr : (b c : ℕ) (rest : List ℕ) (t u : Bool) → eqb b 13 ≡ t → eqb c 10 ≡ u → 0 < cond (t && u) 2 0
    → EndsLine (take (cond (t && u) 2 0) (b ∷ c ∷ rest)) (drop (cond (t && u) 2 0) (b ∷ c ∷ rest))
ends_by_cr b c rest true true e f h = inr (inl (rw (eqb-true b 13 e, eqb-true c 10 f) refl))
ends_by_cr b c rest true false e f h = absurd (omega arith)
ends_by_cr b c rest false u e f h = absurd (omega arith)

ends_here : (b : ℕ) (rest : List ℕ) (t : Bool) → eqb b 10 ≡ t → 0 < cond t 1 (cond (eqb b 13 && begins_with 10 rest) 2 0)
    → EndsLine (take (cond t 1 (cond (eqb b 13 && begins_with 10 rest) 2 0)) (b ∷ rest)) (drop (cond t 1 (cond (eqb b 13 && begins_with 10 rest) 2 0)) (b ∷ rest))
ends_here b rest true e h = inl (rw (eqb-true b 10 e) refl)
ends_here b [] false e h = absurd (none (eqb b 13) h) where
  none : (t : Bool) → 0 < cond (t && false) 2 0 → ⊥
  none true k = omega arith
  none false k = omega arith
ends_here b (c ∷ rest) false e h = ends_by_cr b c rest (eqb b 13) (eqb c 10) refl refl h

newline_ends : (text : List ℕ) → (0 < length text → 0 < newline_len text) → EndsLine (take (newline_len text) text) (drop (newline_len text) text)
newline_ends [] h = inr (inr (refl, refl))
newline_ends (b ∷ rest) h = ends_here b rest (eqb b 10) refl (h (omega arith))

-- a newline is within its text
pub newline_within : (text : List ℕ) → newline_len text ≤ length text
newline_within [] = omega arith
newline_within (b ∷ rest) = by (eqb b 10) (eqb b 13) rest where
  by : (t u : Bool) (rest : List ℕ) → cond t 1 (cond (u && begins_with 10 rest) 2 0) ≤ suc (length rest)
  by true u rest = omega arith
  by false false rest = omega arith
  by false true [] = omega arith
  by false true (c ∷ rest) = two (eqb c 10) where
    two : (v : Bool) → cond v 2 0 ≤ suc (suc (length rest))
    two true = omega arith
    two false = omega arith

-- a text that begins with no unit begins with a newline, or is empty
line_stops : (text : List ℕ) → line_unit text ≡ 0 → 0 < length text → 0 < newline_len text
line_stops [] e h = absurd (omega arith)
line_stops (b ∷ rest) e h = by (begins_newline (b ∷ rest)) (eqb b dollar) refl e where
  by : (t u : Bool) → begins_newline (b ∷ rest) ≡ t → cond t 0 (cond u (suc (escaped_len rest)) 1) ≡ 0 → 0 < newline_len (b ∷ rest)
  by true u e f = ltb-true 0 (newline_len (b ∷ rest)) e
  by false true e f = absurd (omega (arith, f))
  by false false e f = absurd (omega (arith, f))

comment_stops : (text : List ℕ) → comment_unit text ≡ 0 → 0 < length text → 0 < newline_len text
comment_stops [] e h = absurd (omega arith)
comment_stops (b ∷ rest) e h = by (begins_newline (b ∷ rest)) refl e where
  by : (t : Bool) → begins_newline (b ∷ rest) ≡ t → cond {A = ℕ} t 0 1 ≡ 0 → 0 < newline_len (b ∷ rest)
  by true e f = ltb-true 0 (newline_len (b ∷ rest)) e
  by false e f = absurd (omega (arith, f))

logical_by : (text : List ℕ) (t : Bool) → 0 < length (drop (cond t (indent_len text + run comment_unit (drop (indent_len text) text)) (run line_unit text)) text)
    → 0 < newline_len (drop (cond t (indent_len text + run comment_unit (drop (indent_len text) text)) (run line_unit text)) text)
logical_by text true =
    subst (λ (v : List ℕ). 0 < length v → 0 < newline_len v) (drop-drop (run comment_unit (drop (indent_len text) text)) (indent_len text) text)
    (comment_stops _ (run_stops comment_unit refl (drop (indent_len text) text) 0))
logical_by text false = line_stops _ (run_stops line_unit refl text 0)

-- a newline follows a logical line, unless the text ends
logical_stops : (text : List ℕ) → 0 < length (drop (logical_len text) text) → 0 < newline_len (drop (logical_len text) text)
logical_stops text = logical_by text (begins_with hash (drop (indent_len text) text))

prefix_within : (text : List ℕ) → indent_len text ≤ length text
prefix_within text = prefix_len-le-length is_space text

within_by : (text : List ℕ) (t : Bool) → cond t (indent_len text + run comment_unit (drop (indent_len text) text)) (run line_unit text) ≤ length text
within_by text true =
    let first = prefix_within text in
    let more = run_within comment_unit (drop (indent_len text) text) 0 in
    omega (arith, first, more, length-drop (indent_len text) text)
within_by text false = run_within line_unit text 0

-- a logical line is within its text
pub logical_within : (text : List ℕ) → logical_len text ≤ length text
logical_within text = within_by text (begins_with hash (drop (indent_len text) text))

-- the first line, its newline and the lines that follow
one_line : (at size : ℕ) (text : List ℕ) (more : List Raw) → size ≡ logical_len text + newline_len (drop (logical_len text) text) → AreLinesOf (at + size) more (drop size text)
    → AreLinesOf at (record { at = at; bytes = take (logical_len text) text } ∷ more) text
one_line at size text more e h =
    let len = logical_len text in
    let behind = drop len text in
    let newline = newline_len behind in
    let first = logical_within text in
    let second = newline_within behind in
    let l : length (take len text) ≡ len = omega (arith, first, length-take len text) in
    let m : length (take newline behind) ≡ newline = omega (arith, second, length-take newline behind) in
    let n : at + size ≡ at + length (take len text) + length (take newline behind) = omega (arith, e, l, m) in
    let d : drop size text ≡ drop newline behind = ap (λ (k : ℕ). drop k text) e ∙ sym (drop-drop newline len text) in (
      take newline behind,
      drop newline behind,
      refl,
      sym (ap (λ (v : List ℕ). take len text ++ v) (take-append-drop newline behind) ∙ take-append-drop len text),
      newline_ends behind (logical_stops text),
      subst (λ (k : ℕ). AreLinesOf k more (drop newline behind)) n (subst (λ (v : List ℕ). AreLinesOf (at + size) more v) d h),
    )

covers_past : (at : ℕ) (text : List ℕ) (n : ℕ) → n ≤ length text → AreLinesOf (at + n) (raw_past at text n) (drop n text)
covers_past at [] zero h = refl
covers_past at [] (suc n) h = absurd (omega arith)
covers_past at (b ∷ rest) (suc n) h =
    let e : at + 1 + n ≡ at + suc n = omega arith in
    subst (λ (k : ℕ). AreLinesOf k (raw_past (at + 1) rest n) (drop n rest)) e (covers_past (at + 1) rest n (omega arith))
covers_past at (b ∷ rest) zero h =
    let p = progress (b ∷ rest) (begins_with hash (drop (indent_len (b ∷ rest)) (b ∷ rest))) (omega arith) refl in
    let first = logical_within (b ∷ rest) in
    let second = newline_within (drop (logical_len (b ∷ rest)) (b ∷ rest)) in
    let l = length-drop (logical_len (b ∷ rest)) (b ∷ rest) in
    by (logical_len (b ∷ rest) + newline_len (drop (logical_len (b ∷ rest)) (b ∷ rest))) refl p (omega (arith, first, second, l))
    (λ n k. covers_past (at + 1) rest n k)
  where
    by : (size : ℕ) → size ≡ logical_len (b ∷ rest) + newline_len (drop (logical_len (b ∷ rest)) (b ∷ rest)) → 0 < size → size ≤ suc (length rest)
        → ((n : ℕ) → n ≤ length rest → AreLinesOf (at + 1 + n) (raw_past (at + 1) rest n) (drop n rest))
        → AreLinesOf (at + 0) (record { at = at; bytes = take (logical_len (b ∷ rest)) (b ∷ rest) } ∷ raw_past (at + 1) rest (size - 1)) (b ∷ rest)
    by zero e p w more = absurd (omega arith)
    by (suc n) e p w more =
        let k : suc n - 1 ≡ n = omega arith in
        let o : at + 1 + n ≡ at + suc n = omega arith in
        let z : at ≡ at + 0 = omega arith in
        subst (λ (m : ℕ). AreLinesOf m (record { at = at; bytes = take (logical_len (b ∷ rest)) (b ∷ rest) } ∷ raw_past (at + 1) rest (suc n - 1)) (b ∷ rest)) z
        (rw k (one_line at (suc n) (b ∷ rest) (raw_past (at + 1) rest n) e (subst (λ (m : ℕ). AreLinesOf m (raw_past (at + 1) rest n) (drop n rest)) o (more n (omega arith)))))

-- the lines of a text joined with their newlines are the text
pub covers : (at : ℕ) (text : List ℕ) → AreLinesOf at (raw_past at text 0) text
covers at text = let z : at + 0 ≡ at = omega arith in subst (λ (k : ℕ). AreLinesOf k (raw_past at text 0) text) z (covers_past at text 0 (omega arith))
