-- Logical lines read from left to right. Lemmas for src/line_reader.rt.
use Rattle.std.proofs.Common.{◌≡◌, ℕ, zero, suc, ◌+◌, ◌-◌, ◌<◌, ◌==◌, Bool, ◌||◌, ◌&&◌, true, false, cond, List, [], ◌∷◌, ◌++◌, length, get_or, take, drop, Result, Ok, Err, refl, sym, ap, subst, ◌∙◌, arith, add-zero, eqb, ◌≢◌}
use Rattle.std.proofs.lemmas.Bool.{eqb-true, ltb-true}
use Rattle.std.specs.Prelude.{nat_lt}
use Rattle.memchr.specs.Find.{is_byte3}
use Rattle.plan_text.specs.Bytes.{line_feed, carriage_return, hash, dollar, begins_with}
use Rattle.plan_text.specs.declared.fault.TextFault.{TextFault}
use Rattle.plan_text.specs.declared.line_reader.Line.{Line}
use Rattle.plan_text.specs.Lines.{newline_len, begins_newline, escaped_len, line_unit, comment_unit, indent_len, logical_len, Raw, raw_past, IsFirstLine}
use Rattle.plan_text.specs.Runs.{run}
use Rattle.plan_text.proofs.RunReaderLemmas.{run_end, run_some}
use Rattle.std.proofs.lemmas.Bool.Decides.{nat_tests}

-- adds the lines found so far before the lines of the rest
abbrev pub with_front : List Line → Result (List Line) TextFault → Result (List Line) TextFault
with_front front (Ok lines) = Ok (front ++ lines)
with_front front (Err fault) = Err fault

raw_skipped : (at : ℕ) (text : List ℕ) (n : ℕ) → raw_past at text n ≡ raw_past (at + n) (drop n text) 0
raw_skipped at [] zero = refl
raw_skipped at [] (suc n) = refl
raw_skipped at (b ∷ rest) zero = rw (add-zero at) refl
raw_skipped at (b ∷ rest) (suc n) = raw_skipped (at + 1) rest n ∙ ap (λ (k : ℕ). raw_past k (drop n rest) 0) (omega arith)

comment_progress : (s : List ℕ) → begins_with hash s ≡ true → 0 < run comment_unit s
comment_progress [] e = absurd cc
comment_progress (c ∷ r) e = subst (λ (k : ℕ). 0 < run comment_unit (k ∷ r)) (sym (eqb-true c hash e)) (omega arith)

line_unit_some : (b : ℕ) (rest : List ℕ) (v : Bool) → begins_newline (b ∷ rest) ≡ false → eqb b dollar ≡ v → 0 < line_unit (b ∷ rest)
line_unit_some b rest true e f = rw (e, f) (omega arith)
line_unit_some b rest false e f = rw (e, f) (omega arith)

line_progress : (b : ℕ) (rest : List ℕ) (v : Bool) → begins_newline (b ∷ rest) ≡ v → 0 < run line_unit (b ∷ rest) + newline_len (drop (run line_unit (b ∷ rest)) (b ∷ rest))
line_progress b rest true e =
    let z : run line_unit (b ∷ rest) ≡ 0 = run_end line_unit (b ∷ rest) (rw e refl) in
    subst (λ (k : ℕ). 0 < k + newline_len (drop k (b ∷ rest))) (sym z) (omega (arith, ltb-true 0 (newline_len (b ∷ rest)) e))
line_progress b rest false e =
    let some = run_some line_unit b rest (line_unit_some b rest (eqb b dollar) e refl) in
    omega (arith, some)

-- in a text that is not empty, the first line with its newline has a byte
pub progress : (s : List ℕ) (v : Bool) → 0 < length s → begins_with hash (drop (indent_len s) s) ≡ v → 0 < logical_len s + newline_len (drop (logical_len s) s)
progress [] v h e = absurd (omega arith)
progress (b ∷ rest) true h e =
    let z : logical_len (b ∷ rest) ≡ indent_len (b ∷ rest) + run comment_unit (drop (indent_len (b ∷ rest)) (b ∷ rest)) = ap (λ (v : Bool). cond v (indent_len (b ∷ rest) + run comment_unit (drop (indent_len (b ∷ rest)) (b ∷ rest))) (run line_unit (b ∷ rest))) e in
    omega (arith, z, comment_progress (drop (indent_len (b ∷ rest)) (b ∷ rest)) e)
progress (b ∷ rest) false h e =
    let z : logical_len (b ∷ rest) ≡ run line_unit (b ∷ rest) = ap (λ (v : Bool). cond v (indent_len (b ∷ rest) + run comment_unit (drop (indent_len (b ∷ rest)) (b ∷ rest))) (run line_unit (b ∷ rest))) e in
    subst (λ (k : ℕ). 0 < k + newline_len (drop k (b ∷ rest))) (sym z) (line_progress b rest (begins_newline (b ∷ rest)) refl)

-- the first logical line, and the lines after it
raw_first : (at : ℕ) (s : List ℕ) (n : ℕ) → 0 < length s → n ≡ logical_len s + newline_len (drop (logical_len s) s) → 0 < n
    → raw_past at s 0 ≡ record { at = at; bytes = take (logical_len s) s } ∷ raw_past (at + n) (drop n s) 0
raw_first at [] n h e p = absurd (omega arith)
raw_first at (b ∷ rest) n h e p =
    ap (λ (k : ℕ). record { at = at; bytes = take (logical_len (b ∷ rest)) (b ∷ rest) } ∷ raw_past (at + 1) rest (k - 1)) (sym e)
    ∙ ap (λ (v : List Raw). record { at = at; bytes = take (logical_len (b ∷ rest)) (b ∷ rest) } ∷ v) (raw_skipped (at + 1) rest (n - 1) ∙ later n p)
  where
    later : (n : ℕ) → 0 < n → raw_past (at + 1 + (n - 1)) (drop (n - 1) rest) 0 ≡ raw_past (at + n) (drop n (b ∷ rest)) 0
    later zero p = absurd (omega arith)
    later (suc n) p =
        let e : suc n - 1 ≡ n = omega arith in
        let f : at + 1 + (suc n - 1) ≡ at + suc n = omega arith in
        ap (λ (k : ℕ). raw_past k (drop (suc n - 1) rest) 0) f ∙ ap (λ (k : ℕ). raw_past (at + suc n) (drop k rest) 0) e

-- the split-off line is the first logical line
pub first_line : (text line behind : List ℕ) (len newline : ℕ) → 0 < length text → len ≡ logical_len text → line ≡ take len text → behind ≡ drop len text → newline ≡ newline_len behind → length line ≡ len
    → IsFirstLine text line (length line + newline)
first_line text line behind len newline h l f b n m at =
    let size : length line + newline ≡ logical_len text + newline_len (drop (logical_len text) text) =
    ap (λ (k : ℕ). k + newline) (m ∙ l) ∙ ap (λ (k : ℕ). logical_len text + k) (n ∙ ap newline_len (b ∙ ap (λ (k : ℕ). drop k text) l)) in
    let p = progress text (begins_with hash (drop (indent_len text) text)) h refl in
    raw_first at text (length line + newline) h size (omega (arith, size, p))
    ∙ ap (λ (v : List ℕ). record { at = at; bytes = v } ∷ raw_past (at + (length line + newline)) (drop (length line + newline) text) 0) (sym (f ∙ ap (λ (k : ℕ). take k text) l))

-- the split-off line, with its newline, has a byte
pub first_goes : (text line behind : List ℕ) (len newline : ℕ) → 0 < length text → len ≡ logical_len text → behind ≡ drop len text → newline ≡ newline_len behind → length line ≡ len → 0 < length line + newline
first_goes text line behind len newline h l b n m =
    let p = progress text (begins_with hash (drop (indent_len text) text)) h refl in
    let e : newline ≡ newline_len (drop (logical_len text) text) = n ∙ ap newline_len (b ∙ ap (λ (k : ℕ). drop k text) l) in
    omega (arith, p, e, m, l)

-- no newline begins here if neither this byte nor the next is a line feed
no_newline : (b : ℕ) (rest : List ℕ) → b ≢ line_feed → begins_with line_feed rest ≡ false → begins_newline (b ∷ rest) ≡ false
no_newline b rest h e = grind (arith, nat_tests, h, e)

no_front : (rest : List ℕ) → (0 < length rest → get_or rest 0 0 ≢ line_feed) → begins_with line_feed rest ≡ false
no_front [] h = refl
no_front (b ∷ rest) h = let ne : b ≢ line_feed = h (omega arith) in grind (arith, nat_tests, ne)

-- a comment without a line feed goes to the end of the text
pub comment_to_end : (text : List ℕ) → ((k : ℕ) → k < length text → get_or text k 0 ≢ line_feed) → run comment_unit text ≡ length text
comment_to_end [] h = refl
comment_to_end (b ∷ rest) h =
    rw (no_newline b rest (h 0 (omega arith)) (no_front rest (λ l. h 1 (omega arith)))) (ap suc (comment_to_end rest (λ k l. h (suc k) (omega arith))))

no_newline_here : (b : ℕ) (rest : List ℕ) → b ≢ line_feed → b ≢ carriage_return → begins_newline (b ∷ rest) ≡ false
no_newline_here b rest h e = grind (arith, nat_tests, h, e)

newline_here : (b : ℕ) (rest : List ℕ) → b ≡ line_feed → begins_newline (b ∷ rest) ≡ true
newline_here b rest e = grind (arith, nat_tests, e)

cr_lf_here : (b c : ℕ) (rest : List ℕ) → b ≡ carriage_return → c ≡ line_feed → begins_newline (b ∷ c ∷ rest) ≡ true
cr_lf_here b c rest e f = grind (arith, nat_tests, e, f)

-- a comment ends at a line feed that follows a carriage return
pub comment_to_cr : (text : List ℕ) (n : ℕ) → suc n < length text → ((k : ℕ) → k < suc n → get_or text k 0 ≢ line_feed) → get_or text n 0 ≡ carriage_return → get_or text (suc n) 0 ≡ line_feed → run comment_unit text ≡ n
comment_to_cr [] n l h e f = absurd (omega arith)
comment_to_cr (b ∷ []) n l h e f = absurd (omega arith)
comment_to_cr (b ∷ c ∷ rest) zero l h e f = rw (cr_lf_here b c rest e f) refl
comment_to_cr (b ∷ c ∷ rest) (suc n) l h e f =
    rw (no_newline b (c ∷ rest) (h 0 (omega arith)) (no_front (c ∷ rest) (λ _. h 1 (omega arith)))) (ap suc (comment_to_cr (c ∷ rest) n (omega arith) (λ k m. h (suc k) (omega arith)) e f))

-- a comment ends at a line feed that follows no carriage return
pub comment_to_lf : (text : List ℕ) (n : ℕ) → n < length text → ((k : ℕ) → k < n → get_or text k 0 ≢ line_feed) → get_or text n 0 ≡ line_feed → ((m : ℕ) → suc m ≡ n → get_or text m 0 ≢ carriage_return) → run comment_unit text ≡ n
comment_to_lf [] n l h e f = absurd (omega arith)
comment_to_lf (b ∷ rest) zero l h e f = rw (newline_here b rest e) refl
comment_to_lf (b ∷ rest) (suc zero) l h e f =
    rw (no_newline_here b rest (h 0 (omega arith)) (f 0 refl)) (ap suc (comment_to_lf rest zero (omega arith) (λ k m. h (suc k) (omega arith)) e (λ m q. f (suc m) (ap suc q))))
comment_to_lf (b ∷ rest) (suc (suc n)) l h e f =
    rw (no_newline b rest (h 0 (omega arith)) (no_front rest (λ _. h 1 (omega arith)))) (ap suc (comment_to_lf rest (suc n) (omega arith) (λ k m. h (suc k) (omega arith)) e (λ m q. f (suc m) (ap suc q))))

unit_go : (rest : ℕ) (f r d l : Bool) → (f || r || d) ≡ false → cond (nat_lt 0 (cond f 1 (cond (r && l) 2 0))) 0 (cond d (suc rest) 1) ≡ 1
unit_go rest false false false l e = refl
unit_go rest false false true l e = absurd cc
unit_go rest false true d l e = absurd cc
unit_go rest true r d l e = absurd cc

-- a byte that is part of no newline and no `$` is a unit of a line
pub line_plain : (b : ℕ) (rest : List ℕ) → is_byte3 line_feed carriage_return dollar b ≡ false → line_unit (b ∷ rest) ≡ 1
line_plain b rest e = unit_go (escaped_len rest) (b == line_feed) (b == carriage_return) (b == dollar) (begins_with line_feed rest) e
