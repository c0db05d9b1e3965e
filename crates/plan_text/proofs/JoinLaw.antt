-- Lines of a text that is appended to another text. Proofs for the law lines_join.
use Rattle.std.proofs.Common.{◌≡◌, ℕ, zero, suc, ◌+◌, ◌-◌, ◌<◌, ◌≤◌, ◌==◌, Bool, ◌&&◌, true, false, cond, List, [], ◌∷◌, ◌++◌, length, take, drop, refl, sym, ap, subst, ◌∙◌, arith, eqb, length-drop}
use Rattle.std.proofs.lemmas.Bool.{eqb-true, ltb-true}
use Rattle.std.proofs.lemmas.List.{take-append-le, drop-append-le, drop-drop}
use Rattle.plan_text.specs.Bytes.{hash, dollar, space, is_space, begins_with}
use Rattle.plan_text.specs.Lines.{newline_len, begins_newline, escaped_len, line_unit, comment_unit, indent_len, logical_len, Raw, raw_past, ended_past}
use Rattle.plan_text.specs.Runs.{and_more, run_past, run}
use Rattle.plan_text.proofs.CoverLaw.{logical_within, newline_within}

-- a newline stays the same, whatever follows
newline_alone : (b : ℕ) (t : List ℕ) (f g : Bool) → 0 < cond f 1 (cond (g && false) 2 0) → cond {A = ℕ} f 1 (cond (g && begins_with 10 t) 2 0) ≡ cond f 1 (cond (g && false) 2 0)
newline_alone b t true g h = refl
newline_alone b t false true h = absurd (omega arith)
newline_alone b t false false h = absurd (omega arith)

newline_stays : (s t : List ℕ) → 0 < newline_len s → newline_len (s ++ t) ≡ newline_len s
newline_stays [] t h = absurd (omega arith)
newline_stays (b ∷ []) t h = newline_alone b t (eqb b 10) (eqb b 13) h
newline_stays (b ∷ c ∷ s) t h = refl

-- a newline follows the first n bytes of the text
abbrev EndsAt : List ℕ → ℕ → Type 0
EndsAt s n = 0 < newline_len (drop n s)

-- a unit before a newline stays the same, whatever follows
comment_last : (b : ℕ) (t : List ℕ) (f : Bool) → begins_newline (b ∷ []) ≡ f → EndsAt (b ∷ []) (and_more (cond f 0 1) (λ n. 0)) → comment_unit (b ∷ t) ≡ cond {A = ℕ} f 0 1
comment_last b t true e h = rw (newline_stays (b ∷ []) t (ltb-true 0 (newline_len (b ∷ [])) e), e) refl
comment_last b t false e h = absurd (omega arith)

comment_stays : (s t : List ℕ) → EndsAt s (run comment_unit s) → comment_unit (s ++ t) ≡ comment_unit s
comment_stays [] t h = absurd (omega arith)
comment_stays (b ∷ []) t h = comment_last b t (begins_newline (b ∷ [])) refl h
comment_stays (b ∷ c ∷ s) t h = refl

line_last : (b : ℕ) (t : List ℕ) (f d : Bool) → begins_newline (b ∷ []) ≡ f → EndsAt (b ∷ []) (and_more (cond f 0 (cond d 1 1)) (λ n. 0)) → line_unit (b ∷ t) ≡ cond {A = ℕ} f 0 (cond d 1 1)
line_last b t true d e h = rw (newline_stays (b ∷ []) t (ltb-true 0 (newline_len (b ∷ [])) e), e) refl
line_last b t false true e h = absurd (omega arith)
line_last b t false false e h = absurd (omega arith)

taken_last : (b c : ℕ) (t : List ℕ) (f d v : Bool) → begins_newline (c ∷ []) ≡ v
    → EndsAt (b ∷ c ∷ []) (and_more (cond f 0 (cond d (suc (cond v (newline_len (c ∷ [])) 1)) 1)) (λ n. run_past line_unit (c ∷ []) n))
    → cond {A = ℕ} f 0 (cond d (suc (escaped_len (c ∷ t))) 1) ≡ cond f 0 (cond d (suc (cond v (newline_len (c ∷ [])) 1)) 1)
taken_last b c t true d v e h = refl
taken_last b c t false false v e h = refl
taken_last b c t false true true e h = rw (newline_stays (c ∷ []) t (ltb-true 0 (newline_len (c ∷ [])) e), e) refl
taken_last b c t false true false e h = absurd (omega arith)

line_stays : (s t : List ℕ) → EndsAt s (run line_unit s) → line_unit (s ++ t) ≡ line_unit s
line_stays [] t h = absurd (omega arith)
line_stays (b ∷ []) t h = line_last b t (begins_newline (b ∷ [])) (b == dollar) refl h
line_stays (b ∷ c ∷ []) t h = taken_last b c t (begins_newline (b ∷ c ∷ [])) (b == dollar) (begins_newline (c ∷ [])) refl h
line_stays (b ∷ c ∷ d ∷ s) t h = refl

run_stays : (size : List ℕ → ℕ) → ((s t : List ℕ) → EndsAt s (run size s) → size (s ++ t) ≡ size s) → (s t : List ℕ) (n : ℕ) → EndsAt s (run_past size s n) → run_past size (s ++ t) n ≡ run_past size s n
run_stays size same [] t n h = absurd (omega arith)
run_stays size same (b ∷ rest) t (suc n) h = ap suc (run_stays size same rest t n h)
run_stays size same (b ∷ rest) t zero h =
    ap (λ (k : ℕ). and_more k (λ n. run_past size (rest ++ t) n)) (same (b ∷ rest) t h) ∙ by (size (b ∷ rest)) h (λ n k. run_stays size same rest t n k)
  where
    by : (k : ℕ) → EndsAt (b ∷ rest) (and_more k (λ n. run_past size rest n)) → ((n : ℕ) → EndsAt rest (run_past size rest n) → run_past size (rest ++ t) n ≡ run_past size rest n)
        → and_more k (λ n. run_past size (rest ++ t) n) ≡ and_more k (λ n. run_past size rest n)
    by zero h more = refl
    by (suc n) h more = ap suc (more n h)

-- an indent before a newline ends within the text
indent_less : (s : List ℕ) (n : ℕ) → EndsAt s n → indent_len s < length s
indent_less [] zero h = absurd (omega arith)
indent_less [] (suc n) h = absurd (omega arith)
indent_less (b ∷ rest) n h = by n (is_space b) refl h (λ m k. indent_less rest m k) where
  by : (n : ℕ) (t : Bool) → is_space b ≡ t → EndsAt (b ∷ rest) n → ((m : ℕ) → EndsAt rest m → indent_len rest < length rest) → cond t (1 + indent_len rest) 0 < suc (length rest)
  by n false e h more = omega arith
  by zero true e h more = let no : 0 < 0 = subst (λ (k : ℕ). 0 < newline_len (k ∷ rest)) (eqb-true b space e) h in absurd (omega (arith, no))
  by (suc m) true e h more = let l = more m h in omega (arith, l)

indent_stays : (s t : List ℕ) → indent_len s < length s → indent_len (s ++ t) ≡ indent_len s
indent_stays [] t h = absurd (omega arith)
indent_stays (b ∷ rest) t h = by (is_space b) h (λ k. indent_stays rest t k) where
  by : (f : Bool) → cond f (1 + indent_len rest) 0 < suc (length rest) → (indent_len rest < length rest → indent_len (rest ++ t) ≡ indent_len rest) → cond f (1 + indent_len (rest ++ t)) 0 ≡ cond f (1 + indent_len rest) 0
  by true h more = ap (λ (k : ℕ). 1 + k) (more (omega (arith, h)))
  by false h more = refl

begins_stays : (b : ℕ) (s t : List ℕ) → 0 < length s → begins_with b (s ++ t) ≡ begins_with b s
begins_stays b [] t h = absurd (omega arith)
begins_stays b (c ∷ s) t h = refl

logical_by : (s t : List ℕ) (f : Bool) → indent_len (s ++ t) ≡ indent_len s → indent_len s < length s
    → EndsAt s (cond f (indent_len s + run comment_unit (drop (indent_len s) s)) (run line_unit s))
    → cond f (indent_len (s ++ t) + run comment_unit (drop (indent_len (s ++ t)) (s ++ t))) (run line_unit (s ++ t)) ≡ cond f (indent_len s + run comment_unit (drop (indent_len s) s)) (run line_unit s)
logical_by s t false i l h = run_stays line_unit line_stays s t 0 h
logical_by s t true i l h =
    let n = indent_len s in
    let d : drop (indent_len (s ++ t)) (s ++ t) ≡ drop n s ++ t = ap (λ (k : ℕ). drop k (s ++ t)) i ∙ drop-append-le n s t (omega (arith, l)) in
    let e : EndsAt (drop n s) (run comment_unit (drop n s)) = subst (λ (v : List ℕ). 0 < newline_len v) (sym (drop-drop (run comment_unit (drop n s)) n s)) h in
    let r : run comment_unit (drop (indent_len (s ++ t)) (s ++ t)) ≡ run comment_unit (drop n s) = ap (run comment_unit) d ∙ run_stays comment_unit comment_stays (drop n s) t 0 e in
    omega (arith, i, r)

-- a logical line that a newline ends stays the same, whatever follows
logical_stays : (s t : List ℕ) → EndsAt s (logical_len s) → logical_len (s ++ t) ≡ logical_len s
logical_stays s t h =
    let l = indent_less s (logical_len s) h in
    let i = indent_stays s t l in
    let n = indent_len s in
    let d : drop (indent_len (s ++ t)) (s ++ t) ≡ drop n s ++ t = ap (λ (k : ℕ). drop k (s ++ t)) i ∙ drop-append-le n s t (omega (arith, l)) in
    let some : 0 < length (drop n s) = omega (arith, l, length-drop n s) in
    let b : begins_with hash (drop (indent_len (s ++ t)) (s ++ t)) ≡ begins_with hash (drop n s) = ap (begins_with hash) d ∙ begins_stays hash (drop n s) t some in
    ap (λ (f : Bool). cond f (indent_len (s ++ t) + run comment_unit (drop (indent_len (s ++ t)) (s ++ t))) (run line_unit (s ++ t))) b
    ∙ logical_by s t (begins_with hash (drop n s)) i l h

and_parts : (x y : Bool) → (x && y) ≡ true → (x ≡ true) × (y ≡ true)
and_parts true y e = (refl, e)
and_parts false y e = cc

-- the lines of a text after its first n bytes, followed by those of an appended text
joined_past : (at : ℕ) (s t : List ℕ) (n : ℕ) → n ≤ length s → ended_past s n ≡ true → raw_past at (s ++ t) n ≡ raw_past at s n ++ raw_past (at + length s) t 0
joined_past at [] t zero w h = let e : at ≡ at + 0 = omega arith in ap (λ (k : ℕ). raw_past k t 0) e
joined_past at [] t (suc n) w h = absurd (omega arith)
joined_past at (b ∷ rest) t (suc n) w h =
    let e : at + 1 + length rest ≡ at + suc (length rest) = omega arith in
    joined_past (at + 1) rest t n (omega arith) h ∙ ap (λ (k : ℕ). raw_past (at + 1) rest n ++ raw_past k t 0) e
joined_past at (b ∷ rest) t zero w h =
    let s = b ∷ rest in
    let len = logical_len s in
    let parts = and_parts (begins_newline (drop len s)) (ended_past rest (len + newline_len (drop len s) - 1)) h in
    let ends : EndsAt s len = ltb-true 0 (newline_len (drop len s)) parts.0 in
    let within = logical_within s in
    let l = length-drop len s in
    let second = newline_within (drop len s) in
    let same = logical_stays s t ends in
    let line : take (logical_len (s ++ t)) (s ++ t) ≡ take len s = ap (λ (k : ℕ). take k (s ++ t)) same ∙ take-append-le len s t within in
    let newline : newline_len (drop (logical_len (s ++ t)) (s ++ t)) ≡ newline_len (drop len s) =
    ap (λ (k : ℕ). newline_len (drop k (s ++ t))) same ∙ ap newline_len (drop-append-le len s t within) ∙ newline_stays (drop len s) t ends in
    let size : logical_len (s ++ t) + newline_len (drop (logical_len (s ++ t)) (s ++ t)) - 1 ≡ len + newline_len (drop len s) - 1 = omega (arith, same, newline) in
    let e : at + 1 + length rest ≡ at + suc (length rest) = omega arith in
    ap (λ (v : List ℕ). record { at = at; bytes = v } ∷ raw_past (at + 1) (rest ++ t) (logical_len (s ++ t) + newline_len (drop (logical_len (s ++ t)) (s ++ t)) - 1)) line
    ∙ ap (λ (k : ℕ). record { at = at; bytes = take len s } ∷ raw_past (at + 1) (rest ++ t) k) size
    ∙ ap (λ (v : List Raw). record { at = at; bytes = take len s } ∷ v) (joined_past (at + 1) rest t (len + newline_len (drop len s) - 1) (omega (arith, within, l, second)) parts.1)
    ∙ ap (λ (k : ℕ). record { at = at; bytes = take len s } ∷ (raw_past (at + 1) rest (len + newline_len (drop len s) - 1) ++ raw_past k t 0)) e

-- if all lines of a text are ended, an appended text keeps its lines
pub joined : (at : ℕ) (s t : List ℕ) (n : ℕ) → ended_past s 0 ≡ true → raw_past at (s ++ t) 0 ≡ raw_past at s 0 ++ raw_past (at + length s) t 0
joined at s t n h = joined_past at s t 0 (omega arith) h
