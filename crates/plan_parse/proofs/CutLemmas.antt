-- An escape stays the same if the text is cut after it. Lemmas for src/path_parts.rt.
use Rattle.std.proofs.Common.{◌≡◌, ℕ, zero, suc, ◌+◌, ◌<◌, ◌≤◌, ◌==◌, Bool, true, false, ◌||◌, ◌&&◌, ◌⊎◌, inl, inr, cond, List, [], ◌∷◌, length, take, drop, Option, Some, None, refl, sym, ap, subst, ◌∙◌, arith}
use Rattle.std.specs.List.{prefix_len, take_while}
use Rattle.std.proofs.lemmas.Bool.{cases_lt}
use Rattle.std.proofs.lemmas.List.{take-take}
use Rattle.std.proofs.lemmas.List.Folds.{length-prefix_len}
use Rattle.plan_text.specs.Bytes.{dollar, space, colon, line_feed, carriage_return, left_brace, right_brace, is_name_byte, is_bare_name_byte, is_space, begins_with}
use Rattle.plan_text.specs.Pieces.{Sign, Byte, Name, Nothing, braced_name, bare_name, escape}

-- the number of bytes that pass a test, if the cut is after them
prefix_cut : (p : ℕ → Bool) (v : List ℕ) (m : ℕ) → prefix_len p v ≤ m → prefix_len p (take m v) ≡ prefix_len p v
prefix_cut p [] zero h = refl
prefix_cut p [] (suc m) h = refl
prefix_cut p (b ∷ rest) zero h = omega (arith, h)
prefix_cut p (b ∷ rest) (suc m) h = by (p b) h (prefix_cut p rest m) where
  by : (t : Bool) → cond t (1 + prefix_len p rest) 0 ≤ suc m → (prefix_len p rest ≤ m → prefix_len p (take m rest) ≡ prefix_len p rest) → cond t (1 + prefix_len p (take m rest)) 0 ≡ cond t (1 + prefix_len p rest) 0
  by true l more = ap (λ (k : ℕ). 1 + k) (more (omega (arith, l)))
  by false l more = refl

-- the bytes that pass a test, if the cut is after them
while_cut : (p : ℕ → Bool) (v : List ℕ) (m : ℕ) → prefix_len p v ≤ m → take_while p (take m v) ≡ take_while p v
while_cut p v m h = ap (λ (k : ℕ). take k (take m v)) (prefix_cut p v m h) ∙ take-take (prefix_len p v) m v h

-- nothing is left of a text that is cut within them
nothing_left : (p : ℕ → Bool) (v : List ℕ) (m : ℕ) → m ≤ prefix_len p v → drop (prefix_len p (take m v)) (take m v) ≡ []
nothing_left p [] zero h = refl
nothing_left p [] (suc m) h = refl
nothing_left p (b ∷ rest) zero h = refl
nothing_left p (b ∷ rest) (suc m) h = by (p b) h (nothing_left p rest m) where
  by : (t : Bool) → suc m ≤ cond t (1 + prefix_len p rest) 0 → (m ≤ prefix_len p rest → drop (prefix_len p (take m rest)) (take m rest) ≡ []) → drop (cond t (1 + prefix_len p (take m rest)) 0) (b ∷ take m rest) ≡ []
  by true l more =
      let one : 1 + prefix_len p (take m rest) ≡ suc (prefix_len p (take m rest)) = omega arith in
      ap (λ (k : ℕ). drop k (b ∷ take m rest)) one ∙ more (omega (arith, l))
  by false l more = absurd (omega (arith, l))

-- a byte before the cut
begins_cut : (c : ℕ) (v : List ℕ) (n m : ℕ) → n < m → begins_with c (drop n (take m v)) ≡ begins_with c (drop n v)
begins_cut c v n zero h = absurd (omega (arith, h))
begins_cut c [] n (suc m) h = refl
begins_cut c (b ∷ rest) zero (suc m) h = refl
begins_cut c (b ∷ rest) (suc n) (suc m) h = begins_cut c rest n m (omega (arith, h))

-- an escape stays the same if the text is cut after it, and no escape stays none
pub record Survives (m : ℕ) (whole cut : Option (Sign × ℕ)) : Type 0 where
  pub some : (x : Sign × ℕ) → whole ≡ Some x → x.1 ≤ m → cut ≡ Some x
  pub none : whole ≡ None → cut ≡ None

-- the number of bytes that it takes
abbrev size_or_none : Option (Sign × ℕ) → ℕ
size_or_none None = 0
size_or_none (Some x) = x.1

same : (m : ℕ) (whole cut : Option (Sign × ℕ)) → whole ≡ cut → Survives m whole cut
same m whole cut e = record { some = λ x h l. sym e ∙ h; none = λ h. sym e ∙ h }

counted : (m : ℕ) (s : Sign) (n k : ℕ) → (n ≤ m → k ≡ n) → Survives m (Some (s, n)) (Some (s, k))
counted m s n k e = record {
  some = λ x h l.
      let size : n ≡ x.1 = ap size_or_none h in
      ap (λ (j : ℕ). Some (s, j)) (e (omega (arith, size, l))) ∙ h;
  none = λ h. absurd cc;
}

long : (m : ℕ) (s : Sign) (n : ℕ) (cut : Option (Sign × ℕ)) → m < n → Survives m (Some (s, n)) cut
long m s n cut more = record {
  some = λ x h l.
      let size : n ≡ x.1 = ap size_or_none h in
      absurd (omega (arith, size, l, more));
  none = λ h. absurd cc;
}

both : (m : ℕ) (t : Bool) (a b c d : Option (Sign × ℕ)) → Survives m a c → Survives m b d → Survives m (cond t a b) (cond t c d)
both m true a b c d x y = x
both m false a b c d x y = y

either : (m : ℕ) (t : Bool) (a b c : Option (Sign × ℕ)) → Survives m a c → Survives m b c → Survives m (cond t a b) c
either m true a b c x y = x
either m false a b c x y = y

-- a newline of two bytes
return_survives : (r : Bool) (v : List ℕ) (m : ℕ) (a b : Option (Sign × ℕ)) → Survives (suc m) a b
    → Survives (suc m) (cond (r && begins_with line_feed v) (Some (Nothing, 2 + prefix_len is_space (drop 1 v))) a) (cond (r && begins_with line_feed (take m v)) (Some (Nothing, 2 + prefix_len is_space (drop 1 (take m v)))) b)
return_survives true [] zero a b h = h
return_survives true [] (suc m) a b h = h
return_survives false v m a b h = h
return_survives true (c ∷ v) zero a b h = either 1 (c == line_feed) (Some (Nothing, 2 + prefix_len is_space v)) a b (long 1 Nothing (2 + prefix_len is_space v) b (omega arith)) h
return_survives true (c ∷ v) (suc m) a b h =
    both (suc (suc m)) (c == line_feed) (Some (Nothing, 2 + prefix_len is_space v)) a (Some (Nothing, 2 + prefix_len is_space (take m v))) b
    (counted (suc (suc m)) Nothing (2 + prefix_len is_space v) (2 + prefix_len is_space (take m v)) (λ l. ap (λ (k : ℕ). 2 + k) (prefix_cut is_space v m (omega (arith, l)))))
    h

-- a name in braces
long_brace : (m : ℕ) (name tail : List ℕ) → m < length name + 2 → Survives m (braced_name name tail) None
long_brace m [] tail h = same m None None refl
long_brace m (b ∷ name) tail h =
    either m (begins_with right_brace tail) (Some (Name (b ∷ name), length (b ∷ name) + 2)) None None (long m (Name (b ∷ name)) (length (b ∷ name) + 2) None h) (same m None None refl)

no_brace : (name : List ℕ) → braced_name name [] ≡ None
no_brace [] = refl
no_brace (b ∷ name) = refl

same_brace : (name tail rest : List ℕ) → begins_with right_brace tail ≡ begins_with right_brace rest → braced_name name tail ≡ braced_name name rest
same_brace [] tail rest e = refl
same_brace (b ∷ name) tail rest e = ap (λ (t : Bool). cond {A = Option (Sign × ℕ)} t (Some (Name (b ∷ name), length (b ∷ name) + 2)) None) e

brace_survives : (p : ℕ → Bool) (v : List ℕ) (m : ℕ)
    → Survives (suc m) (braced_name (take_while p v) (drop (prefix_len p v) v)) (braced_name (take_while p (take m v)) (drop (prefix_len p (take m v)) (take m v)))
brace_survives p v m = by (cases_lt (prefix_len p v) m) where
  whole : Option (Sign × ℕ)
  whole = braced_name (take_while p v) (drop (prefix_len p v) v)

  cut : Option (Sign × ℕ)
  cut = braced_name (take_while p (take m v)) (drop (prefix_len p (take m v)) (take m v))

  inside : prefix_len p v < m → Survives (suc m) whole cut
  inside l =
      let fits : prefix_len p v ≤ m = omega (arith, l) in
      let name : take_while p (take m v) ≡ take_while p v = while_cut p v m fits in
      let tail : begins_with right_brace (drop (prefix_len p v) (take m v)) ≡ begins_with right_brace (drop (prefix_len p v) v) = begins_cut right_brace v (prefix_len p v) m l in
      same (suc m) whole cut
      (sym (ap (λ (n : List ℕ). braced_name n (drop (prefix_len p (take m v)) (take m v))) name
      ∙ ap (λ (k : ℕ). braced_name (take_while p v) (drop k (take m v))) (prefix_cut p v m fits)
      ∙ same_brace (take_while p v) (drop (prefix_len p v) (take m v)) (drop (prefix_len p v) v) tail))

  outside : m ≤ prefix_len p v → Survives (suc m) whole cut
  outside l =
      let size = length-prefix_len p v in
      let none : cut ≡ None = ap (braced_name (take_while p (take m v))) (nothing_left p v m l) ∙ no_brace (take_while p (take m v)) in
      subst (λ (o : Option (Sign × ℕ)). Survives (suc m) whole o) (sym none) (long_brace (suc m) (take_while p v) (drop (prefix_len p v) v) (omega (arith, size, l)))

  by : (prefix_len p v < m) ⊎ (m ≤ prefix_len p v) → Survives (suc m) whole cut
  by h =
      elim h [
        | inl l ↦ inside l
        | inr l ↦ outside l
      ]

-- a name without braces
bare_size : (name : List ℕ) (x : Sign × ℕ) → bare_name name ≡ Some x → length name ≡ x.1
bare_size [] x h = absurd cc
bare_size (b ∷ name) x h = ap size_or_none h

bare_none : (name : List ℕ) → bare_name name ≡ None → length name ≡ 0
bare_none [] h = refl
bare_none (b ∷ name) h = absurd cc

bare_survives : (p : ℕ → Bool) (v : List ℕ) (m : ℕ) → Survives m (bare_name (take_while p v)) (bare_name (take_while p (take m v)))
bare_survives p v m = record {
  some = λ x h l.
      let size = bare_size (take_while p v) x h in
      let all = length-prefix_len p v in
      ap bare_name (while_cut p v m (omega (arith, size, all, l))) ∙ h;
  none = λ h.
      let size = bare_none (take_while p v) h in
      let all = length-prefix_len p v in
      ap bare_name (while_cut p v m (omega (arith, size, all))) ∙ h;
}

long_bare : (name : List ℕ) → Survives 0 (bare_name name) None
long_bare [] = same 0 None None refl
long_bare (b ∷ name) = long 0 (Name (b ∷ name)) (length (b ∷ name)) None (omega arith)

-- an escape in a text that is cut
pub escape_survives : (v : List ℕ) (m : ℕ) → Survives m (escape v) (escape (take m v))
escape_survives [] zero = same 0 None None refl
escape_survives [] (suc m) = same (suc m) None None refl
escape_survives (b ∷ rest) zero =
    either 0 (b == dollar || b == space || b == colon) _ _ None (long 0 (Byte b) 1 None (omega arith))
    (either 0 (b == line_feed) _ _ None (long 0 Nothing (1 + prefix_len is_space rest) None (omega arith))
    (either 0 (b == carriage_return && begins_with line_feed rest) _ _ None (long 0 Nothing (2 + prefix_len is_space (drop 1 rest)) None (omega arith))
    (either 0 (b == left_brace) _ _ None (long_brace 0 (take_while is_name_byte rest) (drop (prefix_len is_name_byte rest) rest) (omega arith))
    (long_bare (take_while is_bare_name_byte (b ∷ rest))))))
escape_survives (b ∷ rest) (suc m) =
    both (suc m) (b == dollar || b == space || b == colon) _ _ _ _ (same (suc m) (Some (Byte b, 1)) (Some (Byte b, 1)) refl)
    (both (suc m) (b == line_feed) _ _ _ _
    (counted (suc m) Nothing (1 + prefix_len is_space rest) (1 + prefix_len is_space (take m rest)) (λ l. ap (λ (k : ℕ). 1 + k) (prefix_cut is_space rest m (omega (arith, l)))))
    (return_survives (b == carriage_return) rest m _ _
    (both (suc m) (b == left_brace) _ _ _ _ (brace_survives is_name_byte rest m) (bare_survives is_bare_name_byte (b ∷ rest) (suc m)))))
