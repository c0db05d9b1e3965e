-- The first item of two lists, one after the other, at which a test returns true.
use Rattle.std.proofs.Common.{◌≡◌, ℕ, suc, ◌+◌, Bool, true, false, List, [], ◌∷◌, ◌++◌, length, Option, Some, None, refl, sym, ap, ◌∙◌, arith}
use Rattle.std.specs.Prelude.{if◌then◌else◌, bytes_eq, ◌&&◌, ◌==◌}
use Rattle.plan_verify.specs.Turn.{same_text}
use Rattle.plan_reasons.specs.Reasons.{first_at}

abbrev moved : ℕ → Option ℕ → Option ℕ
moved k None = None
moved k (Some n) = Some (k + n)

moved_later : (test : ℕ → Bool) (k n : ℕ) (ts : List ℕ) → first_at test (k + n) ts ≡ moved k (first_at test n ts)
moved_later test k n [] = refl
moved_later test k n (t ∷ ts) = by (test t) (moved_later test k (suc n) ts)
  where
    by : (b : Bool) → first_at test (k + suc n) ts ≡ moved k (first_at test (suc n) ts) → (if b then Some (k + n) else first_at test (suc (k + n)) ts) ≡ moved k (if b then Some n else first_at test (suc n) ts)
    by true more = refl
    by false more = let next : suc (k + n) ≡ k + suc n = omega arith in ap (λ (m : ℕ). first_at test m ts) next ∙ more

abbrev or_first : Option ℕ → Option ℕ → Option ℕ
or_first (Some n) other = Some n
or_first None other = other

in_both : (test : ℕ → Bool) (n : ℕ) (xs ys : List ℕ) → first_at test n (xs ++ ys) ≡ or_first (first_at test n xs) (first_at test (length xs + n) ys)
in_both test n [] ys = let same : n ≡ 0 + n = omega arith in ap (λ (m : ℕ). first_at test m ys) same
in_both test n (x ∷ xs) ys = by (test x) (in_both test (suc n) xs ys)
  where
    by : (b : Bool) → first_at test (suc n) (xs ++ ys) ≡ or_first (first_at test (suc n) xs) (first_at test (length xs + suc n) ys)
        → (if b then Some n else first_at test (suc n) (xs ++ ys)) ≡ or_first (if b then Some n else first_at test (suc n) xs) (first_at test (suc (length xs) + n) ys)
    by true more = refl
    by false more = let next : length xs + suc n ≡ suc (length xs) + n = omega arith in more ∙ ap (λ (m : ℕ). or_first (first_at test (suc n) xs) (first_at test m ys)) next

both : (test : ℕ → Bool) (xs ys : List ℕ) → first_at test 0 (xs ++ ys) ≡ or_first (first_at test 0 xs) (moved (length xs) (first_at test 0 ys))
both test xs ys = in_both test 0 xs ys ∙ ap (λ (o : Option ℕ). or_first (first_at test 0 xs) o) (moved_later test (length xs) 0 ys)

pub both_found : (test : ℕ → Bool) (xs ys : List ℕ) (n : ℕ) → Some n ≡ first_at test 0 xs → Some n ≡ first_at test 0 (xs ++ ys)
both_found test xs ys n h = ap (λ (o : Option ℕ). or_first o (moved (length xs) (first_at test 0 ys))) h ∙ sym (both test xs ys)

pub both_later : (test : ℕ → Bool) (xs ys : List ℕ) (n : ℕ) → None ≡ first_at test 0 xs → Some n ≡ first_at test 0 ys → Some (length xs + n) ≡ first_at test 0 (xs ++ ys)
both_later test xs ys n h k =
    ap (λ (o : Option ℕ). or_first None (moved (length xs) o)) k ∙ ap (λ (o : Option ℕ). or_first o (moved (length xs) (first_at test 0 ys))) h ∙ sym (both test xs ys)

pub both_nowhere : (test : ℕ → Bool) (xs ys : List ℕ) → None ≡ first_at test 0 xs → None ≡ first_at test 0 ys → None ≡ first_at test 0 (xs ++ ys)
both_nowhere test xs ys h k =
    ap (λ (o : Option ℕ). or_first None (moved (length xs) o)) k ∙ ap (λ (o : Option ℕ). or_first o (moved (length xs) (first_at test 0 ys))) h ∙ sym (both test xs ys)

-- ---- texts

pub same_bytes : (a b : List ℕ) → same_text a b ≡ bytes_eq a b
same_bytes [] [] = refl
same_bytes [] (b ∷ bs) = refl
same_bytes (a ∷ as') [] = refl
same_bytes (a ∷ as') (b ∷ bs) = ap (λ (x : Bool). (a == b) && x) (same_bytes as' bs)
