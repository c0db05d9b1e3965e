-- Lemmas about the paths that words name. Serves src/paths.rt.
use Rattle.std.proofs.Common.{◌≡◌, ◌⊎◌, ◌<◌, ◌+◌, ◌==◌, ◌∙◌, ◌++◌, ◌∷◌, [], ℕ, zero, suc, Bool, true, false, Option, Some, None, if◌then◌else◌, refl, ap, subst, arith, inl, inr, length, option_map}
use Rattle.std.proofs.lemmas.Bool.{cases_order}
use Rattle.plan_scope.specs.Scopes.{or_else}
use Rattle.plan_graph.specs.Files.{Path}
use Rattle.plan_build_tools.specs.Naming.{before_caret, first_below}

found_now : (f : ℕ → Option ℕ) (n e o : ℕ) → e ≡ n → first_below e f ≡ None → f e ≡ Some o → or_else (first_below n f) (f n) ≡ Some o
found_now f n e o same none is = subst (λ (k : ℕ). or_else (first_below k f) (f k) ≡ Some o) same (ap (λ (x : Option ℕ). or_else x (f e)) none ∙ is)

-- A value that follows none is the first below each greater number.
pub first_found : (f : ℕ → Option ℕ) (n e o : ℕ) → first_below e f ≡ None → f e ≡ Some o → e < n → first_below n f ≡ Some o
first_found f zero e o none is below = absurd (omega (arith, below))
first_found f (suc n) e o none is below = by (cases_order e n) (λ less. first_found f n e o none is less)
  where
    by : (e ≡ n) ⊎ ((e < n) ⊎ (n < e)) → (e < n → first_below n f ≡ Some o) → or_else (first_below n f) (f n) ≡ Some o
    by (inl same) before = found_now f n e o same none is
    by (inr (inl less)) before = ap (λ (x : Option ℕ). or_else x (f n)) (before less)
    by (inr (inr more)) before = absurd (omega (arith, below, more))

-- If none of the values below a number is there, and neither is the next, then none is below the next number.
pub none_more : (f : ℕ → Option ℕ) (n : ℕ) → first_below n f ≡ None → f n ≡ None → first_below (n + 1) f ≡ None
none_more f n none is = let same : n + 1 ≡ suc n = omega arith in rw same (ap (λ (x : Option ℕ). or_else x (f n)) none ∙ is)

-- ---- a `^` at the end

map_if : (c : Bool) (b : ℕ) (front : Path) → option_map (λ x. b ∷ x) (if c then Some front else None) ≡ (if c then Some (b ∷ front) else None)
map_if true b front = refl
map_if false b front = refl

at_end : (front : Path) (x : ℕ) → before_caret (front ++ x ∷ []) ≡ (if x == 94 then Some front else None)
at_end [] x = refl
at_end (b ∷ []) x = map_if (x == 94) b []
at_end (b ∷ c ∷ more) x = ap (option_map (λ (y : Path). b ∷ y)) (at_end (c ∷ more) x) ∙ map_if (x == 94) b (c ∷ more)

pub caret_found : (path front : Path) (x : ℕ) → path ≡ front ++ x ∷ [] → x == 94 ≡ true → before_caret path ≡ Some front
caret_found path front x is caret = ap before_caret is ∙ (at_end front x ∙ ap (λ (c : Bool). if c then Some front else None) caret)

pub caret_missed : (path front : Path) (x : ℕ) → path ≡ front ++ x ∷ [] → x == 94 ≡ false → before_caret path ≡ None
caret_missed path front x is other = ap before_caret is ∙ (at_end front x ∙ ap (λ (c : Bool). if c then Some front else None) other)

pub caret_of_none : (path : Path) → length path ≡ 0 → before_caret path ≡ None
caret_of_none [] is = refl
caret_of_none (b ∷ more) is = absurd cc
