-- The distance of texts, and the best of some words. Serves src/suggestion.rt.
use Rattle.std.proofs.Common.{◌≡◌, ℕ, zero, suc, ◌+◌, ◌<◌, ◌≤◌, List, [], ◌∷◌, ◌++◌, Option, Some, None, Bool, false, min, subst, slice_get, length, take, get_or, arith, refl, sym, ap, ◌∙◌, inl, inr}
use Rattle.std.specs.Prelude.{nat_eq, nat_lt, reverse, if◌then◌else◌}
use Rattle.std.specs.Int.{abs_diff}
use Rattle.std.proofs.lemmas.Bool.{cases_lt, le-ltb, lt-ltb}
use Rattle.std.proofs.lemmas.Bool.Decides.{nat_tests}
use Rattle.std.proofs.lemmas.Int.{clamps}
use Rattle.std.proofs.lemmas.List.{length-reverse, length-take-le, reverse-append, reverse-reverse, take_all, take_more}
use Rattle.strsim.specs.Edits.{cost, cost_at, levenshtein_row}
use Rattle.strsim.proofs.EditLemmas.{cell_step, cost_at_is, row_first, row_none}
use Rattle.plan_tools.specs.Suggestion.{IsBest, IsFound, Suggests, best, distance_at, distance_from_ends, edit_distance}

-- a step of the table from equal cells
same_step : (a b c d e f k l : ℕ) → a ≡ d → b ≡ e → c ≡ f → k ≡ l → min (a + 1) (min (b + k) (c + 1)) ≡ min (d + 1) (min (e + l) (f + 1))
same_step a b c d e f k l p q r s = cc

-- the table has the distance of a text and a front of another one
row_is : (rs ys : List ℕ) (j : ℕ) → j ≤ length ys → levenshtein_row nat_eq (reverse rs) ys j ≡ distance_from_ends rs (reverse (take j ys))
row_is [] ys j within =
    let long : length (reverse (take j ys)) ≡ j = length-reverse (take j ys) ∙ length-take-le j ys within in
    row_none nat_eq ys j ∙ sym long
row_is (x ∷ rs) ys zero within =
    let long : length (reverse (x ∷ rs)) ≡ length (x ∷ rs) = length-reverse (x ∷ rs) in
    let first : levenshtein_row nat_eq (reverse (x ∷ rs)) ys 0 ≡ 0 + length (reverse (x ∷ rs)) = row_first nat_eq (reverse (x ∷ rs)) ys 0 (λ k. k) refl in
    omega (arith, first, long)
row_is (x ∷ rs) ys (suc j) within =
    let y : ℕ = get_or ys j 0 in
    let front : List ℕ = reverse (take j ys) in
    let lt : j < length ys = omega (arith, within) in
    let le : j ≤ length ys = omega (arith, within) in
    let next : suc j ≡ j + 1 = omega arith in
    let snoc : reverse (x ∷ rs) ≡ reverse rs ++ x ∷ [] = reverse-append (x ∷ []) rs in
    let ends : reverse (take (suc j) ys) ≡ y ∷ front = ap (λ (k : ℕ). reverse (take k ys)) next ∙ (ap reverse (take_more ys j 0 lt) ∙ reverse-append (take j ys) (y ∷ [])) in
    let row : List ℕ → ℕ → ℕ = λ xs k. levenshtein_row nat_eq xs ys k in
    let one : row (reverse rs ++ x ∷ []) j ≡ distance_from_ends (x ∷ rs) front = ap (λ (zs : List ℕ). row zs j) (sym snoc) ∙ row_is (x ∷ rs) ys j le in
    let two : row (reverse rs) j ≡ distance_from_ends rs front = row_is rs ys j le in
    let three : row (reverse rs) (suc j) ≡ distance_from_ends rs (y ∷ front) = row_is rs ys (suc j) within ∙ ap (distance_from_ends rs) ends in
    ap (λ (zs : List ℕ). row zs (suc j)) snoc
    ∙ (cell_step nat_eq (reverse rs) ys x j
    ∙ (same_step (row (reverse rs ++ x ∷ []) j) (row (reverse rs) j) (row (reverse rs) (suc j))
    (distance_from_ends (x ∷ rs) front) (distance_from_ends rs front) (distance_from_ends rs (y ∷ front)) (cost_at nat_eq x ys j) (cost nat_eq x y)
    one two three (cost_at_is nat_eq x ys j 0 lt)
    ∙ ap (distance_from_ends (x ∷ rs)) (sym ends)))

-- the last cell of the table is the distance
pub distance_is : (xs ys : List ℕ) → levenshtein_row nat_eq xs ys (length ys) ≡ edit_distance xs ys
distance_is xs ys =
    let all : length ys ≤ length ys = omega arith in
    ap (λ (zs : List ℕ). levenshtein_row nat_eq zs ys (length ys)) (sym (reverse-reverse xs))
    ∙ (row_is (reverse xs) ys (length ys) all ∙ ap (λ (zs : List ℕ). distance_from_ends (reverse xs) (reverse zs)) (take_all (length ys) ys all))

-- texts are at least as far apart as their lengths
long_apart : (xs ys : List ℕ) → (length xs ≤ distance_from_ends xs ys + length ys) × (length ys ≤ distance_from_ends xs ys + length xs)
long_apart [] ys = (omega arith, omega arith)
long_apart (x ∷ xs) [] = (omega arith, omega arith)
long_apart (x ∷ xs) (y ∷ ys) =
    let one = long_apart (x ∷ xs) ys in
    let two = long_apart xs ys in
    let three = long_apart xs (y ∷ ys) in
    (omega (arith, clamps, one.0, two.0, three.0), omega (arith, clamps, one.1, two.1, three.1))

-- texts whose lengths differ by so much are not closer
pub far_apart : (xs ys : List ℕ) (limit : ℕ) → limit ≤ abs_diff (length xs) (length ys) → nat_lt (edit_distance xs ys) limit ≡ false
far_apart xs ys limit far =
    let apart = long_apart (reverse xs) (reverse ys) in
    let left : length (reverse xs) ≡ length xs = length-reverse xs in
    let right : length (reverse ys) ≡ length ys = length-reverse ys in
    le-ltb (edit_distance xs ys) limit (omega (arith, clamps, apart.0, apart.1, left, right, far))

-- a distance is returned if it is less
pub some_is : (x d limit : ℕ) → x ≡ d → x < limit → Some x ≡ (if nat_lt d limit then Some d else None)
some_is x d limit is below =
    let less : d < limit = omega (arith, is, below) in
    ap (λ (n : ℕ). Some n) is ∙ ap (λ (b : Bool). if b then Some d else None) (sym (lt-ltb d limit less))

pub none_is : (d limit : ℕ) → nat_lt d limit ≡ false → None ≡ (if nat_lt d limit then Some d else None)
none_is d limit above = ap (λ (b : Bool). if b then Some d else None) (sym above)

-- a path that is found has this number
pub got : (words : List (List ℕ)) (n : ℕ) (w : List ℕ) → Some w ≡ slice_get words n → get_or words n [] ≡ w
got [] n w h = absurd (cc)
got (v ∷ vs) zero w h = cc
got (v ∷ vs) (suc n) w h = got vs n w h

-- ---- the best so far

-- no distance is returned if it isn't less
pub none_below : (d limit : ℕ) → None ≡ (if nat_lt d limit then Some d else None) → limit ≤ d
none_below d limit h = grind (arith, nat_tests)

-- a distance that is returned is less
pub some_below : (d limit x : ℕ) → Some x ≡ (if nat_lt d limit then Some d else None) → (x ≡ d) × (d < limit)
some_below d limit x h = grind (arith, nat_tests)

-- none of one word more is closer
no_closer : (distance : ℕ → ℕ) (count least : ℕ) → ((k : ℕ) → k < count → least ≤ distance k) → least ≤ distance count
    → (k : ℕ) → k < count + 1 → least ≤ distance k
no_closer distance count least old new k below = elim (cases_lt k count) [
  | inl before ↦ old k before
  | inr past ↦ let same : count ≡ k = omega (arith, below, past) in subst (λ (j : ℕ). least ≤ distance j) same new
]

-- the distance of the best is never more than that of none
at_most_four : (distance : ℕ → ℕ) (count least : ℕ) (number : Option ℕ) → IsFound distance count least number → least ≤ 4
at_most_four distance count least None is = omega (arith, is)
at_most_four distance count least (Some n) is = omega (arith, is.1)

-- a word that is as far away or further changes nothing
pub kept : (distance : ℕ → ℕ) (count least : ℕ) (number : Option ℕ) → IsBest distance count (best least number) → least ≤ distance count
    → IsBest distance (count + 1) (best least number)
kept distance count least None is far = (λ k below. no_closer distance count least is.0 far k below, is.1)
kept distance count least (Some n) is far =
    (λ k below. no_closer distance count least is.0 far k below, (omega (arith, is.1.0), is.1.1, is.1.2, is.1.3))

-- a word that is closer is the best one
pub won : (distance : ℕ → ℕ) (count least : ℕ) (number : Option ℕ) → IsBest distance count (best least number) → distance count < least
    → IsBest distance (count + 1) (best (distance count) (Some count))
won distance count least number is near =
    let low : least ≤ 4 = at_most_four distance count least number is.1 in
    let here : distance count ≤ distance count = omega arith in (
      λ k below. no_closer distance count (distance count) (λ j lt. let old = is.0 j lt in omega (arith, old, near)) here k below,
      (omega arith, omega (arith, near, low), refl, λ k lt. let old = is.0 k lt in omega (arith, old, near)),
    )

-- the best of all words is the one that is suggested
pub suggested : (words : List (List ℕ)) (word : List ℕ) (least : ℕ) (number : Option ℕ) → IsBest (distance_at words word) (length words) (best least number)
    → Suggests words word number
suggested words word least None is = λ k below. let old = is.0 k below in omega (arith, old, is.1)
suggested words word least (Some n) is = record {
  within = is.1.0;
  near = omega (arith, is.1.1, is.1.2);
  closest = λ k below. let old = is.0 k below in omega (arith, old, is.1.2);
  first = λ k below. let old = is.1.3 k below in omega (arith, old, is.1.2);
}
