-- Writing a list item by item. Lemmas for src/lister.
use Rattle.std.proofs.Common.{◌≡◌, ℕ, ◌+◌, ◌<◌, List, [], ◌∷◌, ◌++◌, length, map, refl, sym, ap, subst, ◌∙◌, append_assoc, get_or, drop}
use Rattle.std.specs.List.{concat, join_with_byte}
use Rattle.std.specs.Fmt.{decimal}
use Rattle.std.proofs.lemmas.List.{append-nil, drop_more}
use Rattle.plan_image.specs.Listing.{hex, hex_byte, members, numbered}

-- one more item is written
pub one_more : {X : Type 0} (lines : ℕ → X → List ℕ) (xs : List X) (i : ℕ) (d x : X) (done : List ℕ) → x ≡ get_or xs i d → i < length xs → done ++ numbered lines i (drop i xs) ≡ numbered lines 0 xs
    → (done ++ lines i x) ++ numbered lines (i + 1) (drop (i + 1) xs) ≡ numbered lines 0 xs
one_more {X = X} lines xs i d x done is lt so_far =
    let there : (done ++ lines i (get_or xs i d)) ++ numbered lines (i + 1) (drop (i + 1) xs) ≡ numbered lines 0 xs
    = append_assoc done (lines i (get_or xs i d)) (numbered lines (i + 1) (drop (i + 1) xs)) ∙ (ap (λ ys. done ++ numbered lines i ys) (sym (drop_more xs i d lt)) ∙ so_far) in
    subst (λ (y : X). (done ++ lines i y) ++ numbered lines (i + 1) (drop (i + 1) xs) ≡ numbered lines 0 xs) (sym is) there

-- one more item is written, if it is the first of those that are left
pub one_on : {X : Type 0} (lines : ℕ → X → List ℕ) (i : ℕ) (x : X) (left rest : List X) (done total : List ℕ) → left ≡ x ∷ rest → done ++ numbered lines i left ≡ total
    → (done ++ lines i x) ++ numbered lines (i + 1) rest ≡ total
one_on lines i x left rest done total is so_far = append_assoc done (lines i x) (numbered lines (i + 1) rest) ∙ (ap (λ ys. done ++ numbered lines i ys) (sym is) ∙ so_far)

-- texts that don't depend on the number
without_numbers : {X : Type 0} (text : X → List ℕ) (xs : List X) (n : ℕ) → numbered (λ _ x. text x) n xs ≡ concat (map text xs)
without_numbers text [] n = refl
without_numbers text (x ∷ xs) n = ap (λ rest. text x ++ rest) (without_numbers text xs (n + 1))

-- words separated by spaces are the first word, and a space before each other word
joined : (first : List ℕ) (ns : List ℕ) → join_with_byte 32 (first ∷ map decimal ns) ≡ first ++ concat (map (λ n. 32 ∷ decimal n) ns)
joined first [] = sym (append-nil first)
joined first (n ∷ ns) = ap (λ rest. first ++ 32 ∷ rest) (joined (decimal n) ns)

-- the digits of bytes are those of the first byte, and then those of the others
pub hex_are : (b : ℕ) (bs : List ℕ) → hex_byte b ++ numbered (λ _ c. hex_byte c) 0 bs ≡ hex (b ∷ bs)
hex_are b bs = ap (λ rest. hex_byte b ++ rest) (without_numbers hex_byte bs 0)

-- numbers are the first one, and each other one after a space
pub members_are : (n k : ℕ) (ns : List ℕ) → k ≡ n → decimal k ++ numbered (λ _ m. 32 ∷ decimal m) 0 ns ≡ members (n ∷ ns)
members_are n k ns is = ap (λ j. decimal j ++ numbered (λ _ m. 32 ∷ decimal m) 0 ns) is ∙ ap (λ rest. decimal n ++ rest) (without_numbers (λ m. 32 ∷ decimal m) ns 0) ∙ sym (joined (decimal n) ns)
