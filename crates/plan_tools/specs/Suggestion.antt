-- The word that is meant by another one, as ninja suggests it ("did you mean").
use Rattle.std.specs.Prelude.{◌≡◌, ℕ, ◌+◌, ◌<◌, ◌≤◌, List, [], ◌∷◌, Option, Some, None, get_or, length, min, nat_eq, reverse, if◌then◌else◌}
use Rattle.plan_scope.specs.Scopes.{Text}
use Rattle.plan_tools.specs.declared.suggestion.Best.{Best}

-- the Levenshtein distance of two texts that are given from their ends
abbrev pub distance_from_ends : List ℕ → List ℕ → ℕ
distance_from_ends [] ys = length ys
distance_from_ends (x ∷ xs) [] = length (x ∷ xs)
distance_from_ends (x ∷ xs) (y ∷ ys) =
    min (distance_from_ends (x ∷ xs) ys + 1)
    (min (distance_from_ends xs ys + (if nat_eq x y then 0 else 1)) (distance_from_ends xs (y ∷ ys) + 1))

-- the least number of bytes to insert, remove or replace that lead from one text to the other
abbrev pub edit_distance : Text → Text → ℕ
edit_distance xs ys = distance_from_ends (reverse xs) (reverse ys)

-- how far a word is from these, by its number
abbrev pub distance_at : (words : List Text) → (word : Text) → ℕ → ℕ
distance_at words word n = edit_distance (get_or words n []) word

-- it is at most three bytes away, none is closer, and none before it is as close
pub record IsClosest (words : List Text) (word : Text) (n : ℕ) : Type 0 where
  pub within : n < length words
  pub near : distance_at words word n ≤ 3
  pub closest : (k : ℕ) → k < length words → distance_at words word n ≤ distance_at words word k
  pub first : (k : ℕ) → k < n → distance_at words word n < distance_at words word k

-- the number of the word that is suggested
abbrev pub Suggests : (words : List Text) → (word : Text) → Option ℕ → Type 0
Suggests words word (Some n) = IsClosest words word n
Suggests words word None = (k : ℕ) → k < length words → 3 < distance_at words word k

-- the word that is suggested; none if all are further away
abbrev pub SuggestsText : (words : List Text) → (word : Text) → Option Text → Type 0
SuggestsText words word (Some text) = (n : ℕ) × IsClosest words word n × (text ≡ get_or words n [])
SuggestsText words word None = Suggests words word None

-- ---- the best so far, by the distances of the words

abbrev pub best : (distance : ℕ) → (number : Option ℕ) → Best
best distance number = record { distance = distance; number = number }

-- the word of a number is at this distance, and those before it are further away; 4 if there is none
abbrev pub IsFound : (distances : ℕ → ℕ) → (count distance : ℕ) → Option ℕ → Type 0
IsFound distances count distance None = distance ≡ 4
IsFound distances count distance (Some n) = (n < count) × (distance ≤ 3) × (distance ≡ distances n) × ((k : ℕ) → k < n → distance < distances k)

-- it is the best of the first words
abbrev pub IsBest : (distances : ℕ → ℕ) → (count : ℕ) → Best → Type 0
IsBest distances count b = ((k : ℕ) → k < count → b.distance ≤ distances k) × IsFound distances count b.distance b.number
