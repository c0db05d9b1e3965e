-- The words of a text that are fed to a hasher.
use Rattle.std.specs.Prelude.{ℕ, zero, suc, ◌*◌, ◌/◌, List, [], ◌∷◌, ◌++◌, drop, length, take}

-- the first n words of a text, of eight bytes each
abbrev pub first_words : List ℕ → ℕ → List (List ℕ)
first_words text zero = []
first_words text (suc n) = first_words text n ++ take 8 (drop (n * 8) text) ∷ []

-- the words of a text, and then the remaining bytes, which may be none
unfoldable pub words : List ℕ → List (List ℕ)
words text = first_words text (length text / 8) ++ drop (length text / 8 * 8) text ∷ []
