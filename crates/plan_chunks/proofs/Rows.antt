-- Chunks written by hand, and the bytes of their numbers.
use Rattle.std.proofs.Common.{◌≡◌, ℕ, List, [], ◌∷◌, refl}
use Rattle.plan_chunks.specs.Joining.{chunk_at, joined}

-- the chunks `ab`, `c`
abbrev held : List (List ℕ)
held = (97 ∷ 98 ∷ []) ∷ (99 ∷ []) ∷ []

second_chunk : chunk_at held 1 ≡ 99 ∷ []
second_chunk = refl

no_such_chunk : chunk_at held 2 ≡ []
no_such_chunk = refl

joined_in_the_order_of_numbers : joined held (1 ∷ 0 ∷ 1 ∷ []) ≡ 99 ∷ 97 ∷ 98 ∷ 99 ∷ []
joined_in_the_order_of_numbers = refl

joined_none : joined held [] ≡ []
joined_none = refl
