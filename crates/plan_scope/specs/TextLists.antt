-- Texts, of which the long ones are held as chunks.
use Rattle.std.specs.Prelude.{◌≤◌, ℕ, List, [], ◌∷◌, ◌++◌, All, length, map}
use Rattle.std.specs.List.{flat_map}
use Rattle.plan_chunks.specs.Joining.{AreBelow, chunk_at, joined}
use Rattle.plan_scope.specs.Scopes.{Text}

-- A text, given its parts.
abbrev pub whole : List Text → Text
whole parts = flat_map (λ part. part) parts

-- The parts of a text: a row, and the chunks with these numbers.
abbrev pub parts_of : Text → List Text → List ℕ → List Text
parts_of row chunks numbers = row ∷ map (chunk_at chunks) numbers

-- Texts, each of which is a row followed by the chunks with its numbers.
abbrev pub texts_from : (chunks rows : List Text) → List (List ℕ) → List Text
texts_from chunks [] long = []
texts_from chunks (row ∷ rows) [] = row ∷ texts_from chunks rows []
texts_from chunks (row ∷ rows) (numbers ∷ long) = (row ++ joined chunks numbers) ∷ texts_from chunks rows long

-- The chunks of texts are among those that are held, and there are no chunk numbers after the last row.
abbrev pub AreHeld : (chunks rows : List Text) → List (List ℕ) → Type 0
AreHeld chunks rows long = (length long ≤ length rows) × All (AreBelow (length chunks)) long
