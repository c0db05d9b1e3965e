-- Parts of a line of /proc, and of a name of a builder.
use Rattle.std.specs.Prelude.{ℕ, ◌==◌, List}
use Rattle.std.specs.List.{slice_split}

-- the parts of a text that has this byte between them; between two such bytes is an empty part
abbrev pub parts_between : ℕ → List ℕ → List (List ℕ)
parts_between between text = slice_split (λ b. b == between) text
