-- The edge that creates a file.
use Rattle.std.specs.Prelude.{ℕ, ◌+◌, Bool, false, List, [], ◌∷◌, Option, Some, None, slice_get, if◌then◌else◌}
use Rattle.std.specs.List.{list_any}
use Rattle.std.specs.Str.{bytes_eq}
use Rattle.plan_image.specs.declared.image.Edge.{Edge}
use Rattle.plan_image.specs.declared.image.Parts.{Parts}

abbrev pub is_path : List ℕ → Option (List ℕ) → Bool
is_path path (Some name) = bytes_eq name path
is_path path None = false

-- the file with this number has this name
abbrev pub is_named : Parts → List ℕ → ℕ → Bool
is_named p path f = is_path path (slice_get p.files f)

-- the edge has the path among its outputs
abbrev pub makes : Parts → List ℕ → Edge → Bool
makes p path x = list_any (λ f. is_named p path f) x.outputs

-- the first edge that creates the path, if the edges are numbered from e
abbrev pub first_maker : Parts → List ℕ → ℕ → List Edge → Option ℕ
first_maker p path e [] = None
first_maker p path e (x ∷ xs) = if makes p path x then Some e else first_maker p path (e + 1) xs
