-- The values that an instruction takes, as a list with gaps.
use Rattle.std.specs.Prelude.{List, [], ◌∷◌, Option, Some, None}

-- the values in a list of options
abbrev pub options : {X : Type 0} → List (Option X) → List X
options [] = []
options (None ∷ os) = options os
options (Some x ∷ os) = x ∷ options os
