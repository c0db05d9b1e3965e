-- A stack of kinds, the top first.
use Rattle.std.specs.Prelude.{List, ◌∷◌}
use Rattle.plan_image.specs.declared.body.Kind.{Kind}

-- the two top kinds, swapped
abbrev pub swapped : List Kind → List Kind
swapped (x ∷ y ∷ kinds) = y ∷ x ∷ kinds
swapped kinds = kinds
