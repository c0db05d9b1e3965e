-- The parts of the tables that an edge's instructions read.
use Rattle.std.specs.Prelude.{ℕ, ◌+◌, Bool, false, List, [], ◌∷◌, length, Option, Some, None, nat_le, ◌==◌, if◌then◌else◌, slice_get}
use Rattle.plan_image.specs.declared.body.Kind.{Kind}
use Rattle.plan_image.specs.declared.body.Kind.TheVariants as kind
use Rattle.plan_image.specs.declared.image.Slot.{Slot}
use Rattle.plan_image.specs.declared.image.Edge.{Edge}
use Rattle.plan_image.specs.declared.image.Parts.{Parts}
use Rattle.plan_verify.specs.Members.{is_member}

-- ---- edges

abbrev pub waits_in : Option Edge → List ℕ
waits_in (Some edge) = edge.waits
waits_in None = []

-- the edges that an edge waits for
abbrev pub waits_of : Parts → ℕ → List ℕ
waits_of p e = waits_in (slice_get p.edges e)

abbrev pub outputs_in : Option Edge → List ℕ
outputs_in (Some edge) = edge.outputs
outputs_in None = []

abbrev pub outputs_of : Parts → ℕ → List ℕ
outputs_of p e = outputs_in (slice_get p.edges e)

-- the path of a file
abbrev pub path_of : Parts → ℕ → Option (List ℕ)
path_of p f = slice_get p.files f

abbrev pub first_path : Parts → List ℕ → Option (List ℕ)
first_path p [] = None
first_path p (f ∷ fs) = path_of p f

-- the path of an edge's first output, or None if it has none inside the file table
abbrev pub first_output : Parts → ℕ → Option (List ℕ)
first_output p e = first_path p (outputs_of p e)

abbrev pub with_path : Option (List ℕ) → Option (List (List ℕ)) → Option (List (List ℕ))
with_path (Some path) (Some paths) = Some (path ∷ paths)
with_path _ _ = None

-- the paths of files, or None if one of them is outside the table
abbrev pub paths_of : Parts → List ℕ → Option (List (List ℕ))
paths_of p [] = Some []
paths_of p (f ∷ fs) = with_path (path_of p f) (paths_of p fs)

abbrev pub pool_in : Option Edge → Option ℕ
pool_in (Some edge) = edge.pool
pool_in None = None

abbrev pub pool_of : Parts → ℕ → Option ℕ
pool_of p e = pool_in (slice_get p.edges e)

abbrev pub is_outside : Parts → Option ℕ → Bool
is_outside p (Some pool) = nat_le (length p.pools) pool
is_outside p None = false

-- whether an edge's pool is outside the table
abbrev pub pool_outside : Parts → ℕ → Bool
pool_outside p e = is_outside p (pool_of p e)

-- ---- slots

abbrev pub kind_in : Option Slot → Kind
kind_in (Some slot) = slot.kind
kind_in None = kind.Stamp

-- the kind of a slot; it is only used if the number is inside the table
abbrev pub slot_kind : Parts → ℕ → Kind
slot_kind p s = kind_in (slice_get p.slots s)

abbrev pub owned_by : ℕ → Option Slot → Bool
owned_by e (Some slot) = slot.owner == e
owned_by e None = false

-- whether a slot is an edge's own
abbrev pub owns : Parts → ℕ → ℕ → Bool
owns p e s = owned_by e (slice_get p.slots s)

abbrev pub lent_by : List ℕ → Option Slot → Bool
lent_by waits (Some slot) = is_member slot.owner waits
lent_by waits None = false

-- whether a slot belongs to an edge that this one waits for
abbrev pub is_lent : Parts → ℕ → ℕ → Bool
is_lent p e s = lent_by (waits_of p e) (slice_get p.slots s)

abbrev pub own_from : ℕ → ℕ → List Slot → List ℕ
own_from e n [] = []
own_from e n (slot ∷ slots) = if slot.owner == e then n ∷ own_from e (n + 1) slots else own_from e (n + 1) slots

-- an edge's own slots, in ascending order
abbrev pub own_slots : Parts → ℕ → List ℕ
own_slots p e = own_from e 0 p.slots
