-- The outputs of all edges by file, as the code stores them.
use Rattle.std.specs.Prelude.{ℕ, Bool, false, not, List, [], ◌∷◌, Option, Some, None, if◌then◌else◌, slice_get, slice_set}
use Rattle.plan_verify.specs.Members.{is_member}
use Rattle.plan_compile.specs.declared.layout.Input.{Input}
use Rattle.plan_compile.specs.declared.layout.Output.{Output}
use Rattle.plan_compile.specs.Slots.{input_by}

abbrev pub Table : Type 0
Table = List (Option Output)

abbrev pub put_in : Table → Output → Option (Option Output) → Table
put_in table o (Some None) = slice_set table o.file (Some o)
put_in table o (Some (Some other)) = table
put_in table o None = table

-- enters an output for its file, unless the file has one
abbrev pub put : Table → Output → Table
put table o = put_in table o (slice_get table o.file)

abbrev pub filled : Table → List Output → Table
filled table [] = table
filled table (o ∷ os) = filled (put table o) os

-- ---- look-ups in the table

abbrev pub found : Option (Option Output) → Option Output
found (Some o) = o
found None = None

abbrev pub inputs_in : Table → List ℕ → List Input
inputs_in table [] = []
inputs_in table (f ∷ fs) = input_by f (found (slice_get table f)) ∷ inputs_in table fs

-- a source file that isn't among the named ones
abbrev pub is_unmade : Option Output → Bool → Bool
is_unmade (Some o) named = false
is_unmade None named = not named

abbrev pub is_other_source : Table → (named : List ℕ) → ℕ → Bool
is_other_source table named f = is_unmade (found (slice_get table f)) (is_member f named)

abbrev pub sources_in : Table → (named : List ℕ) → List ℕ → List ℕ
sources_in table named [] = []
sources_in table named (f ∷ fs) = if is_other_source table named f then f ∷ sources_in table named fs else sources_in table named fs

abbrev pub with_found : Option Output → List Output → List Output
with_found (Some o) os = o ∷ os
with_found None os = os

-- the outputs that are these files
abbrev pub outputs_in : Table → List ℕ → List Output
outputs_in table [] = []
outputs_in table (f ∷ fs) = with_found (found (slice_get table f)) (outputs_in table fs)
