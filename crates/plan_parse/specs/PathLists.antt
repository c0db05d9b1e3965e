-- The five lists of paths of a build line.
use Rattle.std.specs.Prelude.{◌≡◌, ℕ, List, ◌++◌, length, take, drop}
use Rattle.plan_parse.specs.declared.compact.PathLists.{PathLists}
use Rattle.plan_parse.specs.declared.compact.PathPlaces.{PathPlaces}

-- applies a function to each list
abbrev pub map_lists : {A B : Type 0} → (A → B) → PathLists A → PathLists B
map_lists f p = record {
  outputs = f p.outputs;
  implicit_outputs = f p.implicit_outputs;
  inputs = f p.inputs;
  implicit_inputs = f p.implicit_inputs;
  order_only_inputs = f p.order_only_inputs;
}

-- all paths, outputs first
abbrev pub all_in : {A : Type 0} → PathLists (List A) → List A
all_in p = p.outputs ++ p.implicit_outputs ++ p.inputs ++ p.implicit_inputs ++ p.order_only_inputs

-- the items from `start` up to `end`
abbrev pub between : {A : Type 0} → ℕ → ℕ → List A → List A
between start end items = drop start (take end items)

-- the lists with these ranges among the paths of a file
abbrev pub lists_at : {A : Type 0} → PathPlaces → List A → PathLists (List A)
lists_at places items = record {
  outputs = between places.start places.outputs items;
  implicit_outputs = between places.outputs places.implicit_outputs items;
  inputs = between places.implicit_outputs places.inputs items;
  implicit_inputs = between places.inputs places.implicit_inputs items;
  order_only_inputs = between places.implicit_inputs places.order_only_inputs items;
}

-- the items of a list after all items of an older one
abbrev pub added_to : {A : Type 0} → List A → List A → List A
added_to older items = drop (length older) items

-- a list begins with all items of an older one
abbrev pub Extends : {A : Type 0} → List A → List A → Type 0
Extends older items = items ≡ older ++ added_to older items
