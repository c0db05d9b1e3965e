-- The texts and the pools of an image, and their numbers.
use Rattle.std.specs.Prelude.{ℕ, zero, Bool, true, false, List, [], ◌∷◌, flat_map, Option, Some, None, if◌then◌else◌, bytes_eq}
use Rattle.plan_scope.specs.Edge.{Edge as ManifestEdge}
use Rattle.plan_scope.specs.declared.manifest.Pool.{Pool as ManifestPool}
use Rattle.plan_image.specs.declared.image.Pool.{Pool}
use Rattle.plan_compile.specs.Builds.{Build}
use Rattle.plan_compile.specs.Numbering.{number, once}

abbrev pub Text : Type 0
Text = List ℕ

abbrev pub text_number : List Text → Text → ℕ
text_number texts t = number bytes_eq t texts

abbrev pub unless_empty : Text → List Text
unless_empty [] = []
unless_empty (c ∷ cs) = (c ∷ cs) ∷ []

-- ---- texts

abbrev pub or_command : (description command : Text) → Text
or_command [] command = command
or_command (c ∷ cs) command = c ∷ cs

-- the label of an edge: its description, or its command if there is none; empty for a phony
abbrev pub label_by : (phony : Bool) → ManifestEdge → Text
label_by true e = []
label_by false e = or_command e.description e.command

abbrev pub label_of : Build → Text
label_of x = label_by x.edge.phony x.edge

abbrev pub texts_by : (phony : Bool) → ManifestEdge → List Text
texts_by true e = []
texts_by false e = e.command ∷ unless_empty e.depfile

-- the texts of an edge: its label, its command and its depfile
abbrev pub edge_texts : ManifestEdge → List Text
edge_texts e = label_by e.phony e ∷ texts_by e.phony e

abbrev pub texts_in : Build → List Text
texts_in x = edge_texts x.edge

abbrev pub all_texts : List Build → List Text
all_texts xs = once bytes_eq (flat_map texts_in xs)

-- the same texts, of the edges of a manifest
abbrev pub texts_of_edges : List ManifestEdge → List Text
texts_of_edges es = once bytes_eq (flat_map edge_texts es)

abbrev pub depfile_number : List Text → Text → Option ℕ
depfile_number texts [] = None
depfile_number texts (c ∷ cs) = Some (text_number texts (c ∷ cs))

-- ---- pools

abbrev pub pool_by : (phony : Bool) → Text → List Text
pool_by true name = []
pool_by false name = unless_empty name

-- the name of an edge's pool, if it has one
abbrev pub edge_pool : ManifestEdge → List Text
edge_pool e = pool_by e.phony e.pool

abbrev pub pool_in : Build → List Text
pool_in x = edge_pool x.edge

-- the pools that edges use, in the order of their first use
abbrev pub used_pools : List Build → List Text
used_pools xs = once bytes_eq (flat_map pool_in xs)

-- the same pools, of the edges of a manifest
abbrev pub pools_of_edges : List ManifestEdge → List Text
pools_of_edges es = once bytes_eq (flat_map edge_pool es)

abbrev pub pool_number : List Text → List Text → Option ℕ
pool_number names [] = None
pool_number names (name ∷ others) = Some (text_number names name)

abbrev pub depth_of : List ManifestPool → Text → ℕ
depth_of [] name = zero
depth_of (pool ∷ pools) name = if bytes_eq name pool.name then pool.depth else depth_of pools name

-- a pool with the depth that is declared
abbrev pub declared : List ManifestPool → Text → Pool
declared pools name = record { name = name; depth = depth_of pools name }
