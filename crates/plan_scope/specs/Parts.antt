-- The parts that are read from a build line.
use Rattle.std.specs.Prelude.{◌≡◌, false, List}
use Rattle.std.specs.List.{list_any}
use Rattle.plan_text.specs.declared.piece_reader.Piece.{Piece}
use Rattle.plan_parse.specs.Build.{Build}
use Rattle.plan_scope.specs.declared.edge.build_line.Parts.{Parts}
use Rattle.plan_scope.specs.declared.edge.paths.BlockTexts.{BlockTexts}
use Rattle.plan_scope.specs.declared.edge.paths.PathTexts.{PathTexts}
use Rattle.plan_scope.specs.Scopes.{Text, Name, Bindings, is_too_long}
use Rattle.plan_scope.specs.Expansion.{EdgeEnvironment}
use Rattle.plan_scope.specs.Edges.{Paths, block_of, canonical_paths, has_empty, has_long, near, texts_of}
use Rattle.plan_scope.specs.Kept.{KeptEqBindings}
use Rattle.plan_scope.specs.Paths.{kept_in}

-- The expanded paths of a build line, by the meaning of names above it.
abbrev pub texts_in : (Name → Text) → Build → Paths
texts_in here b = texts_of (near here (block_of here b.bindings)) b

-- The parts that were read are those of the build line, as far as texts are kept.
pub record IsRead (here : Name → Text) (b : Build) (p : Parts) : Type 0 where
  pub values : KeptEqBindings p.block.values (block_of here b.bindings)
  pub long_value : p.block.has_long ≡ list_any (λ x. is_too_long x.1) (block_of here b.bindings)
  pub paths : kept_in p.read.paths ≡ kept_in (canonical_paths (texts_in here b))
  pub exact : p.read.has_long ≡ false → p.read.paths ≡ canonical_paths (texts_in here b)
  pub empty_path : p.read.has_empty ≡ has_empty (texts_in here b)
  pub long_path : p.read.has_long ≡ has_long (texts_in here b)

-- The parts with this block and these paths.
abbrev pub parts_with : BlockTexts → PathTexts → Parts
parts_with block read = record { block = block; read = read }

-- The environment with these parts and this rule, by the meaning of names in the file.
abbrev pub environment_from : Parts → Bindings (List Piece) → (Name → Text) → EdgeEnvironment
environment_from p rule file = record { inputs = p.read.paths.inputs; outputs = p.read.paths.outputs; block = p.block.values; rule = rule; file = file }
