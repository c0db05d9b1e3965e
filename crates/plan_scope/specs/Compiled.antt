-- Rules compiled for a file: the parts of their variables that are known before an edge is read. (This project's own
-- choice.)
use Rattle.std.specs.Prelude.{◌≡◌, List, ◌++◌, map, Option, Some, None, option_map, unwrap_or, flat_map, codes}
use Rattle.std.specs.List.{join_with_byte}
use Rattle.plan_text.specs.Bytes.{space, line_feed}
use Rattle.plan_text.specs.declared.piece_reader.Piece.{Piece}
use Rattle.plan_scope.specs.declared.edge.compiled.VariablePart.{VariablePart}
use Rattle.plan_scope.specs.declared.edge.compiled.VariablePart.TheVariants.{Literal, Inputs, InputsByLine, Outputs, Near}
use Rattle.plan_scope.specs.declared.edge.compiled.RuleParts.{RuleParts}
use Rattle.plan_scope.specs.declared.edge.compiled.CompiledRule.{CompiledRule}
use Rattle.plan_scope.specs.declared.edge.compiled.CompiledRule.TheVariants.{Met, Whole, Unknown}
use Rattle.plan_scope.specs.Scopes.{Text, Name, Bindings, last_of}
use Rattle.plan_scope.specs.Expansion.{EdgeEnvironment, Meaning, meaning_of, variable}

-- The text of a part in an edge. `show` quotes its paths.
abbrev pub text_of_part : (Text → Text) → EdgeEnvironment → VariablePart → Text
text_of_part show edge (Literal text) = text.now
text_of_part show edge Inputs = join_with_byte space (map show edge.inputs)
text_of_part show edge InputsByLine = join_with_byte line_feed (map show edge.inputs)
text_of_part show edge Outputs = join_with_byte space (map show edge.outputs)
text_of_part show edge (Near name text) = unwrap_or (last_of name.now edge.block) text.now

-- The joined texts of the parts.
abbrev pub text_of_parts : (Text → Text) → EdgeEnvironment → List VariablePart → Text
text_of_parts show edge parts = flat_map (text_of_part show edge) parts

-- A build block binds none of the variables of a rule.
abbrev pub LeavesRule : Bindings (List Piece) → Bindings Text → Type 0
LeavesRule rule block = (name : Name) (pieces : List Piece) → last_of name rule ≡ Some pieces → last_of name block ≡ None

-- An edge uses this rule in this file, and its block leaves the rule as it is.
pub record UsesRule (rule : Bindings (List Piece)) (file : Name → Text) (edge : EdgeEnvironment) : Type 0 where
  pub by_rule : edge.rule ≡ rule
  pub in_file : edge.file ≡ file
  pub leaves : LeavesRule rule edge.block

-- The parts that were appended have the text that `meant` gives, in each edge that uses the rule in the file.
abbrev pub AddsParts : Bindings (List Piece) → (Name → Text) → (before now : List VariablePart) → ((Name → Meaning) → Option Text) → Type 0
AddsParts rule file before now meant =
    (show : Text → Text) (edge : EdgeEnvironment) → UsesRule rule file edge
    → option_map (λ text. text_of_parts show edge before ++ text) (meant (meaning_of show edge)) ≡ Some (text_of_parts show edge now)

-- The parts have the text of the variable, in each edge that uses the rule in the file.
abbrev pub IsCompiled : Bindings (List Piece) → (Name → Text) → Name → List VariablePart → Type 0
IsCompiled rule file name parts = (show : Text → Text) (edge : EdgeEnvironment) → UsesRule rule file edge → variable show edge name ≡ Some (text_of_parts show edge parts)

-- The same for all variables that an edge looks up.
pub record AreCompiled (rule : Bindings (List Piece)) (file : Name → Text) (parts : RuleParts) : Type 0 where
  pub command : IsCompiled rule file (codes "command") parts.command.items
  pub depfile : IsCompiled rule file (codes "depfile") parts.depfile.items
  pub deps : IsCompiled rule file (codes "deps") parts.deps.items
  pub description : IsCompiled rule file (codes "description") parts.description.items
  pub dyndep : IsCompiled rule file (codes "dyndep") parts.dyndep.items
  pub generator : IsCompiled rule file (codes "generator") parts.generator.items
  pub pool : IsCompiled rule file (codes "pool") parts.pool.items
  pub restat : IsCompiled rule file (codes "restat") parts.restat.items
  pub rspfile : IsCompiled rule file (codes "rspfile") parts.rspfile.items

-- A rule in a file. If it was compiled, its parts have the texts of its variables.
abbrev pub IsCompiledRule : Bindings (List Piece) → (Name → Text) → CompiledRule → Type 0
IsCompiledRule rule file Met = Unit {0}
IsCompiledRule rule file (Whole parts) = AreCompiled rule file parts
IsCompiledRule rule file Unknown = Unit {0}
