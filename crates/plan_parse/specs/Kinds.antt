-- The sorts of statements.
use Rattle.std.specs.Prelude.{ℕ, List}
use Rattle.plan_text.specs.declared.piece_reader.Piece.{Piece}
use Rattle.plan_parse.specs.declared.statement.Binding as binding
use Rattle.plan_parse.specs.declared.statement.Pool as pool
use Rattle.plan_parse.specs.declared.statement.Rule as rule
use Rattle.plan_parse.specs.Build as build

-- the contents of a statement
pub data StatementKind : Type 0 where
  Rule : rule.Rule → StatementKind
  Build : build.Build → StatementKind
  Pool : pool.Pool → StatementKind
  Default : List (List Piece) → StatementKind
  Include : List Piece → StatementKind
  Subninja : List Piece → StatementKind
  Binding : binding.Binding → StatementKind

-- a statement, with the offset of its first byte
pub record Statement : Type 0 where
  pub offset : ℕ
  pub kind : StatementKind
