-- Build lines.
use Rattle.std.specs.Prelude.{ℕ, List}
use Rattle.plan_text.specs.declared.piece_reader.Piece.{Piece}
use Rattle.plan_parse.specs.declared.compact.PathLists.{PathLists}
use Rattle.plan_parse.specs.declared.statement.Binding.{Binding}

-- the pieces of each path, the name of the rule, and the variables of the lines below, in order
pub record Build : Type 0 where
  pub paths : PathLists (List (List Piece))
  pub rule : List ℕ
  pub bindings : List Binding
