-- The statements of a tree.
use Rattle.std.specs.Prelude.{ℕ, List}
use Rattle.plan_parse.specs.Kinds.{StatementKind}

-- A statement with its path, its offset, and the scopes that it sees, its own first. The statements of a file replace
-- the statement that includes it.
pub record TreeStatement : Type 0 where
  pub path : List ℕ
  pub scopes : List ℕ
  pub offset : ℕ
  pub kind : StatementKind
