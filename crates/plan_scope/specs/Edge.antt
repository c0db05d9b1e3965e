-- Edges.
use Rattle.std.specs.Prelude.{Bool, List}
use Rattle.plan_parse.specs.declared.compact.PathLists.{PathLists}
use Rattle.plan_scope.specs.Scopes.{Text}

-- The outputs and inputs of a build line and how the outputs are built: its canonical paths, the texts of its
-- variables, and the flags deps, restat, generator and phony. No text is too long.
pub record Edge : Type 0 where
  pub paths : PathLists (List Text)
  pub command : Text
  pub description : Text
  pub depfile : Text
  pub deps : Bool
  pub restat : Bool
  pub generator : Bool
  pub phony : Bool
  pub pool : Text
