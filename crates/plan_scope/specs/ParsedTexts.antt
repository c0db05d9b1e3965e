-- A file's bytes along with the statements in them.
use Rattle.std.specs.Prelude.{ℕ, List, map}
use Rattle.plan_parse.specs.declared.compact.BuildLists.{BuildLists}
use Rattle.plan_parse.specs.declared.compact.CompactStatement.{CompactStatement}
use Rattle.plan_parse.specs.Compact.{said_in}
use Rattle.plan_parse.specs.Kinds.{Statement}

-- A file's bytes along with the statements in them, in the compact form that refers to the bytes.
pub record ParsedText : Type 0 where
  pub text : List ℕ
  pub lists : BuildLists
  pub statements : List CompactStatement

-- The statements themselves.
abbrev pub statements_in : ParsedText → List Statement
statements_in p = map (said_in p.text p.lists) p.statements
