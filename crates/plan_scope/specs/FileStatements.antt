-- The statements of a file, and the statements of a tree, which are held file by file.
use Rattle.std.specs.Prelude.{ℕ, List, [], ◌∷◌, ◌++◌, map, flat_map, drop}
use Rattle.plan_parse.specs.declared.compact.CompactStatement.{CompactStatement}
use Rattle.plan_parse.specs.Compact.{said_in}
use Rattle.plan_parse.specs.Kinds.{Statement}
use Rattle.plan_scope.specs.declared.tree.File.{File}
use Rattle.plan_scope.specs.Trees.{TreeStatement}

-- A statement of a file.
abbrev pub said_at : File → Statement → TreeStatement
said_at f s = record { path = f.path; scopes = f.scopes; offset = s.offset; kind = s.kind }

-- A statement in the compact form that refers to the file's bytes.
abbrev pub statement_at : File → CompactStatement → TreeStatement
statement_at f s = said_at f (said_in f.parsed.value.text f.parsed.value.lists s)

-- All statements of a file.
abbrev pub statements_at : File → List TreeStatement
statements_at f = map (statement_at f) f.parsed.value.statements

-- The joined segments of statements.
abbrev pub joined : List (List TreeStatement) → List TreeStatement
joined segments = flat_map (λ s. s) segments

-- The rest of the segments after `passed` statements of the first segment.
abbrev pub left_of : List (List TreeStatement) → ℕ → List TreeStatement
left_of [] passed = []
left_of (segment ∷ behind) passed = drop passed segment ++ joined behind
