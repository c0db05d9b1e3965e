-- The commands of edges, as `-t commands` lists them.
use Rattle.std.specs.Prelude.{ℕ, List, [], Option, Some, None, slice_get, if◌then◌else◌}
use Rattle.plan_scope.specs.Scopes.{Text}
use Rattle.plan_scope.specs.Edge.{Edge}
use Rattle.plan_scope.specs.TextLists.{whole}
use Rattle.plan_scope.specs.declared.manifest.Manifest.{Manifest}
use Rattle.plan_tools.specs.Listings.{line}

-- a text by its parts; empty if there is none
abbrev pub text_or_none : Option (List Text) → Text
text_or_none (Some parts) = whole parts
text_or_none None = []

-- the command of an edge; none of a phony, or if there is no edge
abbrev pub command_in : Option Edge → Option Text
command_in (Some e) = if e.phony then None else Some e.command
command_in None = None

-- a command on a line, if there is one
abbrev pub line_of : Option Text → Text
line_of (Some command) = line command
line_of None = []

-- the command of the edge of a number, on a line
abbrev pub command_line : Manifest → (edge : ℕ) → Text
command_line m e = line_of (command_in (slice_get m.edges e))
