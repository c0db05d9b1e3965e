-- Paths of build lines, part by part.
use Rattle.std.specs.Prelude.{ℕ, List}
use Rattle.plan_text.specs.declared.piece_reader.Piece.{Piece}
use Rattle.plan_parse.specs.declared.path_parts.PathPart.{PathPart}
use Rattle.plan_parse.specs.declared.path_parts.PathPart.TheVariants as part
use Rattle.plan_parse.specs.Compact.{path_pieces, pieces_or_none}
use Rattle.plan_scope.specs.Scopes.{Name, Text}

-- The pieces of a path that takes all of these bytes. There are none if the bytes aren't a path.
abbrev pub pieces_in : ℕ → List ℕ → List Piece
pieces_in at path = pieces_or_none (path_pieces (record { at = at; bytes = path }))

-- The text of a part, by the meaning of names.
abbrev pub part_value : (Name → Text) → PathPart → Text
part_value value (part.Text bytes) = bytes.now
part_value value (part.Name name) = value name.now
