-- Items that are read again from a text.
use Rattle.std.specs.Prelude.{◌+◌, ◌<◌, ◌^◌, List, length, map}
use Rattle.plan_text.specs.Pieces.{literal_of}
use Rattle.plan_text.specs.declared.piece_reader.Piece.{Piece}
use Rattle.plan_parse.specs.declared.lines.PathInText as the_path
use Rattle.plan_parse.specs.declared.lines.PathInText.TheVariants as path
use Rattle.plan_parse.specs.declared.lines.PathsInText.{PathsInText}
use Rattle.plan_parse.specs.declared.lines.ValueInText as the_value
use Rattle.plan_parse.specs.declared.lines.ValueInText.TheVariants as value
use Rattle.plan_parse.specs.declared.lines.BindingsInText.{BindingsInText}
use Rattle.plan_parse.specs.declared.statement.Binding.{Binding}
use Rattle.plan_parse.specs.Compact.{path_in, path_pieces, pieces_or_none, variable_in}

-- the pieces of a path in its text
abbrev pub pieces_of : the_path.PathInText → List Piece
pieces_of (path.Plain bytes) = literal_of bytes.now
pieces_of (path.Parts at bytes) = pieces_or_none (path_pieces (record { at = at; bytes = bytes.now }))

-- no offset within the path overflows
abbrev pub IsPlaced : the_path.PathInText → Type 0
IsPlaced (path.Plain bytes) = Unit {0}
IsPlaced (path.Parts at bytes) = at + length bytes.now < 2 ^ 63

-- the pieces of a right side in its text
abbrev pub value_of : the_value.ValueInText → List Piece
value_of (value.Plain bytes) = literal_of bytes.now
value_of (value.Pieces line) = line

-- bindings in their text
abbrev pub bindings_in : BindingsInText → List Binding
bindings_in l = map (variable_in l.text.now) l.bindings.now

-- the pieces of each path of a list
abbrev pub paths_in : PathsInText → List (List Piece)
paths_in l = map (path_in l.text.now) l.paths.now
