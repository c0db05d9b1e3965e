-- The pieces of a `PieceList`, in either storage.
use Rattle.std.specs.Prelude.{List}
use Rattle.plan_text.specs.declared.piece_list.Held.{Held}
use Rattle.plan_text.specs.declared.piece_list.Held.TheVariants.{One, Many}
use Rattle.plan_text.specs.declared.piece_reader.Piece.{Piece}

abbrev pub pieces_in : Held → List Piece
pieces_in (One pieces) = pieces
pieces_in (Many pieces) = pieces.items
