-- The pieces that the program has read so far, and the specification's view of them.
use Rattle.std.specs.Prelude.{◌≡◌, ℕ, ◌==◌, Bool, ◌||◌, List, [], ◌∷◌, ◌++◌, Result, Ok, Err, Option, Some, None}
use Rattle.plan_text.specs.declared.fault.TextFault.{TextFault}
use Rattle.plan_text.specs.declared.piece_reader.Gather.{Gather}
use Rattle.plan_text.specs.declared.piece_reader.Found.{Found}
use Rattle.plan_text.specs.declared.piece_reader.Found.TheVariants as found
use Rattle.plan_text.specs.declared.piece_reader.Piece.{Piece}
use Rattle.plan_text.specs.declared.piece_reader.Mode.{Mode}
use Rattle.plan_text.specs.declared.piece_reader.Mode.TheVariants as mode
use Rattle.plan_text.specs.Bytes.{nul, tab, dollar}
use Rattle.plan_text.specs.Pieces.{Sign, Byte, Name, Nothing, onto}

abbrev pub sign_of : Found → Sign
sign_of (found.Byte b) = Byte b
sign_of (found.Name name) = Name name.now
sign_of found.Nothing = Nothing

abbrev pub sign_and_len : Option (Found × ℕ) → Option (Sign × ℕ)
sign_and_len None = None
sign_and_len (Some x) = Some (sign_of x.0, x.1)

abbrev pub sign_or_fault : Result (Found × ℕ) TextFault → Result (Sign × ℕ) TextFault
sign_or_fault (Ok x) = Ok (sign_of x.0, x.1)
sign_or_fault (Err fault) = Err fault

-- whether a byte doesn't stand for itself
abbrev pub is_special : Mode → ℕ → Bool
is_special mode.Path b = b == dollar || b == nul || b == tab
is_special mode.Value b = b == dollar || b == nul

-- adds bytes before the pieces that follow
abbrev pub bytes_onto : List ℕ → List Piece → List Piece
bytes_onto [] more = more
bytes_onto (b ∷ bytes) more = onto (Byte b) (bytes_onto bytes more)

-- adds the pieces read so far before the pieces that follow
abbrev pub gathered_pieces : Gather → List Piece → List Piece
gathered_pieces g more = g.done.items ++ bytes_onto g.literal more

-- new is old with the meaning of one more byte or escape added, whatever follows
abbrev pub Gathers : Gather → Sign → Gather → Type 0
Gathers old sign new = (more : List Piece) → gathered_pieces new more ≡ gathered_pieces old (onto sign more)
