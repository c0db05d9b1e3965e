-- Paths that are expanded part by part. Used for src/edge/paths.rt.
use Rattle.std.proofs.Common.{◌≡◌, ℕ, ◌+◌, List, [], ◌∷◌, ◌++◌, drop, Result, Ok, Err, refl, sym, ap, ◌∙◌, arith, append_assoc}
use Rattle.std.proofs.lemmas.List.{drop-drop}
use Rattle.plan_text.specs.Gathering.{bytes_onto}
use Rattle.plan_text.specs.Pieces.{Byte, onto, pieces_from}
use Rattle.plan_text.specs.declared.fault.TextFault.{TextFault}
use Rattle.plan_text.specs.declared.piece_reader.Mode.TheVariants as mode
use Rattle.plan_text.specs.declared.piece_reader.Piece.{Piece}
use Rattle.plan_text.specs.declared.piece_reader.Piece.TheVariants.{Literal, Reference}
use Rattle.plan_parse.specs.declared.path_parts.PathPart.{PathPart}
use Rattle.plan_parse.specs.declared.path_parts.PathPart.TheVariants as part
use Rattle.plan_parse.specs.Compact.{pieces_or_none}
use Rattle.plan_parse.specs.Parts.{map_pieces, part_onto}
use Rattle.plan_parse.specs.Reading.{lift_fault}
use Rattle.plan_scope.specs.PathParts.{part_value}
use Rattle.plan_scope.specs.Scopes.{Name, Text, expand}

-- The text of pieces, if there are any.
abbrev pub text_of : (Name → Text) → Result (List Piece) TextFault → Result Text TextFault
text_of value (Ok pieces) = Ok (expand value pieces)
text_of value (Err fault) = Err fault

-- A text before another, if there is another.
abbrev pub text_onto : Text → Result Text TextFault → Result Text TextFault
text_onto text (Ok more) = Ok (text ++ more)
text_onto text (Err fault) = Err fault

expand_byte : (value : Name → Text) (b : ℕ) (more : List Piece) → expand value (onto (Byte b) more) ≡ b ∷ expand value more
expand_byte value b [] = refl
expand_byte value b (Literal bytes ∷ more) = refl
expand_byte value b (Reference name ∷ more) = refl

expand_bytes : (value : Name → Text) (bytes : List ℕ) (more : List Piece) → expand value (bytes_onto bytes more) ≡ bytes ++ expand value more
expand_bytes value [] more = refl
expand_bytes value (b ∷ bytes) more = expand_byte value b (bytes_onto bytes more) ∙ ap (λ (v : Text). b ∷ v) (expand_bytes value bytes more)

expand_part : (value : Name → Text) (p : PathPart) (more : List Piece) → expand value (part_onto p more) ≡ part_value value p ++ expand value more
expand_part value (part.Text bytes) more = expand_bytes value bytes.now more
expand_part value (part.Name name) more = refl

text_of_part : (value : Name → Text) (p : PathPart) (r : Result (List Piece) TextFault) → text_of value (map_pieces (part_onto p) r) ≡ text_onto (part_value value p) (text_of value r)
text_of_part value p (Ok more) = ap (λ (v : Text). Ok v) (expand_part value p more)
text_of_part value p (Err fault) = refl

onto_twice : (a b : Text) (r : Result Text TextFault) → text_onto a (text_onto b r) ≡ text_onto (a ++ b) r
onto_twice a b (Ok more) = ap (λ (v : Text). Ok v) (sym (append_assoc a b more))
onto_twice a b (Err fault) = refl

-- Nothing comes before the whole path.
pub none_onto : (r : Result Text TextFault) → r ≡ text_onto [] r
none_onto (Ok more) = refl
none_onto (Err fault) = refl

-- The parts so far, and one more.
pub text_more : (value : Name → Text) (at done n : ℕ) (path : List ℕ) (front : Text) (p : PathPart)
    → text_of value (pieces_from mode.Path at path) ≡ text_onto front (text_of value (pieces_from mode.Path (at + done) (drop done path)))
    → pieces_from mode.Path (at + done) (drop done path) ≡ map_pieces (part_onto p) (pieces_from mode.Path (at + done + n) (drop n (drop done path)))
    → text_of value (pieces_from mode.Path at path) ≡ text_onto (front ++ part_value value p) (text_of value (pieces_from mode.Path (at + (done + n)) (drop (done + n) path)))
text_more value at done n path front p so_far first =
    let place : at + done + n ≡ at + (done + n) = omega arith in
    let rest : Result (List Piece) TextFault = pieces_from mode.Path (at + (done + n)) (drop (done + n) path) in
    let one : pieces_from mode.Path (at + done) (drop done path) ≡ map_pieces (part_onto p) rest =
    first ∙ ap (λ (k : ℕ). map_pieces (part_onto p) (pieces_from mode.Path k (drop n (drop done path)))) place ∙ ap (λ (v : List ℕ). map_pieces (part_onto p) (pieces_from mode.Path (at + (done + n)) v)) (drop-drop n done path) in
    so_far ∙ ap (λ (r : Result (List Piece) TextFault). text_onto front (text_of value r)) one
    ∙ ap (text_onto front) (text_of_part value p rest)
    ∙ onto_twice front (part_value value p) (text_of value rest)

-- The text of a path that was read to its end.
pub whole_text : (value : Name → Text) (r : Result (List Piece) TextFault) (t : Text) → text_of value r ≡ Ok t → expand value (pieces_or_none (lift_fault r)) ≡ t
whole_text value (Ok pieces) t h = cc
whole_text value (Err fault) t h = absurd cc

-- Bytes that aren't a path have no text.
pub no_text : (value : Name → Text) (r : Result (List Piece) TextFault) (front : Text) (rest : Result (List Piece) TextFault) (fault : TextFault)
    → text_of value r ≡ text_onto front (text_of value rest) → rest ≡ Err fault → expand value (pieces_or_none (lift_fault r)) ≡ []
no_text value (Err other) front rest fault h e = refl
no_text value (Ok pieces) front (Err other) fault h e = absurd cc
no_text value (Ok pieces) front (Ok more) fault h e = absurd cc
