-- How escaped bytes are read. Proofs for the law escaped_is_read.
use Rattle.std.proofs.Common.{◌≡◌, ℕ, ◌+◌, ◌==◌, Bool, true, false, not, ◌||◌, ◌&&◌, cond, List, [], ◌∷◌, Result, Ok, refl, ap, ◌∙◌}
use Rattle.std.specs.List.{list_all}
use Rattle.plan_text.specs.Bytes.{nul, tab, space, dollar, colon}
use Rattle.plan_text.specs.declared.fault.TextFault.{TextFault}
use Rattle.plan_text.specs.declared.piece_reader.Mode.{Mode}
use Rattle.plan_text.specs.declared.piece_reader.Piece.{Piece}
use Rattle.plan_text.specs.Pieces.{Byte, onto, all_onto, pieces_past, escape_bytes, is_allowed, is_path, literal_of}

and_parts : (x y : Bool) → (x && y) ≡ true → (x ≡ true) × (y ≡ true)
and_parts true y e = (refl, e)
and_parts false y e = cc

not_true : (x : Bool) → not x ≡ true → x ≡ false
not_true true e = cc
not_true false e = refl

onto_whole : (b : ℕ) (bytes : List ℕ) → onto (Byte b) (literal_of bytes) ≡ literal_of (b ∷ bytes)
onto_whole b [] = refl
onto_whole b (c ∷ bytes) = refl

-- an escaped byte is read as itself
behind_dollar : (mode : Mode) (at b : ℕ) (rest : List ℕ) (more : Result (List Piece) TextFault) → (b == dollar || b == space || b == colon) ≡ true → pieces_past mode (at + 1 + 1) rest 0 ≡ more
    → pieces_past mode at (dollar ∷ b ∷ rest) 0 ≡ all_onto (Byte b) more
behind_dollar mode at b rest more e h = rw e (ap (all_onto (Byte b)) h)

either_false : (x y : Bool) → (x || y) ≡ false → (x ≡ false) × (y ≡ false)
either_false true y e = absurd cc
either_false false y e = (refl, e)

-- a byte that is not escaped is read as itself
alone : (mode : Mode) (at b : ℕ) (rest : List ℕ) (more : Result (List Piece) TextFault) → (b == dollar || b == space || b == colon) ≡ false → (b == nul || b == tab && is_path mode) ≡ false
    → pieces_past mode (at + 1) rest 0 ≡ more → pieces_past mode at (b ∷ rest) 0 ≡ all_onto (Byte b) more
alone mode at b rest more e f h =
    let plain = either_false (b == dollar) (b == space) (either_false (b == dollar || b == space) (b == colon) e).0 in
    let allowed = either_false (b == nul) (b == tab && is_path mode) f in
    rw (plain.0, allowed.0, allowed.1) (ap (all_onto (Byte b)) h)

-- escaped bytes are read as one literal
pub escaped_read : (mode : Mode) (at : ℕ) (bytes : List ℕ) → list_all (is_allowed mode) bytes ≡ true → pieces_past mode at (escape_bytes bytes) 0 ≡ Ok (literal_of bytes)
escaped_read mode at [] h = refl
escaped_read mode at (b ∷ bytes) h =
    let parts = and_parts (is_allowed mode b) (list_all (is_allowed mode) bytes) h in
    by (b == dollar || b == space || b == colon) refl (escaped_read mode (at + 1 + 1) bytes parts.1) (escaped_read mode (at + 1) bytes parts.1)
    (not_true (b == nul || b == tab && is_path mode) parts.0)
    ∙ ap (λ (v : List Piece). Ok v) (onto_whole b bytes)
  where
    by : (t : Bool) → (b == dollar || b == space || b == colon) ≡ t → pieces_past mode (at + 1 + 1) (escape_bytes bytes) 0 ≡ Ok (literal_of bytes) → pieces_past mode (at + 1) (escape_bytes bytes) 0 ≡ Ok (literal_of bytes)
        → (b == nul || b == tab && is_path mode) ≡ false → pieces_past mode at (cond t (dollar ∷ b ∷ escape_bytes bytes) (b ∷ escape_bytes bytes)) 0 ≡ Ok (onto (Byte b) (literal_of bytes))
    by true e more next allowed = behind_dollar mode at b (escape_bytes bytes) (Ok (literal_of bytes)) e more
    by false e more next allowed = alone mode at b (escape_bytes bytes) (Ok (literal_of bytes)) e allowed next
