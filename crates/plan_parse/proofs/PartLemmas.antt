-- Paths, part by part. Lemmas for src/path_parts.rt.
use Rattle.std.proofs.Common.{◌≡◌, ℕ, zero, suc, ◌+◌, ◌-◌, ◌<◌, ◌≤◌, ◌==◌, Bool, true, false, ◌||◌, ◌&&◌, not, cond, List, [], ◌∷◌, length, take, drop, get_or, slice_index_or, Result, Ok, Err, Option, Some, None, refl, sym, ap, ◌∙◌, arith, add-zero}
use Rattle.std.proofs.lemmas.List.Sums.{prefix_len_passes}
use Rattle.std.specs.List.{prefix_len, take_while}
use Rattle.std.proofs.lemmas.Bool.{ne_eqb}
use Rattle.std.proofs.lemmas.List.Folds.{length-prefix_len}
use Rattle.plan_text.specs.Bytes.{nul, tab, dollar, space, colon, line_feed, carriage_return, left_brace, right_brace, is_name_byte, is_bare_name_byte, begins_with}
use Rattle.plan_text.specs.Gathering.{is_special, bytes_onto}
use Rattle.plan_text.specs.Pieces.{Sign, Byte, Name, braced_name, bare_name, escape, escape_size, size_of, or_bad, onto, all_onto, in_front, pieces_past, pieces_from}
use Rattle.plan_text.specs.declared.fault.TextFault.{TextFault}
use Rattle.plan_text.specs.declared.fault.TextFault.TheVariants as text
use Rattle.plan_text.specs.declared.piece_reader.Mode.TheVariants as mode
use Rattle.plan_text.specs.declared.piece_reader.Piece.{Piece}
use Rattle.plan_parse.specs.declared.path_parts.PathPart.{PathPart}
use Rattle.plan_parse.specs.declared.path_parts.PathPart.TheVariants as part
use Rattle.plan_parse.specs.Parts.{sign_of, sign_of_bytes, IsShort, part_onto, map_pieces}
use Rattle.plan_parse.specs.PlainPaths.{is_plain}
use Rattle.plan_parse.specs.Reading.{ends_path}

-- skipping bytes
pub skipped : (at : ℕ) (v : List ℕ) (n : ℕ) → n ≤ length v → pieces_past mode.Path at v n ≡ pieces_past mode.Path (at + n) (drop n v) 0
skipped at [] zero h = refl
skipped at [] (suc n) h = absurd (omega arith)
skipped at (b ∷ rest) zero h = rw (add-zero at) refl
skipped at (b ∷ rest) (suc n) h =
    let place : at + 1 + n ≡ at + suc n = omega arith in
    skipped (at + 1) rest n (omega arith) ∙ ap (λ (k : ℕ). pieces_past mode.Path k (drop n rest) 0) place

nothing_onto : (r : Result (List Piece) TextFault) → r ≡ map_pieces (bytes_onto []) r
nothing_onto (Ok v) = refl
nothing_onto (Err e) = refl

byte_onto : (b : ℕ) (bytes : List ℕ) (r : Result (List Piece) TextFault) → all_onto (Byte b) (map_pieces (bytes_onto bytes) r) ≡ map_pieces (bytes_onto (b ∷ bytes)) r
byte_onto b bytes (Ok v) = refl
byte_onto b bytes (Err e) = refl

plain_sign : (at b : ℕ) (rest : List ℕ) (d n t : Bool) → (d || n || t) ≡ false
    → cond d (or_bad at (escape rest)) (cond n (Err (text.NulByte at)) (cond (t && true) (Err (text.TabBlank at)) (Ok (Byte b, 0)))) ≡ Ok (Byte b, 0)
plain_sign at b rest true n t h = absurd cc
plain_sign at b rest false true t h = absurd cc
plain_sign at b rest false false true h = absurd cc
plain_sign at b rest false false false h = refl

-- bytes that stand for themselves, and the pieces that follow
pub plain_part : (n at : ℕ) (v : List ℕ) → n ≤ length v → ((k : ℕ) → k < n → is_special mode.Path (get_or v k 0) ≡ false)
    → pieces_from mode.Path at v ≡ map_pieces (bytes_onto (take n v)) (pieces_from mode.Path (at + n) (drop n v))
plain_part zero at v h plain = nothing_onto (pieces_from mode.Path at v) ∙ ap (λ (k : ℕ). map_pieces (bytes_onto []) (pieces_from mode.Path k v)) (sym (add-zero at))
plain_part (suc n) at [] h plain = absurd (omega arith)
plain_part (suc n) at (b ∷ rest) h plain =
    let place : at + 1 + n ≡ at + suc n = omega arith in
    ap (λ (r : Result (Sign × ℕ) TextFault). in_front r (λ (k : ℕ). pieces_past mode.Path (at + 1) rest k)) (plain_sign at b rest (b == dollar) (b == nul) (b == tab) (plain 0 (omega arith)))
    ∙ ap (all_onto (Byte b)) (plain_part n (at + 1) rest (omega arith) (λ k l. plain (suc k) (omega (arith, l))))
    ∙ byte_onto b (take n rest) (pieces_from mode.Path (at + 1 + n) (drop n rest))
    ∙ ap (λ (k : ℕ). map_pieces (bytes_onto (b ∷ take n rest)) (pieces_from mode.Path k (drop n rest))) place

not_special : (e s : Bool) → not (e || s) ≡ true → s ≡ false
not_special true s h = absurd cc
not_special false true h = absurd cc
not_special false false h = refl

-- the bytes before the first one that doesn't stand for itself
pub plain_bytes : (n : ℕ) (v : List ℕ) → n ≡ prefix_len is_plain v → (k : ℕ) → k < n → is_special mode.Path (get_or v k 0) ≡ false
plain_bytes n v e k l = not_special (ends_path (get_or v k 0)) (is_special mode.Path (get_or v k 0)) (prefix_len_passes is_plain v k 0 (omega (arith, l, e)))

short_bytes : (bytes : List ℕ) (more : List Piece) → length bytes ≤ 1 → onto (sign_of_bytes bytes) more ≡ bytes_onto bytes more
short_bytes [] more h = refl
short_bytes (b ∷ []) more h = refl
short_bytes (b ∷ c ∷ bytes) more h = absurd (omega arith)

short_onto : (p : PathPart) (more : List Piece) → IsShort p → onto (sign_of p) more ≡ part_onto p more
short_onto (part.Text bytes) more h = short_bytes bytes.now more h
short_onto (part.Name name) more h = refl

all_short : (p : PathPart) (r : Result (List Piece) TextFault) → IsShort p → all_onto (sign_of p) r ≡ map_pieces (part_onto p) r
all_short p (Ok v) h = ap (λ (x : List Piece). Ok x) (short_onto p v h)
all_short p (Err e) h = refl

-- an escape, and the pieces that follow
pub escape_part : (at : ℕ) (v : List ℕ) (p : PathPart) (n : ℕ) → n ≤ length v → escape v ≡ Some (sign_of p, n) → IsShort p
    → pieces_from mode.Path at (dollar ∷ v) ≡ map_pieces (part_onto p) (pieces_from mode.Path (at + (1 + n)) (drop (1 + n) (dollar ∷ v)))
escape_part at v p n within is short =
    let place : at + 1 + n ≡ at + (1 + n) = omega arith in
    let one : suc n ≡ 1 + n = omega arith in
    ap (λ (o : Option (Sign × ℕ)). in_front (or_bad at o) (λ (k : ℕ). pieces_past mode.Path (at + 1) v k)) is
    ∙ ap (all_onto (sign_of p)) (skipped (at + 1) v n within)
    ∙ all_short p (pieces_past mode.Path (at + 1 + n) (drop n v) 0) short
    ∙ ap (λ (k : ℕ). map_pieces (part_onto p) (pieces_from mode.Path k (drop n v))) place
    ∙ ap (λ (k : ℕ). map_pieces (part_onto p) (pieces_from mode.Path (at + (1 + n)) (drop k (dollar ∷ v)))) one

no_size : (o : Option (Sign × ℕ)) → size_of o ≡ None → o ≡ None
no_size None h = refl
no_size (Some x) h = absurd cc

-- a `$` without an escape
pub no_escape : (at : ℕ) (v : List ℕ) → escape_size v ≡ None → pieces_from mode.Path at (dollar ∷ v) ≡ Err (text.BadEscape at)
no_escape at v h = ap (λ (o : Option (Sign × ℕ)). in_front (or_bad at o) (λ (k : ℕ). pieces_past mode.Path (at + 1) v k)) (no_size (escape v) h)

braced_go : (b : ℕ) (name rest : List ℕ) (len : ℕ) (t : Bool) → b ∷ name ≡ take (length (b ∷ name)) rest → size_of (cond {A = Option (Sign × ℕ)} t (Some (Name (b ∷ name), length (b ∷ name) + 2)) None) ≡ Some len
    → cond {A = Option (Sign × ℕ)} t (Some (Name (b ∷ name), length (b ∷ name) + 2)) None ≡ Some (Name (take (len - 1 - 1) rest), len)
braced_go b name rest len true e h =
    let size : length (b ∷ name) + 2 ≡ len = cc in
    let less : length (b ∷ name) ≡ len - 1 - 1 = omega (arith, size) in
    ap (λ (v : List ℕ). Some (Name v, length (b ∷ name) + 2)) (e ∙ ap (λ (n : ℕ). take n rest) less) ∙ ap (λ (n : ℕ). Some (Name (take (len - 1 - 1) rest), n)) size
braced_go b name rest len false e h = absurd cc

braced_by : (name tail rest : List ℕ) (len : ℕ) → name ≡ take (length name) rest → size_of (braced_name name tail) ≡ Some len → braced_name name tail ≡ Some (Name (take (len - 1 - 1) rest), len)
braced_by [] tail rest len e h = absurd cc
braced_by (b ∷ name) tail rest len e h = braced_go b name rest len (begins_with right_brace tail) e h

taken : (p : ℕ → Bool) (v : List ℕ) → take_while p v ≡ take (length (take_while p v)) v
taken p v = ap (λ (n : ℕ). take n v) (sym (length-prefix_len p v))

-- a text that begins with an escape is not empty
pub sized : (v : List ℕ) (len : ℕ) → escape_size v ≡ Some len → 0 < length v
sized [] len h = absurd cc
sized (b ∷ rest) len h = omega arith

-- a name in braces
pub braced_escape : (v : List ℕ) (len : ℕ) → 0 < length v → slice_index_or v 0 0 ≡ left_brace → escape_size v ≡ Some len → escape v ≡ Some (Name (take (len - 1 - 1) (drop 1 v)), len)
braced_escape [] len some first h = absurd (omega arith)
braced_escape (b ∷ rest) len some first h =
    let is : escape (b ∷ rest) ≡ braced_name (take_while is_name_byte rest) (drop (prefix_len is_name_byte rest) rest) = ap (λ (c : ℕ). escape (c ∷ rest)) first in
    is ∙ braced_by (take_while is_name_byte rest) (drop (prefix_len is_name_byte rest) rest) rest len (taken is_name_byte rest) (sym (ap size_of is) ∙ h)

bare_by : (name v : List ℕ) (len : ℕ) → name ≡ take (length name) v → size_of (bare_name name) ≡ Some len → bare_name name ≡ Some (Name (take len v), len)
bare_by [] v len e h = absurd cc
bare_by (b ∷ name) v len e h =
    let size : length (b ∷ name) ≡ len = cc in
    ap (λ (w : List ℕ). Some (Name w, length (b ∷ name))) e ∙ ap (λ (n : ℕ). Some (Name (take n v), n)) size

neither : (a b : Bool) → (a || b) ≡ false → (a ≡ false) × (b ≡ false)
neither true b h = absurd cc
neither false b h = (refl, h)

-- a name without braces
pub bare_escape : (v : List ℕ) (len : ℕ) → (slice_index_or v 0 0 == dollar || slice_index_or v 0 0 == space || slice_index_or v 0 0 == colon) ≡ false
    → (slice_index_or v 0 0 == line_feed || slice_index_or v 0 0 == carriage_return) ≡ false → (slice_index_or v 0 0 ≡ left_brace → ⊥) → escape_size v ≡ Some len → escape v ≡ Some (Name (take len v), len)
bare_escape [] len e l b h = absurd cc
bare_escape (x ∷ rest) len e l b h =
    let ends = neither (x == line_feed) (x == carriage_return) l in
    let brace : (x == left_brace) ≡ false = ne_eqb x left_brace b in
    let is : escape (x ∷ rest) ≡ bare_name (take_while is_bare_name_byte (x ∷ rest)) = rw (e, ends.0, ends.1, brace) refl in
    is ∙ bare_by (take_while is_bare_name_byte (x ∷ rest)) (x ∷ rest) len (taken is_bare_name_byte (x ∷ rest)) (sym (ap size_of is) ∙ h)

one_byte : (v : List ℕ) → 0 < length v → (slice_index_or v 0 0 ≡ dollar → ⊥) → (slice_index_or v 0 0 ≡ nul → ⊥) → (slice_index_or v 0 0 ≡ tab → ⊥)
    → (k : ℕ) → k < 1 → is_special mode.Path (get_or v k 0) ≡ false
one_byte [] some d n t k l = absurd (omega arith)
one_byte (b ∷ rest) some d n t zero l = rw (ne_eqb b dollar d, ne_eqb b nul n, ne_eqb b tab t) refl
one_byte (b ∷ rest) some d n t (suc k) l = absurd (omega arith)

-- one byte that stands for itself, and the pieces that follow
pub byte_part : (at : ℕ) (v : List ℕ) → 0 < length v → (slice_index_or v 0 0 ≡ dollar → ⊥) → (slice_index_or v 0 0 ≡ nul → ⊥) → (slice_index_or v 0 0 ≡ tab → ⊥)
    → pieces_from mode.Path at v ≡ map_pieces (bytes_onto (take 1 v)) (pieces_from mode.Path (at + 1) (drop 1 v))
byte_part at v some d n t = plain_part 1 at v (omega (arith, some)) (one_byte v some d n t)
