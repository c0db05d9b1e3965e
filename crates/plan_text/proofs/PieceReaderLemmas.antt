-- Pieces read from left to right. Lemmas for src/piece_reader.rt.
use Rattle.std.proofs.Common.{◌≡◌, ℕ, zero, suc, ◌+◌, ◌<◌, ◌≤◌, ◌==◌, Bool, true, false, ◌||◌, ◌&&◌, cond, List, [], ◌∷◌, ◌++◌, length, get_or, take, drop, Result, Ok, Err, refl, sym, ap, ◌∙◌, append_assoc, arith, add-zero}
use Rattle.std.proofs.lemmas.List.{drop_more, drop-drop, at_drop_all, take_all}
use Rattle.std.proofs.lemmas.List.Sums.{fails_before_first}
use Rattle.std.specs.List.{position_or_len}
use Rattle.plan_text.specs.Bytes.{nul, tab, dollar}
use Rattle.plan_text.specs.declared.piece_reader.Mode.TheVariants.{Path, Value}
use Rattle.plan_text.specs.declared.fault.TextFault.{TextFault}
use Rattle.plan_text.specs.declared.piece_reader.Mode.{Mode}
use Rattle.plan_text.specs.declared.piece_reader.Gather.{Gather}
use Rattle.plan_text.specs.declared.piece_reader.Piece.{Piece}
use Rattle.plan_text.specs.declared.piece_reader.Piece.TheVariants.{Literal, Reference}
use Rattle.plan_text.specs.Pieces.{literal_of, Sign, Byte, onto, all_onto, in_front, sign_at, pieces_past}
use Rattle.plan_text.specs.Gathering.{is_special, bytes_onto, gathered_pieces, Gathers}

-- adds the pieces read so far before the pieces of the rest
abbrev pub with_front : Gather → Result (List Piece) TextFault → Result (List Piece) TextFault
with_front g (Ok more) = Ok (gathered_pieces g more)
with_front g (Err fault) = Err fault

-- skipping bytes is reading the text after them
past_skipped : (m : Mode) (at : ℕ) (text : List ℕ) (n : ℕ) → pieces_past m at text n ≡ pieces_past m (at + n) (drop n text) 0
past_skipped m at [] zero = refl
past_skipped m at [] (suc n) = refl
past_skipped m at (b ∷ rest) zero = rw (add-zero at) refl
past_skipped m at (b ∷ rest) (suc n) =
    past_skipped m (at + 1) rest n ∙ ap (λ (k : ℕ). pieces_past m k (drop n rest) 0) (omega arith)

bytes_onto-append : (a b : List ℕ) (more : List Piece) → bytes_onto (a ++ b) more ≡ bytes_onto a (bytes_onto b more)
bytes_onto-append [] b more = refl
bytes_onto-append (x ∷ a) b more = ap (onto (Byte x)) (bytes_onto-append a b more)

-- bytes before a reference form one literal
bytes_onto-reference : (bytes name : List ℕ) (more : List Piece) → bytes_onto bytes (Reference name ∷ more) ≡ literal_of bytes ++ Reference name ∷ more
bytes_onto-reference [] name more = refl
bytes_onto-reference (b ∷ []) name more = refl
bytes_onto-reference (b ∷ c ∷ bytes) name more = ap (onto (Byte b)) (bytes_onto-reference (c ∷ bytes) name more)

bytes_onto-end : (bytes : List ℕ) → bytes_onto bytes [] ≡ literal_of bytes
bytes_onto-end [] = refl
bytes_onto-end (b ∷ []) = refl
bytes_onto-end (b ∷ c ∷ bytes) = ap (onto (Byte b)) (bytes_onto-end (c ∷ bytes))

with_front-onto : (old new : Gather) (sign : Sign) → Gathers old sign new → (r : Result (List Piece) TextFault) → with_front new r ≡ with_front old (all_onto sign r)
with_front-onto old new sign h (Ok more) = ap (λ (v : List Piece). Ok v) (h more)
with_front-onto old new sign h (Err fault) = refl

-- reading a text is reading its first byte or escape, and then the rest
read_at : (m : Mode) (base at : ℕ) (text : List ℕ) → at < length text
    → pieces_past m (base + at) (drop at text) 0 ≡ in_front (sign_at m (base + at) (get_or text at 0) (drop (at + 1) text)) (λ n. pieces_past m (base + at + 1) (drop (at + 1) text) n)
read_at m base at text h = ap (λ (v : List ℕ). pieces_past m (base + at) v 0) (drop_more text at 0 h)

-- the step of the loop over one byte or escape
pub goes_on : (m : Mode) (base at more : ℕ) (text : List ℕ) (sign : Sign) (old new : Gather) (all : Result (List Piece) TextFault) → at < length text
    → sign_at m (base + at) (get_or text at 0) (drop (at + 1) text) ≡ Ok (sign, more) → Gathers old sign new
    → with_front old (pieces_past m (base + at) (drop at text) 0) ≡ all → with_front new (pieces_past m (base + (at + (1 + more))) (drop (at + (1 + more)) text) 0) ≡ all
goes_on m base at more text sign old new all h found gathers so_far =
    let here : pieces_past m (base + at) (drop at text) 0 ≡ all_onto sign (pieces_past m (base + at + 1) (drop (at + 1) text) more) =
    read_at m base at text h ∙ ap (λ (r : Result (Sign × ℕ) TextFault). in_front r (λ n. pieces_past m (base + at + 1) (drop (at + 1) text) n)) found in
    let place : base + at + 1 + more ≡ base + (at + (1 + more)) = omega arith in
    let there : pieces_past m (base + at + 1) (drop (at + 1) text) more ≡ pieces_past m (base + (at + (1 + more))) (drop (at + (1 + more)) text) 0 =
    past_skipped m (base + at + 1) (drop (at + 1) text) more
    ∙ ap (λ (v : List ℕ). pieces_past m (base + at + 1 + more) v 0) (drop-drop more (at + 1) text)
    ∙ ap (λ (k : ℕ). pieces_past m k (drop (at + 1 + more) text) 0) place
    ∙ ap (λ (k : ℕ). pieces_past m (base + (at + (1 + more))) (drop k text) 0) (omega arith) in
    ap (with_front new) (sym there) ∙ with_front-onto old new sign gathers (pieces_past m (base + at + 1) (drop (at + 1) text) more) ∙ ap (with_front old) (sym here) ∙ so_far

-- adds bytes before the pieces of the text after them
abbrev bytes_all_onto : List ℕ → Result (List Piece) TextFault → Result (List Piece) TextFault
bytes_all_onto bytes (Ok more) = Ok (bytes_onto bytes more)
bytes_all_onto bytes (Err fault) = Err fault

bytes_all_onto-none : (r : Result (List Piece) TextFault) → r ≡ bytes_all_onto [] r
bytes_all_onto-none (Ok more) = refl
bytes_all_onto-none (Err fault) = refl

bytes_all_onto-more : (b : ℕ) (bytes : List ℕ) (r : Result (List Piece) TextFault) → all_onto (Byte b) (bytes_all_onto bytes r) ≡ bytes_all_onto (b ∷ bytes) r
bytes_all_onto-more b bytes (Ok more) = refl
bytes_all_onto-more b bytes (Err fault) = refl

path_go : {A : Type 0} (x y z w : A) (d n t : Bool) → (d || n || t) ≡ false → cond d x (cond n y (cond (t && true) z w)) ≡ w
path_go x y z w false false false e = refl
path_go x y z w false false true e = absurd cc
path_go x y z w false true t e = absurd cc
path_go x y z w true n t e = absurd cc

value_go : {A : Type 0} (x y z w : A) (d n t : Bool) → (d || n) ≡ false → cond d x (cond n y (cond (t && false) z w)) ≡ w
value_go x y z w false false false e = refl
value_go x y z w false false true e = refl
value_go x y z w false true t e = absurd cc
value_go x y z w true n t e = absurd cc

-- the meaning of a byte that stands for itself
plain_sign : (m : Mode) (at b : ℕ) (rest : List ℕ) → is_special m b ≡ false → sign_at m at b rest ≡ Ok (Byte b, 0)
plain_sign Path at b rest e = path_go _ _ _ _ (b == dollar) (b == nul) (b == tab) e
plain_sign Value at b rest e = value_go _ _ _ _ (b == dollar) (b == nul) (b == tab) e

-- the pieces of a text that begins with bytes that stand for themselves
plain_past : (m : Mode) (at : ℕ) (text : List ℕ) (n : ℕ) → n ≤ length text → ((k : ℕ) → k < n → is_special m (get_or text k 0) ≡ false)
    → pieces_past m at text 0 ≡ bytes_all_onto (take n text) (pieces_past m (at + n) (drop n text) 0)
plain_past m at text zero h plain = rw (add-zero at) (bytes_all_onto-none (pieces_past m at text 0))
plain_past m at [] (suc n) h plain = absurd (omega arith)
plain_past m at (b ∷ rest) (suc n) h plain =
    let place : at + 1 + n ≡ at + suc n = omega arith in
    ap (λ (r : Result (Sign × ℕ) TextFault). in_front r (λ n. pieces_past m (at + 1) rest n)) (plain_sign m at b rest (plain 0 (omega arith)))
    ∙ ap (all_onto (Byte b)) (plain_past m (at + 1) rest n (omega arith) (λ k l. plain (suc k) (omega arith)))
    ∙ bytes_all_onto-more b (take n rest) (pieces_past m (at + 1 + n) (drop n rest) 0)
    ∙ ap (λ (k : ℕ). bytes_all_onto (b ∷ take n rest) (pieces_past m k (drop n rest) 0)) place

with_front-plain : (old new : Gather) (bytes : List ℕ) → new.done.items ≡ old.done.items → new.literal ≡ old.literal ++ bytes → (r : Result (List Piece) TextFault)
    → with_front new r ≡ with_front old (bytes_all_onto bytes r)
with_front-plain old new bytes done literal (Ok more) =
    ap (λ (v : List Piece). Ok (v ++ bytes_onto new.literal more)) done
    ∙ ap (λ (v : List ℕ). Ok (old.done.items ++ bytes_onto v more)) literal
    ∙ ap (λ (v : List Piece). Ok (old.done.items ++ v)) (bytes_onto-append old.literal bytes more)
with_front-plain old new bytes done literal (Err fault) = refl

-- the step of the loop over a run of bytes that stand for themselves
pub passes_plain : (m : Mode) (base at n : ℕ) (text rest : List ℕ) (old new : Gather) (all : Result (List Piece) TextFault) → rest ≡ drop at text → n ≤ length rest → n ≡ position_or_len (is_special m) rest
    → new.done.items ≡ old.done.items → new.literal ≡ old.literal ++ take n rest
    → with_front old (pieces_past m (base + at) (drop at text) 0) ≡ all → with_front new (pieces_past m (base + (at + n)) (drop (at + n) text) 0) ≡ all
passes_plain m base at n text rest old new all r h e done literal so_far =
    let within : n ≤ length (drop at text) = omega (arith, h, ap length r) in
    let first : n ≡ position_or_len (is_special m) (drop at text) = e ∙ ap (position_or_len (is_special m)) r in
    let place : base + at + n ≡ base + (at + n) = omega arith in
    let there : bytes_all_onto (take n (drop at text)) (pieces_past m (base + at + n) (drop n (drop at text)) 0) ≡ bytes_all_onto (take n (drop at text)) (pieces_past m (base + (at + n)) (drop (at + n) text) 0) =
    ap (λ (v : List ℕ). bytes_all_onto (take n (drop at text)) (pieces_past m (base + at + n) v 0)) (drop-drop n at text)
    ∙ ap (λ (k : ℕ). bytes_all_onto (take n (drop at text)) (pieces_past m k (drop (at + n) text) 0)) place in
    with_front-plain old new (take n (drop at text)) done (literal ∙ ap (λ (v : List ℕ). old.literal ++ take n v) r) (pieces_past m (base + (at + n)) (drop (at + n) text) 0)
    ∙ ap (with_front old) (sym there)
    ∙ ap (with_front old) (sym (plain_past m (base + at) (drop at text) n within (λ k l. fails_before_first (is_special m) (drop at text) k 0 (omega (arith, first)))))
    ∙ so_far

-- the pieces of a text of bytes that stand for themselves
pub plain_pieces : (m : Mode) (at : ℕ) (text : List ℕ) → ((k : ℕ) → k < length text → is_special m (get_or text k 0) ≡ false) → pieces_past m at text 0 ≡ Ok (literal_of text)
plain_pieces m at text plain =
    plain_past m at text (length text) (omega arith) plain
    ∙ ap (λ (v : List ℕ). bytes_all_onto v (pieces_past m (at + length text) (drop (length text) text) 0)) (take_all (length text) text (omega arith))
    ∙ at_drop_all (λ (v : List ℕ). bytes_all_onto text (pieces_past m (at + length text) v 0)) text (length text) (omega arith)
    ∙ ap (λ (v : List Piece). Ok v) (bytes_onto-end text)

whole_text : (text : List ℕ) → 0 < length text → literal_of text ≡ Literal text ∷ []
whole_text [] h = absurd (omega arith)
whole_text (b ∷ rest) h = refl

-- a text has no special byte if the search for one reaches its end
pub all_plain : (m : Mode) (at : ℕ) (text : List ℕ) → 0 < length text → length text ≤ position_or_len (is_special m) text → pieces_past m at text 0 ≡ Ok (Literal text ∷ [])
all_plain m at text some plain =
    plain_pieces m at text (λ k l. fails_before_first (is_special m) text k 0 (omega (arith, plain)))
    ∙ ap (λ (v : List Piece). Ok v) (whole_text text some)

-- the loop stops at a fault
pub stops : (m : Mode) (base at : ℕ) (text : List ℕ) (fault : TextFault) (old : Gather) (all : Result (List Piece) TextFault) → at < length text
    → sign_at m (base + at) (get_or text at 0) (drop (at + 1) text) ≡ Err fault → with_front old (pieces_past m (base + at) (drop at text) 0) ≡ all → all ≡ Err fault
stops m base at text fault old all h found so_far =
    sym so_far ∙ ap (with_front old) (read_at m base at text h)
    ∙ ap (λ (r : Result (Sign × ℕ) TextFault). with_front old (in_front r (λ n. pieces_past m (base + at + 1) (drop (at + 1) text) n))) found

-- appends one byte to the literal
pub gathers_byte : (done new_done : List Piece) (bytes more_bytes : List ℕ) (b : ℕ) → new_done ≡ done → more_bytes ≡ bytes ++ b ∷ [] → (more : List Piece) → new_done ++ bytes_onto more_bytes more ≡ done ++ bytes_onto bytes (onto (Byte b) more)
gathers_byte done new_done bytes more_bytes b d e more =
    ap (λ (v : List Piece). v ++ bytes_onto more_bytes more) d ∙ ap (λ (v : List ℕ). done ++ bytes_onto v more) e ∙ ap (λ (v : List Piece). done ++ v) (bytes_onto-append bytes (b ∷ []) more)

-- appends a reference, after the literal before it
pub gathers_name : (done flushed added : List Piece) (bytes left name : List ℕ) → flushed ≡ done ++ literal_of bytes → added ≡ flushed ++ Reference name ∷ [] → left ≡ []
    → (more : List Piece) → added ++ bytes_onto left more ≡ done ++ bytes_onto bytes (Reference name ∷ more)
gathers_name done flushed added bytes left name e f g more =
    ap (λ (v : List ℕ). added ++ bytes_onto v more) g ∙ ap (λ (v : List Piece). v ++ more) (f ∙ ap (λ (v : List Piece). v ++ Reference name ∷ []) e)
    ∙ append_assoc (done ++ literal_of bytes) (Reference name ∷ []) more ∙ append_assoc done (literal_of bytes) (Reference name ∷ more)
    ∙ ap (λ (v : List Piece). done ++ v) (sym (bytes_onto-reference bytes name more))

-- the loop stops at the end of the text
pub ends : (m : Mode) (base at : ℕ) (text : List ℕ) (old : Gather) (done : List Piece) (all : Result (List Piece) TextFault) → length text ≤ at
    → done ≡ old.done.items ++ literal_of old.literal → with_front old (pieces_past m (base + at) (drop at text) 0) ≡ all → all ≡ Ok done
ends m base at text old done all h e so_far =
    sym so_far ∙ at_drop_all (λ (v : List ℕ). with_front old (pieces_past m (base + at) v 0)) text at h
    ∙ ap (λ (v : List Piece). Ok v) (ap (λ (v : List Piece). old.done.items ++ v) (bytes_onto-end old.literal) ∙ sym e)
