-- The rest of a line is read again from its text. Lemmas for src/reading.rt and src/statement_reader.rt.
use Rattle.std.proofs.Common.{◌≡◌, ℕ, ◌+◌, ◌-◌, ◌≤◌, ◌==◌, Bool, true, false, ◌&&◌, not, ◌||◌, cond, List, [], ◌∷◌, length, take, drop, Result, Ok, Err, refl, sym, ap, subst, ◌∙◌, arith}
use Rattle.std.specs.List.{prefix_len}
use Rattle.std.proofs.lemmas.List.{take-take, drop-take, drop-drop, length-drop, length-take-le}
use Rattle.std.proofs.lemmas.List.Sums.{prefix_len-le-length}
use Rattle.plan_text.specs.Bytes.{bar, at_sign, equals_sign, is_name_byte, begins_with}
use Rattle.plan_text.specs.Lines.{gap_unit, gap_len}
use Rattle.plan_text.specs.Outcome.{◌>>=◌}
use Rattle.plan_text.specs.declared.piece_reader.Piece.{Piece}
use Rattle.plan_parse.specs.declared.fault.ParseFault.{ParseFault}
use Rattle.plan_parse.specs.declared.fault.ParseFault.TheVariants as fault
use Rattle.plan_parse.specs.declared.compact.Span.{Span}
use Rattle.plan_parse.specs.declared.statement.Binding.{Binding}
use Rattle.plan_parse.specs.declared.compact.CompactPath.TheVariants as path
use Rattle.plan_parse.specs.declared.compact.CompactValue.{CompactValue}
use Rattle.plan_parse.specs.Kinds.{Statement}
use Rattle.plan_parse.specs.Kinds as kind
use Rattle.plan_parse.specs.Reading.{Place, past, past_gap, name_of, name_at, byte_at, path_at, value_at}
use Rattle.plan_parse.specs.Statements.{binding_at, is_bar, is_two_bars}
use Rattle.plan_parse.specs.Compact.{StandsIn, line_in, path_pieces, pieces_or_none, path_in, value_in, variable_in, binding_or_empty, binding_in}
use Rattle.plan_parse.proofs.ReadingLemmas.{run_within}

-- after some bytes are skipped, the rest of a line is still a line of the text
pub past_stands : (text : List ℕ) (n : ℕ) (p : Place) → n ≤ length p.bytes → StandsIn text p → StandsIn text (past n p)
past_stands text n p within stands =
    let m = length p.bytes - n in
    let all : length p.bytes ≡ n + m = omega (arith, within) in
    ap (drop n) stands
    ∙ ap (λ (k : ℕ). drop n (take k (drop p.at text))) all
    ∙ drop-take n m (drop p.at text)
    ∙ ap (take m) (drop-drop n p.at text)
    ∙ ap (λ (k : ℕ). take k (drop (p.at + n) text)) (sym (length-drop n p.bytes))

-- after a gap
pub gap_stands : (text : List ℕ) (p : Place) → StandsIn text p → StandsIn text (past_gap p)
gap_stands text p stands = past_stands text (gap_len p.bytes) p (run_within gap_unit p.bytes 0) stands

unless : {A : Type 0} (t : Bool) (e : ParseFault) (y x : A) → cond t (Err e) (Ok y) ≡ Ok x → y ≡ x
unless true e y x h = absurd cc
unless false e y x h = cc

where_true : {A : Type 0} (t : Bool) (e : ParseFault) (y x : A) → cond t (Ok y) (Err e) ≡ Ok x → (t ≡ true) × (y ≡ x)
where_true true e y x h = (refl, cc)
where_true false e y x h = absurd cc

begun : (b : ℕ) (v : List ℕ) → begins_with b v ≡ true → 1 ≤ length v
begun b [] h = absurd cc
begun b (c ∷ v) h = omega arith

begun_twice : (a b : ℕ) (v : List ℕ) → begins_with a v ≡ true → begins_with b (drop 1 v) ≡ true → 2 ≤ length v
begun_twice a b [] h k = absurd cc
begun_twice a b (c ∷ []) h k = absurd cc
begun_twice a b (c ∷ d ∷ v) h k = omega arith

both_true : (a b : Bool) → (a && b) ≡ true → (a ≡ true) × (b ≡ true)
both_true true b h = (refl, h)
both_true false b h = absurd cc

-- after a name
pub name_stands : (text : List ℕ) (p : Place) (x : List ℕ × Place) → StandsIn text p → name_at p ≡ Ok x → StandsIn text x.1
name_stands text p x stands read =
    let n = prefix_len is_name_byte p.bytes in
    let same : (name_of p, past_gap (past n p)) ≡ x = unless (n == 0) _ (name_of p, past_gap (past n p)) x read in
    let here : past_gap (past n p) ≡ x.1 = ap (λ (y : List ℕ × Place). y.1) same in
    subst (StandsIn text) here (gap_stands text (past n p) (past_stands text n p (prefix_len-le-length is_name_byte p.bytes) stands))

-- after a byte
pub byte_stands : (text : List ℕ) (b : ℕ) (expected : ℕ → ParseFault) (p q : Place) → StandsIn text p → byte_at b expected p ≡ Ok q → StandsIn text q
byte_stands text b expected p q stands read =
    let found = where_true (begins_with b p.bytes) _ (past_gap (past 1 p)) q read in
    subst (StandsIn text) found.1 (gap_stands text (past 1 p) (past_stands text 1 p (begun b p.bytes found.0) stands))

-- after `|`
pub bar_stands : (text : List ℕ) (p : Place) → StandsIn text p → is_bar p ≡ true → StandsIn text (past 1 p)
bar_stands text p stands is = past_stands text 1 p (begun bar p.bytes (both_true (begins_with bar p.bytes) (not (begins_with bar (drop 1 p.bytes) || begins_with at_sign (drop 1 p.bytes))) is).0) stands

-- after `||`
pub bars_stand : (text : List ℕ) (p : Place) → StandsIn text p → is_two_bars p ≡ true → StandsIn text (past 2 p)
bars_stand text p stands is =
    let both = both_true (begins_with bar p.bytes) (begins_with bar (drop 1 p.bytes)) is in
    past_stands text 2 p (begun_twice bar bar p.bytes both.0 both.1) stands

-- the place of a path of this length
pub path_place : (text : List ℕ) (span : Span) (p : Place) (n : ℕ) → n ≤ length p.bytes → StandsIn text p → span.at ≡ p.at → span.len ≡ n
    → line_in text span ≡ record { at = p.at; bytes = take n p.bytes }
path_place text span p n within stands at len =
    let bytes : take n (drop p.at text) ≡ take n p.bytes = sym (ap (take n) stands ∙ take-take n (length p.bytes) (drop p.at text) within) in
    ap (λ (k : ℕ). record { at = span.at; bytes = take k (drop span.at text) }) len
    ∙ ap (λ (k : ℕ). record { at = k; bytes = take n (drop k text) }) at
    ∙ ap (λ (v : List ℕ). record { at = p.at; bytes = v }) bytes

whole : (r : Result (List Piece) ParseFault) (v : List Piece) → r ≡ Ok v → r ≡ Ok (pieces_or_none r)
whole r v h = h ∙ ap (λ (q : Result (List Piece) ParseFault). Ok (pieces_or_none q)) (sym h)

-- a path is read again as it was
pub path_again : (text : List ℕ) (span : Span) (p : Place) (n : ℕ) (v : List Piece) → n ≤ length p.bytes → StandsIn text p → span.at ≡ p.at → span.len ≡ n
    → path_at p n ≡ Ok v → path_at p n ≡ Ok (path_in text (path.Pieces span))
path_again text span p n v within stands at len read =
    whole (path_at p n) v read ∙ ap (λ (q : Place). Ok (pieces_or_none (path_pieces q))) (sym (path_place text span p n within stands at len))

-- the place of the rest of a line
line_place : (text : List ℕ) (span : Span) (p : Place) → StandsIn text p → span.at ≡ p.at → span.len ≡ length p.bytes → line_in text span ≡ p
line_place text span p stands at len =
    ap (λ (k : ℕ). record { at = span.at; bytes = take k (drop span.at text) }) len
    ∙ ap (λ (k : ℕ). record { at = k; bytes = take (length p.bytes) (drop k text) }) at
    ∙ ap (λ (v : List ℕ). record { at = p.at; bytes = v }) (sym stands)

-- a binding is read again as it was
pub binding_again : (text : List ℕ) (span : Span) (p : Place) (b : Binding) → StandsIn text p → span.at ≡ p.at → span.len ≡ length p.bytes → binding_at p ≡ Ok b
    → record { offset = p.at; kind = kind.Binding b } ≡ binding_in text span
binding_again text span p b stands at len read =
    let same : binding_at (line_in text span) ≡ Ok b = ap (λ (q : Place). binding_at q) (line_place text span p stands at len) ∙ read in
    ap (λ (k : ℕ). record { offset = k; kind = kind.Binding b }) (sym at)
    ∙ ap (λ (r : Result Binding ParseFault). record { offset = span.at; kind = kind.Binding (binding_or_empty r) }) (sym same)

-- a name is read again as it was
pub name_again : (text : List ℕ) (span : Span) (p q : Place) (name : List ℕ) → StandsIn text p → name_at p ≡ Ok (name, q) → span.at ≡ p.at → span.len ≡ length name
    → name ≡ (line_in text span).bytes
name_again text span p q name stands read at len =
    let n = prefix_len is_name_byte p.bytes in
    let within = prefix_len-le-length is_name_byte p.bytes in
    let both : (name_of p, past_gap (past n p)) ≡ (name, q) = unless (n == 0) _ (name_of p, past_gap (past n p)) (name, q) read in
    let same : take n p.bytes ≡ name = ap (λ (x : List ℕ × Place). x.0) both in
    let size : span.len ≡ n = len ∙ ap (λ (v : List ℕ). length v) (sym same) ∙ length-take-le n p.bytes within in
    sym same ∙ ap (λ (l : Place). l.bytes) (sym (path_place text span p n within stands at size))

-- a name and its right side are read again as they were
pub variable_again : (text : List ℕ) (p start q r : Place) (name : List ℕ) (span : Span) (value : CompactValue) → StandsIn text p → start ≡ past_gap p
    → name_at start ≡ Ok (name, q) → byte_at equals_sign fault.ExpectedEquals q ≡ Ok r → value_at r ≡ Ok (value_in text value) → span.at ≡ start.at → span.len ≡ length name
    → binding_at p ≡ Ok (variable_in text (record { name = span; value = value }))
variable_again text p start q r name span value stands begin named equals read at len =
    let here : StandsIn text start = subst (StandsIn text) (sym begin) (gap_stands text p stands) in
    let bound : List ℕ → List Piece → Binding = λ n v. record { name = n; value = v } in
    ap (λ (s : Place). name_at s >>= λ n. byte_at equals_sign fault.ExpectedEquals n.1 >>= λ v. value_at v >>= λ pieces. Ok (bound n.0 pieces)) (sym begin)
    ∙ ap (λ (m : Result (List ℕ × Place) ParseFault). m >>= λ n. byte_at equals_sign fault.ExpectedEquals n.1 >>= λ v. value_at v >>= λ pieces. Ok (bound n.0 pieces)) named
    ∙ ap (λ (m : Result Place ParseFault). m >>= λ v. value_at v >>= λ pieces. Ok (bound name pieces)) equals
    ∙ ap (λ (m : Result (List Piece) ParseFault). m >>= λ pieces. Ok (bound name pieces)) read
    ∙ ap (λ (n : List ℕ). Ok (bound n (value_in text value))) (name_again text span start q name here named at len)
