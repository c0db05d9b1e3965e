-- The spelling of a trace is read as that trace. Proofs for src/laws.rt.
use Rattle.std.proofs.Common.{◌≡◌, ◌<◌, ◌≤◌, ℕ, ◌+◌, ◌-◌, ◌*◌, ◌/◌, ◌%◌, ◌^◌, Bool, true, false, not, ◌&&◌, nat_le, nat_lt, List, [], ◌∷◌, ◌++◌, Option, Some, None, Ok, map, option_map, if◌then◌else◌, refl, sym, ap, ◌∙◌, append_assoc, arith, codes, length}
use Rattle.std.specs.Prelude.{◌==◌}
use Rattle.std.specs.List.{concat, flat_map, list_all, onto_first}
use Rattle.std.specs.Str.{bytes_eq}
use Rattle.std.specs.Fmt.{decimal, digit_glyph}
use Rattle.std.proofs.lemmas.Bool.{and_from, leb-true, le-leb, lt-ltb, ltb-true, ne_eqb, not_from_false, false_from_ne_true, ltb-false}
use Rattle.std.proofs.lemmas.Fmt.{decimal_nonempty, digits_decimal, digits_value-decimal}
use Rattle.std.proofs.lemmas.List.{append-nil}
use Rattle.std.proofs.lemmas.List.Splits.{length-slice_split, slice_split-cons_no, slice_split-cons_yes}
use Rattle.std.proofs.lemmas.Slice.Eq.{bytes_eq-Decides}
use Rattle.std.proofs.lemmas.Str.Parse.{FoldsDigits, IsDigitsTest, IsNumeralModel, numerals_by_fold}
use Rattle.plan_text.specs.Numerals.{at_most, is_digit, is_numeral, number_in, number_past}
use Rattle.plan_image.specs.Listing.{hex, hex_byte}
use Rattle.plan_machine.specs.Limits.{Limits}
use Rattle.plan_machine.specs.Recording.{Recording}
use Rattle.plan_machine.specs.declared.event.Event.{Event}
use Rattle.plan_machine.specs.declared.event.Event.TheVariants.{Start, Skip, Stop, Step, Reply as Hear}
use Rattle.plan_machine.specs.declared.event.reply.Reply.{Reply}
use Rattle.plan_machine.specs.declared.event.reply.Reply.TheVariants as reply
use Rattle.plan_trace.specs.declared.trace.Trace.{Trace}
use Rattle.plan_trace.specs.Laws.{are_bytes, fits, fits_event, fits_options, fits_reply, is_edge, is_stamp}
use Rattle.plan_trace.specs.Words.{byte_by, byte_of, bytes_of, digit_value, if_spelled, number_of, onto, pairs_of, parts_at, some_pairs_of}
use Rattle.plan_trace.specs.Spelling.{behind, event_line, event_words, line, options_words, recorded_words, reply_words, target_line, target_words, text_of}
use Rattle.plan_trace.specs.Reading.{behind_by, behind_targets, entry_by, event_by, event_of, events_of, options_by, options_of, path_onto, paths_of, read_of, reply_of, target_of, targets_by, targets_of, then_event, trace_of, with_events, with_head, words_of}
use Rattle.plan_trace.proofs.SpellingLaw.{both, glyph_high, glyph_low}

-- ---- bytes above a bound

abbrev above : ℕ → List ℕ → Bool
above low xs = list_all (λ b. nat_lt low b) xs

-- words without a space or an end of line
abbrev plain : List ℕ → Bool
plain word = above 32 word

append_above : (low : ℕ) (xs ys : List ℕ) → above low xs ≡ true → above low ys ≡ true → above low (xs ++ ys) ≡ true
append_above low [] ys h k = k
append_above low (x ∷ xs) ys h k =
    let parts = both (nat_lt low x) (above low xs) h in
    and_from (nat_lt low x) (above low (xs ++ ys)) parts.0 (append_above low xs ys parts.1 k)

lower : (low high : ℕ) (xs : List ℕ) → low ≤ high → above high xs ≡ true → above low xs ≡ true
lower low high [] l h = refl
lower low high (x ∷ xs) l h =
    let parts = both (nat_lt high x) (above high xs) h in
    let more = ltb-true high x parts.0 in
    and_from (nat_lt low x) (above low xs) (lt-ltb low x (omega (arith, more, l))) (lower low high xs l parts.1)

behind_above : (words : List (List ℕ)) → list_all plain words ≡ true → above 10 (behind words) ≡ true
behind_above [] h = refl
behind_above (w ∷ words) h =
    let parts = both (plain w) (list_all plain words) h in
    append_above 10 w (behind words) (lower 10 32 w (omega arith) parts.0) (behind_above words parts.1)

-- ---- cutting

is_not : (at low b : ℕ) → at ≤ low → nat_lt low b ≡ true → (b == at) ≡ false
is_not at low b l h = let more = ltb-true low b h in ne_eqb b at (λ e. omega (arith, more, l, e))

cut : (at low : ℕ) (xs ys : List ℕ) → (at == at) ≡ true → at ≤ low → above low xs ≡ true → parts_at at (xs ++ at ∷ ys) ≡ xs ∷ parts_at at ys
cut at low [] ys same l h = slice_split-cons_yes (λ b. b == at) at ys same
cut at low (x ∷ xs) ys same l h =
    let parts = both (nat_lt low x) (above low xs) h in
    slice_split-cons_no (λ b. b == at) x (xs ++ at ∷ ys) (is_not at low x l parts.0) ∙ ap (onto_first x) (cut at low xs ys same l parts.1)

uncut : (at low : ℕ) (xs : List ℕ) → at ≤ low → above low xs ≡ true → parts_at at xs ≡ xs ∷ []
uncut at low [] l h = refl
uncut at low (x ∷ xs) l h =
    let parts = both (nat_lt low x) (above low xs) h in
    slice_split-cons_no (λ b. b == at) x xs (is_not at low x l parts.0) ∙ ap (onto_first x) (uncut at low xs l parts.1)

some_part : (at : ℕ) (xs : List ℕ) → 0 < length (parts_at at xs)
some_part at xs = let e = length-slice_split (λ b. b == at) xs in omega (arith, e)

-- ---- words and lines

-- a line without its end
abbrev front : List (List ℕ) → List ℕ
front [] = []
front (w ∷ words) = w ++ behind words

words_again : (w : List ℕ) (words : List (List ℕ)) → plain w ≡ true → list_all plain words ≡ true → words_of (w ++ behind words) ≡ w ∷ words
words_again w [] is are = ap (parts_at 32) (append-nil w) ∙ uncut 32 32 w (omega arith) is
words_again w (v ∷ words) is are =
    let parts = both (plain v) (list_all plain words) are in
    cut 32 32 w (v ++ behind words) refl (omega arith) is ∙ ap (λ (x : List (List ℕ)). w ∷ x) (words_again v words parts.0 parts.1)

record Again (words : List (List ℕ)) (rest : List ℕ) : Type 0 where
  lines : parts_at 10 (line words ++ rest) ≡ front words ∷ parts_at 10 rest
  said : words_of (front words) ≡ words

line_again : (words : List (List ℕ)) (rest : List ℕ) → 0 < length words → list_all plain words ≡ true → Again words rest
line_again [] rest some are = absurd (omega (arith, some))
line_again (w ∷ words) rest some are =
    let parts = both (plain w) (list_all plain words) are in
    let apart : line (w ∷ words) ++ rest ≡ (w ++ behind words) ++ 10 ∷ rest
    = append_assoc (w ++ behind words) (10 ∷ []) rest in
    let clear : above 10 (w ++ behind words) ≡ true
    = append_above 10 w (behind words) (lower 10 32 w (omega arith) parts.0) (behind_above words parts.1) in
    record {
      lines = ap (parts_at 10) apart ∙ cut 10 10 (w ++ behind words) rest refl (omega arith) clear;
      said = words_again w words parts.0 parts.1;
    }

-- ---- numbers

are_digits : IsDigitsTest (λ ds. list_all is_digit ds ≡ true)
are_digits = record {
  empty = refl;
  parts = λ c cs e. let k = both (is_digit c) (list_all is_digit cs) e in let m = both (nat_le 48 c) (nat_le c 57) k.0 in ((leb-true 48 c m.0, leb-true c 57 m.1), k.1);
  more = λ c cs k e. and_from (is_digit c) (list_all is_digit cs) (and_from (nat_le 48 c) (nat_le c 57) (le-leb 48 c k.0) (le-leb c 57 k.1)) e;
}

folds : FoldsDigits number_past
folds = record { empty = λ n. refl; more = λ n c cs k. refl }

numerals : IsNumeralModel (λ ds. list_all is_digit ds ≡ true) (number_past 0)
numerals = numerals_by_fold (λ ds. list_all is_digit ds ≡ true) are_digits number_past folds

digits_plain : (ds : List ℕ) → list_all is_digit ds ≡ true → plain ds ≡ true
digits_plain [] h = refl
digits_plain (c ∷ cs) h =
    let parts = both (is_digit c) (list_all is_digit cs) h in
    let range = both (nat_le 48 c) (nat_le c 57) parts.0 in
    let low = leb-true 48 c range.0 in
    and_from (nat_lt 32 c) (plain cs) (lt-ltb 32 c (omega (arith, low))) (digits_plain cs parts.1)

number_plain : (n : ℕ) → n < 2 ^ 64 → plain (decimal n) ≡ true
number_plain n h = digits_plain (decimal n) (digits_decimal numerals n h)

number_again : (most n : ℕ) → n < 2 ^ 64 → nat_le n most ≡ true → number_of most (decimal n) ≡ Some n
number_again most n h fits =
    let some = decimal_nonempty n h in
    let value : number_past 0 (decimal n) ≡ n = digits_value-decimal numerals n h in
    let is : is_numeral (decimal n) ≡ true
    = and_from (not (length (decimal n) == 0)) (list_all is_digit (decimal n)) (not_from_false (length (decimal n) == 0) (ne_eqb (length (decimal n)) 0 (λ e. omega (arith, some, e)))) (digits_decimal numerals n h) in
    let bounded : at_most most (decimal n) ≡ Some n
    = ap (λ (v : ℕ). if nat_le v most then Some v else None) value ∙ ap (λ (b : Bool). if b then Some n else None) fits in
    let read : number_in most (decimal n) ≡ Some n = ap (λ (b : Bool). if b then at_most most (decimal n) else None) is ∙ bounded in
    ap (if_spelled (decimal n)) read ∙ ap (λ (b : Bool). if b then Some n else None) ((bytes_eq-Decides (decimal n) (decimal n)).1 refl)

edge_small : (e : ℕ) → is_edge e ≡ true → e < 2 ^ 64
edge_small e h = let l = leb-true e 4294967295 h in omega (arith, l)

stamp_small : (n : ℕ) → is_stamp n ≡ true → n < 2 ^ 64
stamp_small n h = let l = leb-true n 18446744073709551615 h in omega (arith, l)

edge_again : (e : ℕ) → is_edge e ≡ true → number_of 4294967295 (decimal e) ≡ Some e
edge_again e h = number_again 4294967295 e (edge_small e h) h

-- ---- bytes

glyph_plain : (v : ℕ) → nat_lt 32 (digit_glyph false v) ≡ true
glyph_plain v = by_test (nat_lt v 10) refl
  where
    by_test : (b : Bool) → nat_lt v 10 ≡ b → nat_lt 32 (digit_glyph false v) ≡ true
    by_test true is = let e = glyph_low v (ltb-true v 10 is) in rw e (lt-ltb 32 (48 + v) (omega arith))
    by_test false is = let e = glyph_high v (ltb-false v 10 is) in rw e (lt-ltb 32 (87 + v) (omega arith))

digit_again : (v : ℕ) → v < 16 → digit_value (digit_glyph false v) ≡ Some v
digit_again v small = by_test (nat_lt v 10) refl
  where
    by_test : (b : Bool) → nat_lt v 10 ≡ b → digit_value (digit_glyph false v) ≡ Some v
    by_test true is =
        let less = ltb-true v 10 is in
        let low : nat_le 48 (48 + v) ≡ true = le-leb 48 (48 + v) (omega arith) in
        let high : nat_le (48 + v) 57 ≡ true = le-leb (48 + v) 57 (omega (arith, less)) in
        let value : (48 + v) - 48 ≡ v = omega arith in
        ap digit_value (glyph_low v less)
        ∙ (ap (λ (b : Bool). if b then Some ((48 + v) - 48) else if nat_le 97 (48 + v) && nat_le (48 + v) 102 then Some ((48 + v) - 87) else None) (and_from (nat_le 48 (48 + v)) (nat_le (48 + v) 57) low high)
        ∙ ap Some value)
    by_test false is =
        let more = ltb-false v 10 is in
        let past : (nat_le 48 (87 + v) && nat_le (87 + v) 57) ≡ false = false_from_ne_true (nat_le 48 (87 + v) && nat_le (87 + v) 57) (λ h. let k = both (nat_le 48 (87 + v)) (nat_le (87 + v) 57) h in let l = leb-true (87 + v) 57 k.1 in omega (arith, l)) in
        let low : nat_le 97 (87 + v) ≡ true = le-leb 97 (87 + v) (omega (arith, more)) in
        let high : nat_le (87 + v) 102 ≡ true = le-leb (87 + v) 102 (omega (arith, small)) in
        let value : (87 + v) - 87 ≡ v = omega arith in
        ap digit_value (glyph_high v more)
        ∙ (ap (λ (b : Bool). if b then Some ((87 + v) - 48) else if nat_le 97 (87 + v) && nat_le (87 + v) 102 then Some ((87 + v) - 87) else None) past
        ∙ (ap (λ (b : Bool). if b then Some ((87 + v) - 87) else None) (and_from (nat_le 97 (87 + v)) (nat_le (87 + v) 102) low high) ∙ ap Some value))

byte_again : (b : ℕ) → b ≤ 255 → byte_of (digit_glyph false (b / 16)) (digit_glyph false (b % 16)) ≡ Some b
byte_again b small =
    let upper = digit_again (b / 16) (omega (arith, small)) in
    let lower = digit_again (b % 16) (omega arith) in
    let whole : (b / 16) * 16 + b % 16 ≡ b = omega arith in
    ap (λ (o : Option ℕ). byte_by o (digit_value (digit_glyph false (b % 16)))) upper
    ∙ (ap (λ (o : Option ℕ). byte_by (Some (b / 16)) o) lower ∙ ap Some whole)

pairs_again : (bytes : List ℕ) → are_bytes bytes ≡ true → pairs_of (concat (map hex_byte bytes)) ≡ Some bytes
pairs_again [] h = refl
pairs_again (b ∷ bytes) h =
    let parts = both (nat_le b 255) (are_bytes bytes) h in
    ap (λ (o : Option ℕ). onto o (pairs_of (concat (map hex_byte bytes)))) (byte_again b (leb-true b 255 parts.0))
    ∙ ap (onto (Some b)) (pairs_again bytes parts.1)

not_a_dash : (x y : ℕ) (rest : List ℕ) → bytes_eq (x ∷ y ∷ rest) (codes "-") ≡ false
not_a_dash x y rest = false_from_ne_true (bytes_eq (x ∷ y ∷ rest) (codes "-")) (λ h. let e : x ∷ y ∷ rest ≡ codes "-" = (bytes_eq-Decides (x ∷ y ∷ rest) (codes "-")).0 h in let n : length (x ∷ y ∷ rest) ≡ 1 = ap length e in omega (arith, n))

bytes_again : (bytes : List ℕ) → are_bytes bytes ≡ true → bytes_of (hex bytes) ≡ Some bytes
bytes_again [] h = refl
bytes_again (b ∷ bytes) h =
    let high = digit_glyph false (b / 16) in
    let low = digit_glyph false (b % 16) in
    let rest = concat (map hex_byte bytes) in
    ap (λ (t : Bool). if t then Some [] else some_pairs_of (high ∷ low ∷ rest)) (not_a_dash high low rest) ∙ pairs_again (b ∷ bytes) h

pairs_plain : (bytes : List ℕ) → plain (concat (map hex_byte bytes)) ≡ true
pairs_plain [] = refl
pairs_plain (b ∷ bytes) =
    let high = digit_glyph false (b / 16) in
    let low = digit_glyph false (b % 16) in
    let rest = concat (map hex_byte bytes) in
    and_from (nat_lt 32 high) (plain (low ∷ rest)) (glyph_plain (b / 16)) (and_from (nat_lt 32 low) (plain rest) (glyph_plain (b % 16)) (pairs_plain bytes))

bytes_plain : (bytes : List ℕ) → plain (hex bytes) ≡ true
bytes_plain [] = refl
bytes_plain (b ∷ bytes) = pairs_plain (b ∷ bytes)

-- ---- replies

paths_again : (paths : List (List ℕ)) → list_all are_bytes paths ≡ true → paths_of (map hex paths) ≡ Some paths
paths_again [] h = refl
paths_again (path ∷ paths) h =
    let parts = both (are_bytes path) (list_all are_bytes paths) h in
    ap (λ (o : Option (List ℕ)). path_onto o (paths_of (map hex paths))) (bytes_again path parts.0) ∙ ap (path_onto (Some path)) (paths_again paths parts.1)

paths_plain : (paths : List (List ℕ)) → list_all plain (map hex paths) ≡ true
paths_plain [] = refl
paths_plain (path ∷ paths) = and_from (plain (hex path)) (list_all plain (map hex paths)) (bytes_plain path) (paths_plain paths)

record Recorded (r : Recording) : Type 0 where
  basis : is_stamp r.basis ≡ true
  command : are_bytes r.command ≡ true
  paths : list_all are_bytes r.paths ≡ true

recorded : (r : Recording) → fits_reply (reply.Entry r) ≡ true → Recorded r
recorded r h =
    let outer = both (is_stamp r.basis && are_bytes r.command) (list_all are_bytes r.paths) h in
    let inner = both (is_stamp r.basis) (are_bytes r.command) outer.0 in
    record { basis = inner.0; command = inner.1; paths = outer.1 }

entry_again : (r : Recording) → Recorded r → reply_of (recorded_words r) ≡ Some (reply.Entry r)
entry_again r k =
    ap (λ (o : Option ℕ). entry_by o (bytes_of (hex r.command)) (paths_of (map hex r.paths))) (number_again 18446744073709551615 r.basis (stamp_small r.basis k.basis) k.basis)
    ∙ (ap (λ (o : Option (List ℕ)). entry_by (Some r.basis) o (paths_of (map hex r.paths))) (bytes_again r.command k.command)
    ∙ ap (entry_by (Some r.basis) (Some r.command)) (paths_again r.paths k.paths))

reply_again : (r : Reply) → fits_reply r ≡ true → reply_of (reply_words r) ≡ Some r
reply_again (reply.Stamp n) h = ap (option_map reply.Stamp) (number_again 18446744073709551615 n (stamp_small n h) h)
reply_again (reply.Entry r) h = entry_again r (recorded r h)
reply_again (reply.Exit n) h = let l = leb-true n 255 h in ap (option_map reply.Exit) (number_again 255 n (omega (arith, l)) h)
reply_again (reply.Bytes bytes) h = ap (option_map reply.Bytes) (bytes_again bytes h)
reply_again reply.Nothing h = refl
reply_again reply.Signal h = refl
reply_again reply.NotStarted h = refl
reply_again reply.Kept h = refl
reply_again reply.Fault h = refl

one_plain : (w : List ℕ) → plain w ≡ true → list_all plain (w ∷ []) ≡ true
one_plain w h = and_from (plain w) true h refl

reply_plain : (r : Reply) → fits_reply r ≡ true → list_all plain (reply_words r) ≡ true
reply_plain (reply.Stamp n) h = one_plain (decimal n) (number_plain n (stamp_small n h))
reply_plain (reply.Entry r) h =
    let k = recorded r h in
    and_from (plain (decimal r.basis)) (list_all plain (hex r.command ∷ map hex r.paths)) (number_plain r.basis (stamp_small r.basis k.basis))
    (and_from (plain (hex r.command)) (list_all plain (map hex r.paths)) (bytes_plain r.command) (paths_plain r.paths))
reply_plain (reply.Exit n) h = let l = leb-true n 255 h in one_plain (decimal n) (number_plain n (omega (arith, l)))
reply_plain (reply.Bytes bytes) h = one_plain (hex bytes) (bytes_plain bytes)
reply_plain reply.Nothing h = refl
reply_plain reply.Signal h = refl
reply_plain reply.NotStarted h = refl
reply_plain reply.Kept h = refl
reply_plain reply.Fault h = refl

-- ---- events

heard : (e : ℕ) (words : List (List ℕ)) (r : Reply) → reply_of words ≡ Some r → event_by (codes "reply") (Some e) words ≡ Some (Hear e r)
heard e [] r h = absurd cc
heard e (w ∷ words) r h = ap (option_map (Hear e)) h

event_again : (e : Event) → fits_event e ≡ true → event_of (event_words e) ≡ Some e
event_again (Start e) h = ap (λ (o : Option ℕ). event_by (codes "start") o []) (edge_again e h)
event_again (Stop e) h = ap (λ (o : Option ℕ). event_by (codes "stop") o []) (edge_again e h)
event_again (Step e) h = ap (λ (o : Option ℕ). event_by (codes "step") o []) (edge_again e h)
event_again (Skip e w) h =
    let parts = both (is_edge e) (is_edge w) h in
    ap (λ (o : Option ℕ). event_by (codes "skip") o (decimal w ∷ [])) (edge_again e parts.0) ∙ ap (option_map (Skip e)) (edge_again w parts.1)
event_again (Hear e r) h =
    let parts = both (is_edge e) (fits_reply r) h in
    ap (λ (o : Option ℕ). event_by (codes "reply") o (reply_words r)) (edge_again e parts.0) ∙ heard e (reply_words r) r (reply_again r parts.1)

edge_plain : (e : ℕ) → is_edge e ≡ true → plain (decimal e) ≡ true
edge_plain e h = number_plain e (edge_small e h)

event_plain : (e : Event) → fits_event e ≡ true → list_all plain (event_words e) ≡ true
event_plain (Start e) h = one_plain (decimal e) (edge_plain e h)
event_plain (Stop e) h = one_plain (decimal e) (edge_plain e h)
event_plain (Step e) h = one_plain (decimal e) (edge_plain e h)
event_plain (Skip e w) h =
    let parts = both (is_edge e) (is_edge w) h in
    and_from (plain (decimal e)) (list_all plain (decimal w ∷ [])) (edge_plain e parts.0) (one_plain (decimal w) (edge_plain w parts.1))
event_plain (Hear e r) h =
    let parts = both (is_edge e) (fits_reply r) h in
    and_from (plain (decimal e)) (list_all plain (reply_words r)) (edge_plain e parts.0) (reply_plain r parts.1)

event_some : (e : Event) → 0 < length (event_words e)
event_some (Start e) = omega arith
event_some (Stop e) = omega arith
event_some (Step e) = omega arith
event_some (Skip e w) = omega arith
event_some (Hear e r) = omega arith

no_target : (e : Event) → target_of (event_words e) ≡ None
no_target (Start e) = refl
no_target (Stop e) = refl
no_target (Step e) = refl
no_target (Skip e w) = refl
no_target (Hear e r) = by_words (reply_words r)
  where
    by_words : (words : List (List ℕ)) → target_of (codes "reply" ∷ decimal e ∷ words) ≡ None
    by_words [] = refl
    by_words (w ∷ words) = refl

-- ---- lines of events

event_first : (n : ℕ) (text : List ℕ) (lines : List (List ℕ)) → 0 < length lines → events_of n (text ∷ lines) ≡ then_event n (event_of (words_of text)) (events_of (n + 1) lines)
event_first n text [] some = absurd (omega (arith, some))
event_first n text (next ∷ lines) some = refl

events_again : (n : ℕ) (events : List Event) → list_all fits_event events ≡ true → events_of n (parts_at 10 (flat_map event_line events)) ≡ Ok events
events_again n [] h = refl
events_again n (e ∷ events) h =
    let parts = both (fits_event e) (list_all fits_event events) h in
    let rest = flat_map event_line events in
    let here = line_again (event_words e) rest (event_some e) (event_plain e parts.0) in
    let said : event_of (words_of (front (event_words e))) ≡ Some e = ap event_of here.said ∙ event_again e parts.0 in
    ap (events_of n) here.lines
    ∙ (event_first n (front (event_words e)) (parts_at 10 rest) (some_part 10 rest)
    ∙ (ap (λ (o : Option Event). then_event n o (events_of (n + 1) (parts_at 10 rest))) said
    ∙ ap (then_event n (Some e)) (events_again (n + 1) events parts.1)))

-- ---- lines of targets

target_again : (e : ℕ) → is_edge e ≡ true → target_of (target_words e) ≡ Some e
target_again e h = edge_again e h

targets_first : (text : List ℕ) (lines : List (List ℕ)) → 0 < length lines → targets_of (text ∷ lines) ≡ targets_by (target_of (words_of text)) (targets_of lines)
targets_first text [] some = absurd (omega (arith, some))
targets_first text (next ∷ lines) some = refl

behind_first : (text : List ℕ) (lines : List (List ℕ)) → 0 < length lines → behind_targets (text ∷ lines) ≡ behind_by (target_of (words_of text)) (behind_targets lines) (text ∷ lines)
behind_first text [] some = absurd (omega (arith, some))
behind_first text (next ∷ lines) some = refl

record Targets (targets : List ℕ) (rest : List ℕ) : Type 0 where
  told : targets_of (parts_at 10 (flat_map target_line targets ++ rest)) ≡ targets
  left : behind_targets (parts_at 10 (flat_map target_line targets ++ rest)) ≡ parts_at 10 rest

-- events are no targets
none_again : (events : List Event) → list_all fits_event events ≡ true → Targets [] (flat_map event_line events)
none_again [] h = record { told = refl; left = refl }
none_again (e ∷ events) h =
    let parts = both (fits_event e) (list_all fits_event events) h in
    let rest = flat_map event_line events in
    let here = line_again (event_words e) rest (event_some e) (event_plain e parts.0) in
    let text = front (event_words e) in
    let some = some_part 10 rest in
    let none : target_of (words_of text) ≡ None = ap target_of here.said ∙ no_target e in
    record {
      told = ap targets_of here.lines ∙ (targets_first text (parts_at 10 rest) some ∙ ap (λ (o : Option ℕ). targets_by o (targets_of (parts_at 10 rest))) none);
      left = ap behind_targets here.lines
          ∙ (behind_first text (parts_at 10 rest) some
          ∙ (ap (λ (o : Option ℕ). behind_by o (behind_targets (parts_at 10 rest)) (text ∷ parts_at 10 rest)) none ∙ sym here.lines));
    }

targets_again : (targets : List ℕ) (rest : List ℕ) → Targets [] rest → list_all is_edge targets ≡ true → Targets targets rest
targets_again [] rest base h = base
targets_again (e ∷ targets) rest base h =
    let parts = both (is_edge e) (list_all is_edge targets) h in
    let more = flat_map target_line targets ++ rest in
    let here = line_again (target_words e) more (omega arith) (one_plain (decimal e) (edge_plain e parts.0)) in
    let text = front (target_words e) in
    let some = some_part 10 more in
    let said : target_of (words_of text) ≡ Some e = ap target_of here.said ∙ target_again e parts.0 in
    let inner = targets_again targets rest base parts.1 in
    let apart : flat_map target_line (e ∷ targets) ++ rest ≡ target_line e ++ more = append_assoc (target_line e) (flat_map target_line targets) rest in
    let lines : parts_at 10 (flat_map target_line (e ∷ targets) ++ rest) ≡ text ∷ parts_at 10 more = ap (parts_at 10) apart ∙ here.lines in
    record {
      told = ap targets_of lines
          ∙ (targets_first text (parts_at 10 more) some
          ∙ (ap (λ (o : Option ℕ). targets_by o (targets_of (parts_at 10 more))) said ∙ ap (λ (x : List ℕ). e ∷ x) inner.told));
      left = ap behind_targets lines
          ∙ (behind_first text (parts_at 10 more) some
          ∙ (ap (λ (o : Option ℕ). behind_by o (behind_targets (parts_at 10 more)) (text ∷ parts_at 10 more)) said ∙ inner.left));
    }

-- ---- the first line

record InRange (o : Limits) : Type 0 where
  some : nat_lt 0 o.jobs ≡ true
  few : nat_le o.jobs 64 ≡ true
  keep : is_edge o.keep ≡ true

in_range : (o : Limits) → fits_options o ≡ true → InRange o
in_range o h =
    let outer = both (nat_lt 0 o.jobs && nat_le o.jobs 64) (nat_le o.keep 4294967295) h in
    let inner = both (nat_lt 0 o.jobs) (nat_le o.jobs 64) outer.0 in
    record { some = inner.0; few = inner.1; keep = outer.1 }

jobs_small : (o : Limits) → InRange o → o.jobs ≤ 64
jobs_small o k = leb-true o.jobs 64 k.few

options_again : (o : Limits) → InRange o → options_of (options_words o) ≡ Some o
options_again o k =
    let few = jobs_small o k in
    let jobs : number_of 255 (decimal o.jobs) ≡ Some o.jobs = number_again 255 o.jobs (omega (arith, few)) (le-leb o.jobs 255 (omega (arith, few))) in
    ap (λ (j : Option ℕ). options_by j (number_of 4294967295 (decimal o.keep))) jobs
    ∙ (ap (options_by (Some o.jobs)) (edge_again o.keep k.keep)
    ∙ ap (λ (b : Bool). if b then Some (record { jobs = o.jobs; keep = o.keep }) else None) (and_from (nat_lt 0 o.jobs) (nat_le o.jobs 64) k.some k.few))

options_plain : (o : Limits) → InRange o → list_all plain (options_words o) ≡ true
options_plain o k =
    let few = jobs_small o k in
    let keep : list_all plain (codes "k" ∷ decimal o.keep ∷ []) ≡ true = one_plain (decimal o.keep) (edge_plain o.keep k.keep) in
    and_from (plain (decimal o.jobs)) (list_all plain (codes "k" ∷ decimal o.keep ∷ [])) (number_plain o.jobs (omega (arith, few))) keep

-- ---- traces

trace_first : (text : List ℕ) (lines : List (List ℕ)) → 0 < length lines → trace_of (text ∷ lines) ≡ with_head (options_of (words_of text)) lines
trace_first text [] some = absurd (omega (arith, some))
trace_first text (next ∷ lines) some = refl

pub read_again : (t : Trace) → fits t ≡ true → read_of (text_of t) ≡ Ok t
read_again t h =
    let outer = both (fits_options t.options && list_all is_edge t.targets) (list_all fits_event t.events) h in
    let inner = both (fits_options t.options) (list_all is_edge t.targets) outer.0 in
    let range = in_range t.options inner.0 in
    let events = flat_map event_line t.events in
    let rest = flat_map target_line t.targets ++ events in
    let here = line_again (options_words t.options) rest (omega arith) (options_plain t.options range) in
    let text = front (options_words t.options) in
    let said : options_of (words_of text) ≡ Some t.options = ap options_of here.said ∙ options_again t.options range in
    let targets = targets_again t.targets events (none_again t.events outer.1) inner.1 in
    let number = length (targets_of (parts_at 10 rest)) + 2 in
    let told : events_of number (behind_targets (parts_at 10 rest)) ≡ Ok t.events = ap (events_of number) targets.left ∙ events_again number t.events outer.1 in
    ap trace_of here.lines
    ∙ (trace_first text (parts_at 10 rest) (some_part 10 rest)
    ∙ (ap (λ (o : Option Limits). with_head o (parts_at 10 rest)) said
    ∙ (ap (with_events t.options (targets_of (parts_at 10 rest))) told
    ∙ ap (λ (ts : List ℕ). Ok (record { options = t.options; targets = ts; events = t.events })) targets.told)))
