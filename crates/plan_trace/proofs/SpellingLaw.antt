-- A text that is read as a trace is its spelling. Proofs for src/laws.rt.
use Rattle.std.proofs.Common.{◌≡◌, ◌<◌, ◌≤◌, ℕ, ◌+◌, ◌-◌, ◌*◌, ◌/◌, ◌%◌, Bool, true, false, ◌&&◌, nat_le, nat_lt, List, [], ◌∷◌, ◌++◌, Option, Some, None, Result, Ok, Err, map, option_map, if◌then◌else◌, refl, sym, ap, ◌∙◌, append_assoc, arith, codes, length}
use Rattle.std.specs.List.{concat, flat_map, join_with_byte}
use Rattle.std.specs.Str.{bytes_eq}
use Rattle.std.specs.Fmt.{decimal, digit_glyph}
use Rattle.std.proofs.lemmas.Bool.{leb-true, lt-ltb, le-ltb}
use Rattle.std.proofs.lemmas.Slice.Eq.{bytes_eq-Decides}
use Rattle.std.proofs.lemmas.List.{append-nil}
use Rattle.std.proofs.lemmas.List.Splits.{join_with_byte-slice_split}
use Rattle.plan_text.specs.Numerals.{number_in}
use Rattle.plan_image.specs.Listing.{hex, hex_byte}
use Rattle.plan_machine.specs.Limits.{Limits}
use Rattle.plan_machine.specs.declared.event.Event.{Event}
use Rattle.plan_machine.specs.declared.event.Event.TheVariants.{Start, Skip, Stop, Step, Reply as Hear}
use Rattle.plan_machine.specs.declared.event.reply.Reply.{Reply}
use Rattle.plan_machine.specs.declared.event.reply.Reply.TheVariants as reply
use Rattle.plan_trace.specs.declared.trace.Trace.{Trace}
use Rattle.plan_trace.specs.declared.fault.TraceFault.{TraceFault}
use Rattle.plan_trace.specs.Words.{byte_by, byte_of, bytes_of, digit_value, if_spelled, number_of, onto, pairs_of, parts_at, some_pairs_of}
use Rattle.plan_trace.specs.Spelling.{behind, event_line, event_words, line, options_words, reply_words, target_line, target_words, text_of}
use Rattle.plan_trace.specs.Reading.{behind_by, behind_targets, entry_by, entry_of, event_by, event_of, event_with, events_of, is_head, options_by, options_of, path_onto, paths_of, plain_event, plain_reply, read_of, reply_of, reply_with, skip_of, target_of, targets_by, targets_of, then_event, trace_of, with_events, with_head, worded_entry, words_of}

-- ---- taking results apart

nothing : {A P : Type 0} {a : A} → None ≡ Some a → P
nothing h = absurd cc

some_same : {A : Type 0} {a b : A} → Some a ≡ Some b → a ≡ b
some_same h = cc

failed : {A E P : Type 0} {e : E} {a : A} → Err e ≡ Ok a → P
failed h = absurd cc

ok_same : {A E : Type 0} {a b : A} → ◌≡◌ {A = Result A E} (Ok a) (Ok b) → a ≡ b
ok_same h = cc

not_true : {P : Type 0} → false ≡ true → P
not_true h = absurd cc

not_empty : {A P : Type 0} {x : A} {xs : List A} → x ∷ xs ≡ [] → P
not_empty h = absurd cc

-- a choice by a word
pick : {A P : Type 0} (word name : List ℕ) (x y : Option A) (z : A) → (word ≡ name → x ≡ Some z → P) → (y ≡ Some z → P) → (if bytes_eq word name then x else y) ≡ Some z → P
pick {A = A} {P = P} word name x y z here there = by_test (bytes_eq word name) refl
  where
    by_test : (b : Bool) → bytes_eq word name ≡ b → (if b then x else y) ≡ Some z → P
    by_test true is h = here ((bytes_eq-Decides word name).0 is) h
    by_test false is h = there h

record Mapped {A B : Type 0} (f : A → B) (o : Option A) (b : B) : Type 0 where
  of : A
  was : o ≡ Some of
  is : f of ≡ b

mapped : {A B : Type 0} (f : A → B) (o : Option A) (b : B) → option_map f o ≡ Some b → Mapped f o b
mapped f None b h = nothing h
mapped f (Some a) b h = record { of = a; was = refl; is = some_same h }

pub both : (a b : Bool) → (a && b) ≡ true → (a ≡ true) × (b ≡ true)
both true b h = (refl, h)
both false b h = not_true h

-- ---- numbers

spelled_by : (word : List ℕ) (o : Option ℕ) (n : ℕ) → if_spelled word o ≡ Some n → word ≡ decimal n
spelled_by word None n h = nothing h
spelled_by word (Some k) n h = pick word (decimal k) (Some k) None n (λ is same. let e : k ≡ n = some_same same in is ∙ ap decimal e) (λ none. nothing none) h

number_spelled : (most : ℕ) (word : List ℕ) (n : ℕ) → number_of most word ≡ Some n → word ≡ decimal n
number_spelled most word n h = spelled_by word (number_in most word) n h

-- ---- bytes

pub glyph_low : (v : ℕ) → v < 10 → digit_glyph false v ≡ 48 + v
glyph_low v less = rw (lt-ltb v 10 less) refl

pub glyph_high : (v : ℕ) → 10 ≤ v → digit_glyph false v ≡ 87 + v
glyph_high v more = rw (le-ltb v 10 more) refl

digit_spelled : (b v : ℕ) → digit_value b ≡ Some v → (b ≡ digit_glyph false v) × (v < 16)
digit_spelled b v = by_low (nat_le 48 b && nat_le b 57) refl
  where
    by_high : (c : Bool) → (nat_le 97 b && nat_le b 102) ≡ c → (if c then Some (b - 87) else None) ≡ Some v → (b ≡ digit_glyph false v) × (v < 16)
    by_high false is h = nothing h
    by_high true is h =
        let e : b - 87 ≡ v = some_same h in
        let in_range = both (nat_le 97 b) (nat_le b 102) is in
        let low = leb-true 97 b in_range.0 in
        let high = leb-true b 102 in_range.1 in
        let shown : b ≡ 87 + v = omega (arith, e, low) in
        (shown ∙ sym (glyph_high v (omega (arith, e, low))), omega (arith, e, high, low))

    by_low : (c : Bool) → (nat_le 48 b && nat_le b 57) ≡ c → (if c then Some (b - 48) else if nat_le 97 b && nat_le b 102 then Some (b - 87) else None) ≡ Some v
        → (b ≡ digit_glyph false v) × (v < 16)
    by_low true is h =
        let e : b - 48 ≡ v = some_same h in
        let in_range = both (nat_le 48 b) (nat_le b 57) is in
        let low = leb-true 48 b in_range.0 in
        let high = leb-true b 57 in_range.1 in
        let shown : b ≡ 48 + v = omega (arith, e, low) in
        (shown ∙ sym (glyph_low v (omega (arith, e, low, high))), omega (arith, e, high, low))
    by_low false is h = by_high (nat_le 97 b && nat_le b 102) refl h

-- the two digits of a byte
byte_spelled : (high low b : ℕ) → byte_of high low ≡ Some b → high ∷ low ∷ [] ≡ hex_byte b
byte_spelled high low b = by_digits (digit_value high) (digit_value low) refl refl
  where
    by_digits : (h l : Option ℕ) → digit_value high ≡ h → digit_value low ≡ l → byte_by h l ≡ Some b → high ∷ low ∷ [] ≡ hex_byte b
    by_digits None l is_h is_l h = nothing h
    by_digits (Some x) None is_h is_l h = nothing h
    by_digits (Some x) (Some y) is_h is_l h =
        let same : x * 16 + y ≡ b = some_same h in
        let front = digit_spelled high x is_h in
        let back = digit_spelled low y is_l in
        let upper : b / 16 ≡ x = omega (arith, same, back.1) in
        let lower : b % 16 ≡ y = omega (arith, same, back.1) in
        rw (upper, lower) (ap (λ (n : ℕ). n ∷ low ∷ []) front.0 ∙ ap (λ (n : ℕ). digit_glyph false x ∷ n ∷ []) back.0)

record Onto (b : Option ℕ) (rest : Option (List ℕ)) (bs : List ℕ) : Type 0 where
  byte : ℕ
  more : List ℕ
  first : b ≡ Some byte
  rest_is : rest ≡ Some more
  is : byte ∷ more ≡ bs

onto_apart : (b : Option ℕ) (rest : Option (List ℕ)) (bs : List ℕ) → onto b rest ≡ Some bs → Onto b rest bs
onto_apart None rest bs h = nothing h
onto_apart (Some x) None bs h = nothing h
onto_apart (Some x) (Some more) bs h = record { byte = x; more = more; first = refl; rest_is = refl; is = some_same h }

pairs_spelled : (ds bs : List ℕ) → pairs_of ds ≡ Some bs → ds ≡ concat (map hex_byte bs)
pairs_spelled [] bs h = let same : [] ≡ bs = some_same h in ap (λ (x : List ℕ). concat (map hex_byte x)) same
pairs_spelled (d ∷ []) bs h = nothing h
pairs_spelled (high ∷ low ∷ rest) bs h =
    let parts = onto_apart (byte_of high low) (pairs_of rest) bs h in
    let front : high ∷ low ∷ [] ≡ hex_byte parts.byte = byte_spelled high low parts.byte parts.first in
    let behind : rest ≡ concat (map hex_byte parts.more) = pairs_spelled rest parts.more parts.rest_is in
    let all : (high ∷ low ∷ []) ++ rest ≡ hex_byte parts.byte ++ concat (map hex_byte parts.more)
    = ap (λ (x : List ℕ). x ++ rest) front ∙ ap (λ (x : List ℕ). hex_byte parts.byte ++ x) behind in
    all ∙ ap (λ (x : List ℕ). concat (map hex_byte x)) parts.is

some_pairs_spelled : (ds bs : List ℕ) → some_pairs_of ds ≡ Some bs → ds ≡ hex bs
some_pairs_spelled [] bs h = nothing h
some_pairs_spelled (d ∷ rest) [] h = not_empty (pairs_spelled (d ∷ rest) [] h)
some_pairs_spelled (d ∷ rest) (b ∷ bs) h = pairs_spelled (d ∷ rest) (b ∷ bs) h

bytes_spelled : (word bs : List ℕ) → bytes_of word ≡ Some bs → word ≡ hex bs
bytes_spelled word bs h =
    pick word (codes "-") (Some []) (some_pairs_of word) bs
    (λ is some. let none : [] ≡ bs = some_same some in is ∙ ap hex none)
    (λ some. some_pairs_spelled word bs some) h

-- ---- replies

record PathOnto (path : Option (List ℕ)) (rest : Option (List (List ℕ))) (paths : List (List ℕ)) : Type 0 where
  one : List ℕ
  more : List (List ℕ)
  first : path ≡ Some one
  rest_is : rest ≡ Some more
  is : one ∷ more ≡ paths

path_apart : (path : Option (List ℕ)) (rest : Option (List (List ℕ))) (paths : List (List ℕ)) → path_onto path rest ≡ Some paths → PathOnto path rest paths
path_apart None rest paths h = nothing h
path_apart (Some x) None paths h = nothing h
path_apart (Some x) (Some more) paths h = record { one = x; more = more; first = refl; rest_is = refl; is = some_same h }

paths_spelled : (words paths : List (List ℕ)) → paths_of words ≡ Some paths → words ≡ map hex paths
paths_spelled [] paths h = let same : [] ≡ paths = some_same h in ap (map hex) same
paths_spelled (word ∷ words) paths h =
    let parts = path_apart (bytes_of word) (paths_of words) paths h in
    let front : word ≡ hex parts.one = bytes_spelled word parts.one parts.first in
    let behind : words ≡ map hex parts.more = paths_spelled words parts.more parts.rest_is in
    let all : word ∷ words ≡ hex parts.one ∷ map hex parts.more = ap (λ (x : List ℕ). x ∷ words) front ∙ ap (λ (x : List (List ℕ)). hex parts.one ∷ x) behind in
    all ∙ ap (map hex) parts.is

plain_spelled : (word : List ℕ) (r : Reply) → plain_reply word ≡ Some r → word ∷ [] ≡ reply_words r
plain_spelled word r h =
    pick word (codes "none") _ _ r (λ is some. let same : reply.Nothing ≡ r = some_same some in ap (λ (w : List ℕ). w ∷ []) is ∙ ap reply_words same)
    (λ h. pick word (codes "signal") _ _ r (λ is some. let same : reply.Signal ≡ r = some_same some in ap (λ (w : List ℕ). w ∷ []) is ∙ ap reply_words same)
    (λ h. pick word (codes "notstarted") _ _ r (λ is some. let same : reply.NotStarted ≡ r = some_same some in ap (λ (w : List ℕ). w ∷ []) is ∙ ap reply_words same)
    (λ h. pick word (codes "kept") _ _ r (λ is some. let same : reply.Kept ≡ r = some_same some in ap (λ (w : List ℕ). w ∷ []) is ∙ ap reply_words same)
    (λ h. pick word (codes "fault") _ _ r (λ is some. let same : reply.Fault ≡ r = some_same some in ap (λ (w : List ℕ). w ∷ []) is ∙ ap reply_words same)
    (λ none. nothing none) h) h) h) h) h

with_spelled : (word more : List ℕ) (r : Reply) → reply_with word more ≡ Some r → word ∷ more ∷ [] ≡ reply_words r
with_spelled word more r h =
    pick word (codes "stamp") _ _ r
    (λ is some.
    let found = mapped reply.Stamp (number_of 18446744073709551615 more) r some in
    let said = number_spelled 18446744073709551615 more found.of found.was in
    ap (λ (w : List ℕ). w ∷ more ∷ []) is ∙ (ap (λ (w : List ℕ). codes "stamp" ∷ w ∷ []) said ∙ ap reply_words found.is))
    (λ h. pick word (codes "exit") _ _ r
    (λ is some.
    let found = mapped reply.Exit (number_of 255 more) r some in
    let said = number_spelled 255 more found.of found.was in
    ap (λ (w : List ℕ). w ∷ more ∷ []) is ∙ (ap (λ (w : List ℕ). codes "exit" ∷ w ∷ []) said ∙ ap reply_words found.is))
    (λ h. pick word (codes "bytes") _ _ r
    (λ is some.
    let found = mapped reply.Bytes (bytes_of more) r some in
    let said = bytes_spelled more found.of found.was in
    ap (λ (w : List ℕ). w ∷ more ∷ []) is ∙ (ap (λ (w : List ℕ). codes "bytes" ∷ w ∷ []) said ∙ ap reply_words found.is))
    (λ none. nothing none) h) h) h

entry_spelled : (basis command : List ℕ) (paths : List (List ℕ)) (r : Reply) → entry_of basis command paths ≡ Some r → codes "entry" ∷ basis ∷ command ∷ paths ≡ reply_words r
entry_spelled basis command paths r = by_parts (number_of 18446744073709551615 basis) (bytes_of command) (paths_of paths) refl refl refl
  where
    by_parts : (b : Option ℕ) (c : Option (List ℕ)) (ps : Option (List (List ℕ))) → number_of 18446744073709551615 basis ≡ b → bytes_of command ≡ c → paths_of paths ≡ ps
        → entry_by b c ps ≡ Some r → codes "entry" ∷ basis ∷ command ∷ paths ≡ reply_words r
    by_parts None c ps is_b is_c is_ps h = nothing h
    by_parts (Some b) None ps is_b is_c is_ps h = nothing h
    by_parts (Some b) (Some c) None is_b is_c is_ps h = nothing h
    by_parts (Some b) (Some c) (Some ps) is_b is_c is_ps h =
        let same : reply.Entry (record { command = c; basis = b; paths = ps }) ≡ r = some_same h in
        let one = number_spelled 18446744073709551615 basis b is_b in
        let two = bytes_spelled command c is_c in
        let three = paths_spelled paths ps is_ps in
        ap (λ (w : List ℕ). codes "entry" ∷ w ∷ command ∷ paths) one
        ∙ (ap (λ (w : List ℕ). codes "entry" ∷ decimal b ∷ w ∷ paths) two
        ∙ (ap (λ (ws : List (List ℕ)). codes "entry" ∷ decimal b ∷ hex c ∷ ws) three ∙ ap reply_words same))

worded_spelled : (word basis command : List ℕ) (paths : List (List ℕ)) (r : Reply) → worded_entry word basis command paths ≡ Some r → word ∷ basis ∷ command ∷ paths ≡ reply_words r
worded_spelled word basis command paths r h =
    pick word (codes "entry") (entry_of basis command paths) None r
    (λ is some. ap (λ (w : List ℕ). w ∷ basis ∷ command ∷ paths) is ∙ entry_spelled basis command paths r some)
    (λ none. nothing none) h

reply_spelled : (words : List (List ℕ)) (r : Reply) → reply_of words ≡ Some r → words ≡ reply_words r
reply_spelled [] r h = nothing h
reply_spelled (word ∷ []) r h = plain_spelled word r h
reply_spelled (word ∷ more ∷ []) r h = with_spelled word more r h
reply_spelled (word ∷ basis ∷ command ∷ paths) r h = worded_spelled word basis command paths r h

-- ---- events

plain_event_spelled : (kind : List ℕ) (e : ℕ) (event : Event) → plain_event kind e ≡ Some event → kind ∷ decimal e ∷ [] ≡ event_words event
plain_event_spelled kind e event h =
    pick kind (codes "start") _ _ event (λ is some. let same : Start e ≡ event = some_same some in ap (λ (w : List ℕ). w ∷ decimal e ∷ []) is ∙ ap event_words same)
    (λ h. pick kind (codes "step") _ _ event (λ is some. let same : Step e ≡ event = some_same some in ap (λ (w : List ℕ). w ∷ decimal e ∷ []) is ∙ ap event_words same)
    (λ h. pick kind (codes "stop") _ _ event (λ is some. let same : Stop e ≡ event = some_same some in ap (λ (w : List ℕ). w ∷ decimal e ∷ []) is ∙ ap event_words same)
    (λ none. nothing none) h) h) h

skip_spelled : (e : ℕ) (words : List (List ℕ)) (event : Event) → skip_of e words ≡ Some event → codes "skip" ∷ decimal e ∷ words ≡ event_words event
skip_spelled e [] event h = nothing h
skip_spelled e (w ∷ v ∷ words) event h = nothing h
skip_spelled e (w ∷ []) event h =
    let found = mapped (Skip e) (number_of 4294967295 w) event h in
    let said = number_spelled 4294967295 w found.of found.was in
    ap (λ (x : List ℕ). codes "skip" ∷ decimal e ∷ x ∷ []) said ∙ ap event_words found.is

event_with_spelled : (kind : List ℕ) (e : ℕ) (words : List (List ℕ)) (event : Event) → event_with kind e words ≡ Some event → kind ∷ decimal e ∷ words ≡ event_words event
event_with_spelled kind e words event h =
    pick kind (codes "reply") _ _ event
    (λ is some.
    let found = mapped (Hear e) (reply_of words) event some in
    let said = reply_spelled words found.of found.was in
    ap (λ (w : List ℕ). w ∷ decimal e ∷ words) is ∙ (ap (λ (ws : List (List ℕ)). codes "reply" ∷ decimal e ∷ ws) said ∙ ap event_words found.is))
    (λ h. pick kind (codes "skip") _ _ event (λ is some. ap (λ (w : List ℕ). w ∷ decimal e ∷ words) is ∙ skip_spelled e words event some)
    (λ none. nothing none) h) h

event_spelled : (words : List (List ℕ)) (event : Event) → event_of words ≡ Some event → words ≡ event_words event
event_spelled [] event h = nothing h
event_spelled (kind ∷ []) event h = nothing h
event_spelled (kind ∷ edge ∷ words) event h = by_edge (number_of 4294967295 edge) words refl h
  where
    by_edge : (o : Option ℕ) (words : List (List ℕ)) → number_of 4294967295 edge ≡ o → event_by kind o words ≡ Some event → kind ∷ edge ∷ words ≡ event_words event
    by_edge None words is h = nothing h
    by_edge (Some e) [] is h = ap (λ (w : List ℕ). kind ∷ w ∷ []) (number_spelled 4294967295 edge e is) ∙ plain_event_spelled kind e event h
    by_edge (Some e) (word ∷ words) is h = ap (λ (w : List ℕ). kind ∷ w ∷ word ∷ words) (number_spelled 4294967295 edge e is) ∙ event_with_spelled kind e (word ∷ words) event h

-- ---- options and targets

target_spelled : (words : List (List ℕ)) (e : ℕ) → target_of words ≡ Some e → words ≡ target_words e
target_spelled [] e h = nothing h
target_spelled (kind ∷ []) e h = nothing h
target_spelled (kind ∷ w ∷ v ∷ words) e h = nothing h
target_spelled (kind ∷ w ∷ []) e h =
    pick kind (codes "target") (number_of 4294967295 w) None e
    (λ is some. ap (λ (x : List ℕ). x ∷ w ∷ []) is ∙ ap (λ (x : List ℕ). codes "target" ∷ x ∷ []) (number_spelled 4294967295 w e some))
    (λ none. nothing none) h

numbers_spelled : (jobs keep : List ℕ) (o : Limits) → options_by (number_of 255 jobs) (number_of 4294967295 keep) ≡ Some o → (jobs ≡ decimal o.jobs) × (keep ≡ decimal o.keep)
numbers_spelled jobs keep o = by_numbers (number_of 255 jobs) (number_of 4294967295 keep) refl refl
  where
    by_range : (b : Bool) (j k : ℕ) → (if b then Some (record { jobs = j; keep = k }) else None) ≡ Some o → (j ≡ o.jobs) × (k ≡ o.keep)
    by_range false j k h = nothing h
    by_range true j k h =
        let same : record { jobs = j; keep = k } ≡ o = some_same h in
        (ap (λ (l : Limits). l.jobs) same, ap (λ (l : Limits). l.keep) same)

    by_numbers : (j k : Option ℕ) → number_of 255 jobs ≡ j → number_of 4294967295 keep ≡ k → options_by j k ≡ Some o → (jobs ≡ decimal o.jobs) × (keep ≡ decimal o.keep)
    by_numbers None k is_j is_k h = nothing h
    by_numbers (Some j) None is_j is_k h = nothing h
    by_numbers (Some j) (Some k) is_j is_k h =
        let same = by_range (nat_lt 0 j && nat_le j 64) j k h in
        (number_spelled 255 jobs j is_j ∙ ap decimal same.0, number_spelled 4294967295 keep k is_k ∙ ap decimal same.1)

options_spelled : (words : List (List ℕ)) (o : Limits) → options_of words ≡ Some o → words ≡ options_words o
options_spelled [] o h = nothing h
options_spelled (a ∷ []) o h = nothing h
options_spelled (a ∷ b ∷ []) o h = nothing h
options_spelled (a ∷ b ∷ c ∷ []) o h = nothing h
options_spelled (a ∷ b ∷ c ∷ d ∷ []) o h = nothing h
options_spelled (a ∷ b ∷ c ∷ d ∷ e ∷ []) o h = nothing h
options_spelled (a ∷ b ∷ c ∷ d ∷ e ∷ f ∷ g ∷ words) o h = nothing h
options_spelled (name ∷ version ∷ j ∷ jobs ∷ k ∷ keep ∷ []) o h = by_head (is_head name version j k) refl h
  where
    by_head : (b : Bool) → is_head name version j k ≡ b → (if b then options_by (number_of 255 jobs) (number_of 4294967295 keep) else None) ≡ Some o
        → name ∷ version ∷ j ∷ jobs ∷ k ∷ keep ∷ [] ≡ options_words o
    by_head false is h = nothing h
    by_head true is h =
        let one = both (bytes_eq name (codes "plan-trace") && bytes_eq version (codes "1") && bytes_eq j (codes "j")) (bytes_eq k (codes "k")) is in
        let two = both (bytes_eq name (codes "plan-trace") && bytes_eq version (codes "1")) (bytes_eq j (codes "j")) one.0 in
        let three = both (bytes_eq name (codes "plan-trace")) (bytes_eq version (codes "1")) two.0 in
        let numbers = numbers_spelled jobs keep o h in
        let e1 : name ≡ codes "plan-trace" = (bytes_eq-Decides name (codes "plan-trace")).0 three.0 in
        let e2 : version ≡ codes "1" = (bytes_eq-Decides version (codes "1")).0 three.1 in
        let e3 : j ≡ codes "j" = (bytes_eq-Decides j (codes "j")).0 two.1 in
        let e4 : k ≡ codes "k" = (bytes_eq-Decides k (codes "k")).0 one.1 in
        let e5 = numbers.0 in
        let e6 = numbers.1 in
        ap (λ (x : List ℕ). x ∷ version ∷ j ∷ jobs ∷ k ∷ keep ∷ []) e1
        ∙ (ap (λ (x : List ℕ). codes "plan-trace" ∷ x ∷ j ∷ jobs ∷ k ∷ keep ∷ []) e2
        ∙ (ap (λ (x : List ℕ). codes "plan-trace" ∷ codes "1" ∷ x ∷ jobs ∷ k ∷ keep ∷ []) e3
        ∙ (ap (λ (x : List ℕ). codes "plan-trace" ∷ codes "1" ∷ codes "j" ∷ x ∷ k ∷ keep ∷ []) e5
        ∙ (ap (λ (x : List ℕ). codes "plan-trace" ∷ codes "1" ∷ codes "j" ∷ decimal o.jobs ∷ x ∷ keep ∷ []) e4
        ∙ ap (λ (x : List ℕ). codes "plan-trace" ∷ codes "1" ∷ codes "j" ∷ decimal o.jobs ∷ codes "k" ∷ x ∷ []) e6))))

-- ---- lines

spaced : (words : List (List ℕ)) → join_with_byte 32 words ++ 10 ∷ [] ≡ line words
spaced [] = refl
spaced (w ∷ []) = ap (λ (x : List ℕ). x ++ 10 ∷ []) (sym (append-nil w))
spaced (w ∷ v ∷ words) =
    let rest : join_with_byte 32 (v ∷ words) ++ 10 ∷ [] ≡ (v ++ behind words) ++ 10 ∷ [] = spaced (v ∷ words) in
    let joined : (w ++ 32 ∷ join_with_byte 32 (v ∷ words)) ++ 10 ∷ [] ≡ w ++ 32 ∷ ((v ++ behind words) ++ 10 ∷ [])
    = append_assoc w (32 ∷ join_with_byte 32 (v ∷ words)) (10 ∷ []) ∙ ap (λ (x : List ℕ). w ++ 32 ∷ x) rest in
    joined ∙ sym (append_assoc w (32 ∷ (v ++ behind words)) (10 ∷ []))

-- a line is its words
line_of_words : (text : List ℕ) (words : List (List ℕ)) → words_of text ≡ words → text ++ 10 ∷ [] ≡ line words
line_of_words text words is = ap (λ (x : List ℕ). x ++ 10 ∷ []) (sym (join_with_byte-slice_split 32 text) ∙ ap (join_with_byte 32) is) ∙ spaced words

-- a line before other lines
in_front : (text next : List ℕ) (lines : List (List ℕ)) (front rest : List ℕ) → text ++ 10 ∷ [] ≡ front → join_with_byte 10 (next ∷ lines) ≡ rest
    → join_with_byte 10 (text ∷ next ∷ lines) ≡ front ++ rest
in_front text next lines front rest is then_rest =
    sym (append_assoc text (10 ∷ []) (join_with_byte 10 (next ∷ lines))) ∙ (ap (λ (x : List ℕ). x ++ join_with_byte 10 (next ∷ lines)) is ∙ ap (λ (x : List ℕ). front ++ x) then_rest)

record Then (o : Option Event) (rest : Result (List Event) TraceFault) (events : List Event) : Type 0 where
  event : Event
  more : List Event
  first : o ≡ Some event
  behind_it : rest ≡ Ok more
  is : event ∷ more ≡ events

then_apart : (n : ℕ) (o : Option Event) (rest : Result (List Event) TraceFault) (events : List Event) → then_event n o rest ≡ Ok events → Then o rest events
then_apart n None rest events h = failed h
then_apart n (Some event) (Err fault) events h = failed h
then_apart n (Some event) (Ok more) events h = record { event = event; more = more; first = refl; behind_it = refl; is = ok_same h }

events_spelled : (n : ℕ) (lines : List (List ℕ)) (events : List Event) → events_of n lines ≡ Ok events → join_with_byte 10 lines ≡ flat_map event_line events
events_spelled n [] events h = ap (flat_map event_line) (ok_same h)
events_spelled n ([] ∷ []) events h = ap (flat_map event_line) (ok_same h)
events_spelled n ((b ∷ last) ∷ []) events h = failed h
events_spelled n (text ∷ next ∷ lines) events h =
    let parts = then_apart n (event_of (words_of text)) (events_of (n + 1) (next ∷ lines)) events h in
    let here : text ++ 10 ∷ [] ≡ event_line parts.event = line_of_words text (event_words parts.event) (event_spelled (words_of text) parts.event parts.first) in
    let rest = events_spelled (n + 1) (next ∷ lines) parts.more parts.behind_it in
    in_front text next lines (event_line parts.event) (flat_map event_line parts.more) here rest ∙ ap (flat_map event_line) parts.is

targets_spelled : (lines : List (List ℕ)) → join_with_byte 10 lines ≡ flat_map target_line (targets_of lines) ++ join_with_byte 10 (behind_targets lines)
targets_spelled [] = refl
targets_spelled (last ∷ []) = refl
targets_spelled (text ∷ next ∷ lines) = by_target (target_of (words_of text)) refl (targets_spelled (next ∷ lines))
  where
    by_target : (o : Option ℕ) → target_of (words_of text) ≡ o → join_with_byte 10 (next ∷ lines) ≡ flat_map target_line (targets_of (next ∷ lines)) ++ join_with_byte 10 (behind_targets (next ∷ lines))
        → join_with_byte 10 (text ∷ next ∷ lines) ≡ flat_map target_line (targets_by o (targets_of (next ∷ lines))) ++ join_with_byte 10 (behind_by o (behind_targets (next ∷ lines)) (text ∷ next ∷ lines))
    by_target None is rest = refl
    by_target (Some e) is rest =
        let here : text ++ 10 ∷ [] ≡ target_line e = line_of_words text (target_words e) (target_spelled (words_of text) e is) in
        in_front text next lines (target_line e) (flat_map target_line (targets_of (next ∷ lines)) ++ join_with_byte 10 (behind_targets (next ∷ lines))) here rest
        ∙ sym (append_assoc (target_line e) (flat_map target_line (targets_of (next ∷ lines))) (join_with_byte 10 (behind_targets (next ∷ lines))))

-- ---- traces

head_spelled : (text next : List ℕ) (lines : List (List ℕ)) (o : Option Limits) (t : Trace) → options_of (words_of text) ≡ o → with_head o (next ∷ lines) ≡ Ok t
    → join_with_byte 10 (text ∷ next ∷ lines) ≡ text_of t
head_spelled text next lines None t is h = failed h
head_spelled text next lines (Some o) t is h = by_events (events_of (length (targets_of (next ∷ lines)) + 2) (behind_targets (next ∷ lines))) refl h
  where
    by_events : (r : Result (List Event) TraceFault) → events_of (length (targets_of (next ∷ lines)) + 2) (behind_targets (next ∷ lines)) ≡ r
        → with_events o (targets_of (next ∷ lines)) r ≡ Ok t → join_with_byte 10 (text ∷ next ∷ lines) ≡ text_of t
    by_events (Err fault) are h = failed h
    by_events (Ok events) are h =
        let same : record { options = o; targets = targets_of (next ∷ lines); events = events } ≡ t = ok_same h in
        let here : text ++ 10 ∷ [] ≡ line (options_words o) = line_of_words text (options_words o) (options_spelled (words_of text) o is) in
        let rest : join_with_byte 10 (next ∷ lines) ≡ flat_map target_line (targets_of (next ∷ lines)) ++ flat_map event_line events
        = targets_spelled (next ∷ lines) ∙ ap (λ (x : List ℕ). flat_map target_line (targets_of (next ∷ lines)) ++ x) (events_spelled (length (targets_of (next ∷ lines)) + 2) (behind_targets (next ∷ lines)) events are) in
        in_front text next lines (line (options_words o)) (flat_map target_line (targets_of (next ∷ lines)) ++ flat_map event_line events) here rest ∙ ap text_of same

trace_spelled : (parts : List (List ℕ)) (t : Trace) → trace_of parts ≡ Ok t → join_with_byte 10 parts ≡ text_of t
trace_spelled [] t h = failed h
trace_spelled (last ∷ []) t h = failed h
trace_spelled (text ∷ next ∷ lines) t h = head_spelled text next lines (options_of (words_of text)) t refl h

pub spelled_once : (text : List ℕ) (t : Trace) → read_of text ≡ Ok t → text ≡ text_of t
spelled_once text t h = sym (join_with_byte-slice_split 10 text) ∙ trace_spelled (parts_at 10 text) t h
