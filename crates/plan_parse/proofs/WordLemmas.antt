-- A statement by its first word. Lemmas for src/statement_reader.rt.
use Rattle.std.proofs.Common.{◌≡◌, ℕ, Bool, true, false, if◌then◌else◌, List, length, ◌≤◌, Result, refl, sym, ap, subst, ◌∙◌}
use Rattle.std.specs.Prelude.{codes}
use Rattle.std.specs.List.{prefix_len}
use Rattle.std.specs.Str.{bytes_eq}
use Rattle.std.proofs.lemmas.List.{length-take-le}
use Rattle.std.proofs.lemmas.List.Sums.{prefix_len-le-length}
use Rattle.plan_text.specs.Bytes.{is_name_byte}
use Rattle.plan_text.specs.Outcome.{Meets}
use Rattle.plan_parse.specs.declared.fault.ParseFault.{ParseFault}
use Rattle.plan_parse.specs.declared.fault.ParseFault.TheVariants as fault
use Rattle.plan_parse.specs.Kinds.{Statement}
use Rattle.plan_parse.specs.Reading.{Place, past, past_gap, name_of}
use Rattle.plan_parse.specs.Blocks.{BlockLine}
use Rattle.plan_parse.specs.Statements.{statement_of, rule_of, build_of, pool_of, default_of, include_of, subninja_of, binding_of}
use Rattle.plan_parse.specs.Compact.{StandsIn}
use Rattle.plan_parse.proofs.CompactLemmas.{gap_stands, past_stands}

-- a statement by its first word, and the text after that
abbrev pub by_word : Place → List ℕ → Place → List BlockLine → Result Statement ParseFault
by_word p word behind lines =
    if bytes_eq word (codes "rule") then rule_of p.at behind lines
    else if bytes_eq word (codes "build") then build_of p.at behind lines
    else if bytes_eq word (codes "pool") then pool_of p.at behind lines
    else if bytes_eq word (codes "default") then default_of p.at behind lines
    else if bytes_eq word (codes "include") then include_of p.at behind lines
    else if bytes_eq word (codes "subninja") then subninja_of p.at behind lines
    else binding_of p lines

-- a result that meets this also meets the statement
pub meets_word : {X : Type 0} (view : X → Statement) (r : Result X ParseFault) (p start behind : Place) (word : List ℕ) (lines : List BlockLine) (m : Result Statement ParseFault)
    → start ≡ past_gap p → word ≡ name_of start → behind ≡ past_gap (past (length word) start) → by_word p word behind lines ≡ m → Meets fault.Memory view r m
    → Meets fault.Memory view r (statement_of p lines)
meets_word view r p start behind word lines m s w b e h =
    let first : word ≡ name_of (past_gap p) = w ∙ ap (λ (q : Place). name_of q) s in
    let rest : behind ≡ past_gap (past (length (name_of (past_gap p))) (past_gap p)) =
    b ∙ ap (λ (v : List ℕ). past_gap (past (length v) start)) first ∙ ap (λ (q : Place). past_gap (past (length (name_of (past_gap p))) q)) s in
    let same : by_word p word behind lines ≡ statement_of p lines =
    ap (λ (v : List ℕ). by_word p v behind lines) first ∙ ap (λ (q : Place). by_word p (name_of (past_gap p)) q lines) rest in
    subst (λ (n : Result Statement ParseFault). Meets fault.Memory view r n) (sym e ∙ same) h

-- whether a word is the one that was asked for
pub told : (word asked name : List ℕ) (is answer : Bool) → asked ≡ name → is ≡ bytes_eq word asked → is ≡ answer → bytes_eq word name ≡ answer
told word asked name is answer e f g = sym (ap (bytes_eq word) e) ∙ sym f ∙ g

pub is_rule : (p : Place) (word : List ℕ) (behind : Place) (lines : List BlockLine) → bytes_eq word (codes "rule") ≡ true → by_word p word behind lines ≡ rule_of p.at behind lines
is_rule p word behind lines r = rw r refl

pub is_pool : (p : Place) (word : List ℕ) (behind : Place) (lines : List BlockLine)
    → bytes_eq word (codes "rule") ≡ false → bytes_eq word (codes "build") ≡ false → bytes_eq word (codes "pool") ≡ true → by_word p word behind lines ≡ pool_of p.at behind lines
is_pool p word behind lines r b q = rw (r, b, q) refl

pub is_default : (p : Place) (word : List ℕ) (behind : Place) (lines : List BlockLine)
    → bytes_eq word (codes "rule") ≡ false → bytes_eq word (codes "build") ≡ false → bytes_eq word (codes "pool") ≡ false → bytes_eq word (codes "default") ≡ true
    → by_word p word behind lines ≡ default_of p.at behind lines
is_default p word behind lines r b q d = rw (r, b, q, d) refl

pub is_include : (p : Place) (word : List ℕ) (behind : Place) (lines : List BlockLine)
    → bytes_eq word (codes "rule") ≡ false → bytes_eq word (codes "build") ≡ false → bytes_eq word (codes "pool") ≡ false → bytes_eq word (codes "default") ≡ false → bytes_eq word (codes "include") ≡ true
    → by_word p word behind lines ≡ include_of p.at behind lines
is_include p word behind lines r b q d i = rw (r, b, q, d, i) refl

pub is_subninja : (p : Place) (word : List ℕ) (behind : Place) (lines : List BlockLine)
    → bytes_eq word (codes "rule") ≡ false → bytes_eq word (codes "build") ≡ false → bytes_eq word (codes "pool") ≡ false → bytes_eq word (codes "default") ≡ false → bytes_eq word (codes "include") ≡ false → bytes_eq word (codes "subninja") ≡ true
    → by_word p word behind lines ≡ subninja_of p.at behind lines
is_subninja p word behind lines r b q d i s = rw (r, b, q, d, i, s) refl

-- the text after the first word
pub behind_stands : (text : List ℕ) (p start behind : Place) (word : List ℕ) → StandsIn text p → start ≡ past_gap p → word ≡ name_of start → behind ≡ past_gap (past (length word) start) → StandsIn text behind
behind_stands text p start behind word stands s w b =
    let from : StandsIn text start = subst (StandsIn text) (sym s) (gap_stands text p stands) in
    let len : length word ≡ prefix_len is_name_byte start.bytes = ap length w ∙ length-take-le (prefix_len is_name_byte start.bytes) start.bytes (prefix_len-le-length is_name_byte start.bytes) in
    let within : length word ≤ length start.bytes = subst (λ (n : ℕ). n ≤ length start.bytes) (sym len) (prefix_len-le-length is_name_byte start.bytes) in
    subst (StandsIn text) (sym b) (gap_stands text (past (length word) start) (past_stands text (length word) start within from))
