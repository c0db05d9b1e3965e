-- Statements are whole. Proofs for the law statements_are_whole.
use Rattle.std.proofs.Common.{◌≡◌, ℕ, zero, suc, ◌+◌, ◌<◌, ◌==◌, Bool, true, false, not, ◌||◌, ◌&&◌, cond, List, [], ◌∷◌, ◌++◌, length, take, drop, Result, Ok, Err, refl, sym, ap, subst, ◌∙◌, arith}
use Rattle.std.specs.Prelude.{codes}
use Rattle.std.specs.List.{AllByRecursion, count_by, list_any, prefix_len}
use Rattle.std.specs.Str.{bytes_eq}
use Rattle.std.proofs.lemmas.Bool.{eqb-true}
use Rattle.std.proofs.lemmas.List.Sums.{sum_by-cons}
use Rattle.std.proofs.lemmas.List.Folds.{list_any-append}
use Rattle.plan_text.specs.Bytes.{space, tab, colon, is_name_byte}
use Rattle.plan_text.specs.Lines.{gap_len, raw_lines}
use Rattle.plan_text.specs.Limits.{max_source}
use Rattle.plan_text.specs.Outcome.{◌>>=◌, each}
use Rattle.plan_text.specs.declared.fault.TextFault.TheVariants.{SourceTooLong}
use Rattle.plan_text.specs.declared.piece_reader.Piece.{Piece}
use Rattle.std.specs.Prelude.{nat_lt}
use Rattle.plan_parse.specs.declared.fault.ParseFault.{ParseFault}
use Rattle.plan_parse.specs.declared.fault.ParseFault.TheVariants as fault
use Rattle.plan_parse.specs.declared.block.BlockKind.TheVariants.{Rule, Pool}
use Rattle.plan_parse.specs.declared.statement.Binding.{Binding}
use Rattle.plan_parse.specs.Kinds.{Statement}
use Rattle.plan_parse.specs.Kinds as kind
use Rattle.plan_parse.specs.Reading.{Place, past, past_gap, name_of, name_at, byte_at, value_at, paths_at, refuse, line_end_at}
use Rattle.plan_parse.specs.Blocks.{BlockLine, Text, Refused, Block, roles_of_lines, below, blocks_of}
use Rattle.plan_parse.specs.Statements as parsing
use Rattle.plan_parse.specs.Statements.{binding_at, no_block_allowed, first_word, is_named, unknown_variable, missing_or_repeated, may_bind, block_variable_at, block_variables_at, has_required, named_line, rule_of, build_of, pool_of, default_of, include_of, subninja_of, binding_of, implicit_at, some_path, outputs_at, inputs_at, targets_at, statement_in, statements_of, block_line_at}
use Rattle.plan_parse.specs.Laws.{IsWhole}

-- the first of two steps without faults
pub record Found {A B : Type 0} (r : Result A ParseFault) (f : A → Result B ParseFault) (y : B) : Type 0 where
  pub first : A
  pub was : r ≡ Ok first
  pub gives : f first ≡ Ok y

-- if two steps have no fault, each has none
pub found : {A B : Type 0} (r : Result A ParseFault) (f : A → Result B ParseFault) (y : B) → (r >>= f) ≡ Ok y → Found r f y
found (Ok x) f y e = record { first = x; was = refl; gives = e }
found (Err e) f y h = absurd cc

-- the word after blanks is the name after a gap, if there is one
word_by : (b : ℕ) (rest : List ℕ) (t u : Bool) → (b == space) ≡ t → (b == tab) ≡ u
    → (0 < prefix_len is_name_byte (drop (gap_len rest) rest)
    → drop (gap_len rest) rest ≡ drop (gap_len (drop (prefix_len (λ b. b == space || b == tab) rest) rest)) (drop (prefix_len (λ b. b == space || b == tab) rest) rest))
    → 0 < prefix_len is_name_byte (drop (gap_len (b ∷ rest)) (b ∷ rest))
    → drop (gap_len (b ∷ rest)) (b ∷ rest)
    ≡ drop (gap_len (drop (prefix_len (λ b. b == space || b == tab) (b ∷ rest)) (b ∷ rest))) (drop (prefix_len (λ b. b == space || b == tab) (b ∷ rest)) (b ∷ rest))
word_by b rest true u e f more = λ h.
    let gap : gap_len (b ∷ rest) ≡ suc (gap_len rest) = rw e refl in
    let one : prefix_len (λ b. b == space || b == tab) (b ∷ rest) ≡ suc (prefix_len (λ b. b == space || b == tab) rest) = rw e (omega arith) in
    ap (λ (k : ℕ). drop k (b ∷ rest)) gap
    ∙ more (subst (λ (k : ℕ). 0 < prefix_len is_name_byte (drop k (b ∷ rest))) gap h)
    ∙ ap (λ (k : ℕ). drop (gap_len (drop k (b ∷ rest))) (drop k (b ∷ rest))) (sym one)
word_by b rest false true e f more = λ h.
    let no : 0 < 0 = subst (λ (k : ℕ). 0 < prefix_len is_name_byte (drop (gap_len (k ∷ rest)) (k ∷ rest))) (eqb-true b tab f) h in
    absurd (omega (arith, no))
word_by b rest false false e f more = λ h.
    let none : prefix_len (λ b. b == space || b == tab) (b ∷ rest) ≡ 0 = rw (e, f) refl in
    ap (λ (k : ℕ). drop (gap_len (drop k (b ∷ rest))) (drop k (b ∷ rest))) (sym none)

word_behind : (bytes : List ℕ) → 0 < prefix_len is_name_byte (drop (gap_len bytes) bytes)
    → drop (gap_len bytes) bytes ≡ drop (gap_len (drop (prefix_len (λ b. b == space || b == tab) bytes) bytes)) (drop (prefix_len (λ b. b == space || b == tab) bytes) bytes)
word_behind [] h = refl
word_behind (b ∷ rest) h = word_by b rest (b == space) (b == tab) refl refl (word_behind rest) h

-- a name at this place
some_of : (n : ℕ) → (n == 0) ≡ false → 0 < n
some_of zero e = absurd cc
some_of (suc n) e = omega arith

name_by : (p : Place) (n : List ℕ × Place) (t : Bool) → cond t (refuse fault.ExpectedName p) (Ok (name_of p, past_gap (past (prefix_len is_name_byte p.bytes) p))) ≡ Ok n → (t ≡ false) × (n.0 ≡ name_of p)
name_by p n true e = absurd cc
name_by p n false e = let same : (name_of p, past_gap (past (prefix_len is_name_byte p.bytes) p)) ≡ n = cc in (refl, sym (ap (λ (x : List ℕ × Place). x.0) same))

named : (p : Place) (n : List ℕ × Place) → name_at (past_gap p) ≡ Ok n → first_word p ≡ n.0
named p n e =
    let here = name_by (past_gap p) n (prefix_len is_name_byte (past_gap p).bytes == 0) e in
    sym (here.1 ∙ ap (λ (v : List ℕ). take (prefix_len is_name_byte v) v) (word_behind p.bytes (some_of _ here.0)))

-- a binding has the name that is before it
bound_name : (p : Place) (n : List ℕ × Place) (b : Binding) → name_at (past_gap p) ≡ Ok n → binding_at p ≡ Ok b → b.name ≡ n.0
bound_name p n b e h = by (name_at (past_gap p)) e h where
  last : (n m : List ℕ × Place) (v : Result Place ParseFault) → n ≡ m
      → (v >>= λ v. value_at v >>= λ value. Ok (record { name = n.0; value = value })) ≡ Ok b → b.name ≡ m.0
  last n m v s h =
      let q = found v (λ v. value_at v >>= λ value. Ok (record { name = n.0; value = value })) b h in
      let r = found (value_at q.first) (λ value. Ok (record { name = n.0; value = value })) b q.gives in
      let made : Binding = record { name = n.0; value = r.first } in
      let same : made ≡ b = cc in
      sym (ap (λ (x : Binding). x.name) same) ∙ ap (λ (x : List ℕ × Place). x.0) s

  by : (r : Result (List ℕ × Place) ParseFault) → r ≡ Ok n
      → (r >>= λ n. byte_at 61 fault.ExpectedEquals n.1 >>= λ v. value_at v >>= λ value. Ok (record { name = n.0; value = value })) ≡ Ok b → b.name ≡ n.0
  by (Ok m) e h = let same : m ≡ n = cc in last m n (byte_at 61 fault.ExpectedEquals m.1) same h
  by (Err x) e h = absurd cc

-- the variable `command`
abbrev command : List ℕ
command = codes "command"

abbrev commands : List Binding → ℕ
commands bs = count_by (λ b. bytes_eq b.name command) bs

variable_by : (p : Place) (n : List ℕ × Place) (b : Binding) (t u : Bool) → name_at (past_gap p) ≡ Ok n
    → cond t (Err (unknown_variable Rule (past_gap p).at)) (cond u (Err (missing_or_repeated Rule (past_gap p).at)) (binding_at p)) ≡ Ok b → (u ≡ false) × (b.name ≡ n.0)
variable_by p n b true u e h = absurd cc
variable_by p n b false true e h = absurd cc
variable_by p n b false false e h = (refl, bound_name p n b e h)

-- the first word of a line of a rule is the name that it binds, and the line doesn't bind the command again
owned : (above : List BlockLine) (m : BlockLine) (b : Binding) → block_variable_at Rule above m ≡ Ok b
    → (is_named command m ≡ bytes_eq b.name command) × ((bytes_eq b.name command && list_any (is_named command) above) ≡ false)
owned above (Refused x) b e = absurd cc
owned above (Text p) b e =
    let q = found (name_at (past_gap p))
    (λ n. cond (not (may_bind Rule n.0)) (Err (unknown_variable Rule (past_gap p).at)) (cond (bytes_eq n.0 command && list_any (is_named command) above) (Err (missing_or_repeated Rule (past_gap p).at)) (binding_at p))) b e in
    let o = variable_by p q.first b (not (may_bind Rule q.first.0)) (bytes_eq q.first.0 command && list_any (is_named command) above) q.was q.gives in (
      ap (λ (v : List ℕ). bytes_eq v command) (named p q.first q.was ∙ sym o.1),
      ap (λ (v : List ℕ). bytes_eq v command && list_any (is_named command) above) o.1 ∙ o.0,
    )

-- how often the command is bound after lines that bind it or don't
abbrev count_by_flags : Bool → Bool → ℕ
count_by_flags true more = 0
count_by_flags false more = cond more 1 0

first_count : (t above more : Bool) (n : ℕ) → (t && above) ≡ false → n ≡ count_by_flags (above || t) more → cond t 1 0 + n ≡ count_by_flags above (t || more)
first_count true true more n e h = absurd cc
first_count true false more n e h = omega (arith, h)
first_count false true more n e h = omega (arith, h)
first_count false false more n e h = omega (arith, h)

or_false : (x y : Bool) → (x || (y || false)) ≡ (x || y)
or_false true y = refl
or_false false true = refl
or_false false false = refl

bound_count : (above lines : List BlockLine) (bs : List Binding) → block_variables_at Rule above lines ≡ Ok bs
    → commands bs ≡ count_by_flags (list_any (is_named command) above) (list_any (is_named command) lines)
bound_count above [] bs e = let same : [] ≡ bs = cc in by bs same (list_any (is_named command) above) where
  by : (bs : List Binding) → [] ≡ bs → (t : Bool) → commands bs ≡ count_by_flags t false
  by bs e true = ap commands (sym e)
  by bs e false = ap commands (sym e)
bound_count above (m ∷ more) bs e =
    let q = found (block_variable_at Rule above m) (λ b. block_variables_at Rule (above ++ m ∷ []) more >>= λ bs. Ok (b ∷ bs)) bs e in
    let r = found (block_variables_at Rule (above ++ m ∷ []) more) (λ bs. Ok (q.first ∷ bs)) bs q.gives in
    let same : q.first ∷ r.first ≡ bs = cc in
    let o = owned above m q.first q.was in
    let rest = bound_count (above ++ m ∷ []) more r.first r.was
    ∙ ap (λ (t : Bool). count_by_flags t (list_any (is_named command) more)) (list_any-append (is_named command) above (m ∷ []) ∙ or_false (list_any (is_named command) above) (is_named command m)) in
    sym (ap commands same)
    ∙ sum_by-cons (λ b. cond (bytes_eq b.name command) 1 0) q.first r.first
    ∙ ap (λ (t : Bool). cond t 1 0 + commands r.first) (sym o.0)
    ∙ first_count (is_named command m) (list_any (is_named command) above) (list_any (is_named command) more) (commands r.first)
    (ap (λ (t : Bool). t && list_any (is_named command) above) o.0 ∙ o.1) rest

required_by : (at : ℕ) (t : Bool) → (x : Unit {0}) → cond t (Ok tt) (Err (missing_or_repeated Rule at)) ≡ Ok x → t ≡ true
required_by at true x e = refl
required_by at false x e = absurd cc

rule_whole : (at : ℕ) (p : Place) (lines : List BlockLine) (s : Statement) → rule_of at p lines ≡ Ok s → IsWhole s
rule_whole at p lines s e = by (has_required Rule at lines) (named_line p) (block_variables_at Rule [] lines) refl refl e where
  by : (w : Result (Unit {0}) ParseFault) (l : Result (List ℕ) ParseFault) (bs : Result (List Binding) ParseFault) → has_required Rule at lines ≡ w → block_variables_at Rule [] lines ≡ bs
      → ((w >>= λ _. l >>= λ name. bs >>= λ bindings. Ok (name, bindings)) >>= λ (x : List ℕ × List Binding). Ok (record { offset = at; kind = kind.Rule (record { name = x.0; bindings = x.1 }) })) ≡ Ok s → IsWhole s
  by (Err x) l bs v o h = absurd cc
  by (Ok x) (Err y) bs v o h = absurd cc
  by (Ok x) (Ok l) (Err y) v o h = absurd cc
  by (Ok x) (Ok l) (Ok bs) v o h =
      let made : Statement = record { offset = at; kind = kind.Rule (record { name = l; bindings = bs }) } in
      let same : made ≡ s = cc in
      let some = required_by at (list_any (is_named command) lines) x v in
      let once : commands bs ≡ 1 = bound_count [] lines bs o ∙ ap (count_by_flags false) some in
      subst IsWhole same once

-- one path or more
some_by : (p : Place) (n : ℕ) (x : Unit {0}) → cond (n == 0) (refuse fault.ExpectedPath p) (Ok tt) ≡ Ok x → 0 < n
some_by p zero x e = absurd cc
some_by p (suc n) x e = omega arith

abbrev Outputs : Type 0
Outputs = List (List Piece) × List (List Piece) × Place

abbrev Inputs : Type 0
Inputs = List (List Piece) × List (List Piece) × List (List Piece)

outputs_some : (p : Place) (o : Outputs) → outputs_at p ≡ Ok o → 0 < length o.0 + length o.1
outputs_some p o e =
    let q = found (paths_at p) (λ outputs. implicit_at outputs.1 >>= λ implicit. some_path implicit.1 outputs.0 implicit.0 >>= λ _. byte_at colon fault.ExpectedColon implicit.1 >>= λ behind. Ok (outputs.0, implicit.0, behind)) o e in
    let r = found (implicit_at q.first.1) (λ implicit. some_path implicit.1 q.first.0 implicit.0 >>= λ _. byte_at colon fault.ExpectedColon implicit.1 >>= λ behind. Ok (q.first.0, implicit.0, behind)) o q.gives in
    let s = found (some_path r.first.1 q.first.0 r.first.0) (λ _. byte_at colon fault.ExpectedColon r.first.1 >>= λ behind. Ok (q.first.0, r.first.0, behind)) o r.gives in
    let t = found (byte_at colon fault.ExpectedColon r.first.1) (λ behind. Ok (q.first.0, r.first.0, behind)) o s.gives in
    let made : Outputs = (q.first.0, r.first.0, t.first) in
    let same : made ≡ o = cc in
    subst (λ (v : Outputs). 0 < length v.0 + length v.1) {x = made} same (some_by r.first.1 (length q.first.0 + length r.first.0) s.first s.was)

build_made : ℕ → Outputs → List ℕ → Inputs → List Binding → Statement
build_made at o rule inputs bindings = record {
  offset = at;
  kind = kind.Build (record {
    paths = record {
      outputs = o.0;
      implicit_outputs = o.1;
      inputs = inputs.0;
      implicit_inputs = inputs.1;
      order_only_inputs = inputs.2;
    };
    rule = rule;
    bindings = bindings;
  });
}

build_last : (at : ℕ) (o : Outputs) (rule : List ℕ) (inputs : Result Inputs ParseFault) (bindings : Result (List Binding) ParseFault) (s : Statement) → 0 < length o.0 + length o.1
    → (inputs >>= λ inputs. bindings >>= λ bindings. Ok (build_made at o rule inputs bindings)) ≡ Ok s → IsWhole s
unfolding build_made
build_last at o rule (Err x) bindings s h e = absurd cc
build_last at o rule (Ok inputs) (Err x) s h e = absurd cc
build_last at o rule (Ok inputs) (Ok bindings) s h e = let same : build_made at o rule inputs bindings ≡ s = cc in subst IsWhole same h

build_rest : (at : ℕ) (o : Outputs) (rule : Result (List ℕ × Place) ParseFault) (lines : List BlockLine) (s : Statement) → 0 < length o.0 + length o.1
    → (rule >>= λ rule. inputs_at rule.1 >>= λ inputs. each block_line_at lines >>= λ bindings. Ok (build_made at o rule.0 inputs bindings)) ≡ Ok s → IsWhole s
build_rest at o (Err x) lines s h e = absurd cc
build_rest at o (Ok rule) lines s h e = build_last at o rule.0 (inputs_at rule.1) (each block_line_at lines) s h e

build_whole : (at : ℕ) (p : Place) (lines : List BlockLine) (s : Statement) → build_of at p lines ≡ Ok s → IsWhole s
unfolding build_made
build_whole at p lines s e =
    let q = found (outputs_at p) (λ outputs. name_at outputs.2 >>= λ rule. inputs_at rule.1 >>= λ inputs. each block_line_at lines >>= λ bindings. Ok (build_made at outputs rule.0 inputs bindings)) s e in
    build_rest at q.first (name_at q.first.2) lines s (outputs_some p q.first q.was) q.gives

targets_some : (p : Place) (targets : List (List Piece)) → targets_at p ≡ Ok targets → 0 < length targets
targets_some p targets e =
    let q = found (paths_at p) (λ targets. some_path targets.1 targets.0 [] >>= λ _. line_end_at targets.0 targets.1) targets e in
    let r = found (some_path q.first.1 q.first.0 []) (λ _. line_end_at q.first.0 q.first.1) targets q.gives in
    let n = some_by q.first.1 (length q.first.0 + 0) r.first r.was in
    let same = line_end_same q.first.0 q.first.1 (length q.first.1.bytes == 0) targets r.gives in
    subst (λ (v : List (List Piece)). 0 < length v) same (omega (arith, n))
  where
    line_end_same : (x : List (List Piece)) (p : Place) (t : Bool) (y : List (List Piece)) → cond t (Ok x) (refuse fault.ExpectedLineEnd p) ≡ Ok y → x ≡ y
    line_end_same x p true y e = cc
    line_end_same x p false y e = absurd cc

default_whole : (at : ℕ) (p : Place) (lines : List BlockLine) (s : Statement) → default_of at p lines ≡ Ok s → IsWhole s
default_whole at p lines s e =
    let q = found (targets_at p) (λ targets. no_block_allowed lines >>= λ _. Ok (record { offset = at; kind = kind.Default targets })) s e in
    let r = found (no_block_allowed lines) (λ _. Ok (record { offset = at; kind = kind.Default q.first })) s q.gives in
    let made : Statement = record { offset = at; kind = kind.Default q.first } in
    let same : made ≡ s = cc in
    subst IsWhole same (targets_some p q.first q.was)

-- no condition on the other sorts of statements
plain_whole : {A : Type 0} (r : Result A ParseFault) (make : A → Statement) (s : Statement) → ((x : A) → IsWhole (make x)) → (r >>= λ x. Ok (make x)) ≡ Ok s → IsWhole s
plain_whole (Ok x) make s h e = let same : make x ≡ s = cc in subst IsWhole same (h x)
plain_whole (Err x) make s h e = absurd cc

two_whole : {A : Type 0} (r : Result A ParseFault) (more : Result (Unit {0}) ParseFault) (make : A → Statement) (s : Statement) → ((x : A) → IsWhole (make x))
    → (r >>= λ x. more >>= λ _. Ok (make x)) ≡ Ok s → IsWhole s
two_whole (Err x) more make s h e = absurd cc
two_whole (Ok x) (Err y) make s h e = absurd cc
two_whole (Ok x) (Ok y) make s h e = let same : make x ≡ s = cc in subst IsWhole same (h x)

by_word : (p behind : Place) (lines : List BlockLine) (s : Statement) (a b c d e f : Bool)
    → cond a (rule_of p.at behind lines) (cond b (build_of p.at behind lines) (cond c (pool_of p.at behind lines) (cond d (default_of p.at behind lines)
    (cond e (include_of p.at behind lines) (cond f (subninja_of p.at behind lines) (binding_of p lines)))))) ≡ Ok s → IsWhole s
by_word p q lines s true b c d e f h = rule_whole p.at q lines s h
by_word p q lines s false true c d e f h = build_whole p.at q lines s h
by_word p q lines s false false true d e f h =
    plain_whole (parsing.named_block Pool p.at q lines) (λ x. record { offset = p.at; kind = kind.Pool (record { name = x.0; depth = parsing.depth_of x.1 }) }) s (λ x. tt) h
by_word p q lines s false false false true e f h = default_whole p.at q lines s h
by_word p q lines s false false false false true f h = two_whole (parsing.file_at q) (no_block_allowed lines) (λ path. record { offset = p.at; kind = kind.Include path }) s (λ x. tt) h
by_word p q lines s false false false false false true h = two_whole (parsing.file_at q) (no_block_allowed lines) (λ path. record { offset = p.at; kind = kind.Subninja path }) s (λ x. tt) h
by_word p q lines s false false false false false false h = two_whole (binding_at p) (no_block_allowed lines) (λ b. record { offset = p.at; kind = kind.Binding b }) s (λ x. tt) h

statement_whole : (b : Block) (s : Statement) → statement_in b ≡ Ok s → IsWhole s
statement_whole b s e =
    let word = name_of (past_gap b.head) in
    by_word b.head (past_gap (past (length word) (past_gap b.head))) b.lines s
    (bytes_eq word (codes "rule")) (bytes_eq word (codes "build")) (bytes_eq word (codes "pool")) (bytes_eq word (codes "default")) (bytes_eq word (codes "include")) (bytes_eq word (codes "subninja")) e

blocks_whole : (bs : List Block) (ss : List Statement) → each statement_in bs ≡ Ok ss → AllByRecursion IsWhole ss
blocks_whole [] ss e = let same : [] ≡ ss = cc in subst (AllByRecursion IsWhole) same tt
blocks_whole (b ∷ bs) ss e =
    let q = found (statement_in b) (λ y. each statement_in bs >>= λ ys. Ok (y ∷ ys)) ss e in
    let r = found (each statement_in bs) (λ ys. Ok (q.first ∷ ys)) ss q.gives in
    let same : q.first ∷ r.first ≡ ss = cc in
    subst (AllByRecursion IsWhole) same (statement_whole b q.first q.was, blocks_whole bs r.first r.was)

text_by : (text : List ℕ) (t : Bool) (ss : List Statement)
    → cond t (Err (fault.Text (SourceTooLong max_source))) (no_block_allowed (below (roles_of_lines (raw_lines text))) >>= λ _. each statement_in (blocks_of (roles_of_lines (raw_lines text)))) ≡ Ok ss → AllByRecursion IsWhole ss
text_by text true ss e = absurd cc
text_by text false ss e =
    let q = found (no_block_allowed (below (roles_of_lines (raw_lines text)))) (λ _. each statement_in (blocks_of (roles_of_lines (raw_lines text)))) ss e in
    blocks_whole (blocks_of (roles_of_lines (raw_lines text))) ss q.gives

-- each statement of a text is whole
pub all_whole : (text : List ℕ) (ss : List Statement) → statements_of text ≡ Ok ss → AllByRecursion IsWhole ss
all_whole text ss e = text_by text (nat_lt max_source (length text)) ss e
