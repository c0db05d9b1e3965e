-- Each fault of a text has an offset. Proofs for the law faults_have_places.
use Rattle.std.proofs.Common.{◌≡◌, ℕ, zero, suc, ◌+◌, ◌-◌, ◌==◌, Bool, ◌&&◌, true, false, not, cond, List, [], ◌∷◌, ◌++◌, length, drop, take, Result, Ok, Err, Option, Some, None, is_some, refl, subst}
use Rattle.std.specs.Prelude.{codes, nat_lt}
use Rattle.std.specs.List.{list_any, prefix_len, position_or_len}
use Rattle.std.specs.Str.{bytes_eq}
use Rattle.plan_text.specs.Bytes.{nul, tab, dollar, colon, equals_sign, hash, is_name_byte, begins_with}
use Rattle.plan_text.specs.Faults as texts
use Rattle.plan_text.specs.Limits.{max_source}
use Rattle.plan_text.specs.Lines.{Raw, gap_len, indent_len, raw_lines}
use Rattle.plan_text.specs.Outcome.{◌>>=◌, each}
use Rattle.plan_text.specs.Pieces.{Sign, escape, or_bad, is_path, sign_at, in_front, all_onto, pieces_past}
use Rattle.plan_text.specs.Pieces as pieces
use Rattle.plan_text.specs.declared.fault.TextFault.{TextFault}
use Rattle.plan_text.specs.declared.fault.TextFault.TheVariants as text
use Rattle.plan_text.specs.declared.piece_reader.Mode.{Mode}
use Rattle.plan_text.specs.declared.piece_reader.Mode.TheVariants as mode
use Rattle.plan_text.specs.declared.piece_reader.Piece.{Piece}
use Rattle.plan_parse.specs.declared.fault.ParseFault.{ParseFault}
use Rattle.plan_parse.specs.declared.fault.ParseFault.TheVariants as fault
use Rattle.plan_parse.specs.declared.block.BlockKind.{BlockKind}
use Rattle.plan_parse.specs.declared.block.BlockKind.TheVariants.{Rule, Pool}
use Rattle.plan_parse.specs.declared.statement.Binding.{Binding}
use Rattle.plan_parse.specs.Kinds as kind
use Rattle.plan_parse.specs.Kinds.{Statement}
use Rattle.plan_parse.specs.Faults.{offset_of}
use Rattle.plan_parse.specs.Reading.{Place, past, past_gap, refusal, refuse, name_of, name_at, byte_at, line_end_at, value_at, lift_fault, path_len, path_at, path_onto, paths_past, paths_at}
use Rattle.plan_parse.specs.Blocks.{BlockLine, Text, Refused, LineRole, Head, Below, is_indented, role_of_line, roles_of_lines, below, blocks_of}
use Rattle.plan_parse.specs.Statements.{binding_at, block_line_at, no_block_allowed, is_named, required_name, unknown_variable, missing_or_repeated, may_bind, block_variable_at, block_variables_at, has_required, named_line, named_block, rule_of, pool_of, depth_of, is_bar, is_two_bars, is_validation, implicit_at, order_only_at, no_validation, some_path, outputs_at, inputs_at, build_of, targets_at, default_of, some_byte, file_at, include_of, subninja_of, binding_of, statement_of, statement_in, statements_of}

-- === Faults with an offset ===

-- a fault, if any, has an offset
abbrev Placed : {A : Type 0} → Result A ParseFault → Type 0
Placed (Ok x) = Unit {0}
Placed (Err e) = is_some (offset_of e) ≡ true

abbrev PlacedText : {A : Type 0} → Result A TextFault → Type 0
PlacedText (Ok x) = Unit {0}
PlacedText (Err e) = is_some (texts.offset_of e) ≡ true

bind_placed : {A B : Type 0} (r : Result A ParseFault) (f : A → Result B ParseFault) → Placed r → ((x : A) → Placed (f x)) → Placed (r >>= f)
bind_placed (Ok x) f h k = k x
bind_placed (Err e) f h k = h

either : {A : Type 0} (t : Bool) (r q : Result A ParseFault) → Placed r → Placed q → Placed (cond t r q)
either true r q h k = h
either false r q h k = k

refusal_by : (expected : ParseFault) (at : ℕ) (t u v : Bool) → is_some (offset_of expected) ≡ true
    → is_some (offset_of (cond t (fault.Text (text.TabBlank at)) (cond u (fault.Text (text.NulByte at)) (cond v (fault.Text (text.BadEscape at)) expected)))) ≡ true
refusal_by expected at true u v h = refl
refusal_by expected at false true v h = refl
refusal_by expected at false false true h = refl
refusal_by expected at false false false h = h

refused_placed : (expected : ℕ → ParseFault) (p : Place) → is_some (offset_of (expected p.at)) ≡ true → is_some (offset_of (refusal (expected p.at) p)) ≡ true
refused_placed expected p h = refusal_by (expected p.at) p.at (begins_with tab p.bytes) (begins_with nul p.bytes) (begins_with dollar p.bytes && Rattle.std.specs.Prelude.is_none (pieces.escape_size (drop 1 p.bytes))) h

name_placed : (p : Place) → Placed (name_at p)
name_placed p = either (prefix_len is_name_byte p.bytes == 0) (refuse fault.ExpectedName p) (Ok (name_of p, past_gap (past (prefix_len is_name_byte p.bytes) p))) (refused_placed fault.ExpectedName p refl) tt

byte_placed : (b : ℕ) (expected : ℕ → ParseFault) (p : Place) → is_some (offset_of (expected p.at)) ≡ true → Placed (byte_at b expected p)
byte_placed b expected p h = either (begins_with b p.bytes) (Ok (past_gap (past 1 p))) (refuse expected p) tt (refused_placed expected p h)

end_placed : {A : Type 0} (x : A) (p : Place) → Placed (line_end_at x p)
end_placed x p = either (length p.bytes == 0) (Ok x) (refuse fault.ExpectedLineEnd p) tt (refused_placed fault.ExpectedLineEnd p refl)

-- === Pieces and paths ===

-- pieces
sign_placed : (at c : ℕ) (t u v : Bool) (o : Option (Sign × ℕ)) → PlacedText (cond t (or_bad at o) (cond u (Err (text.NulByte at)) (cond v (Err (text.TabBlank at)) (Ok (pieces.Byte c, 0)))))
sign_placed at c true u v None = refl
sign_placed at c true u v (Some x) = tt
sign_placed at c false true v o = refl
sign_placed at c false false true o = refl
sign_placed at c false false false o = tt

onto_placed : (s : Sign) (r : Result (List Piece) TextFault) → PlacedText r → PlacedText (all_onto s r)
onto_placed s (Ok x) h = tt
onto_placed s (Err e) h = h

front_placed : (r : Result (Sign × ℕ) TextFault) (more : ℕ → Result (List Piece) TextFault) → PlacedText r → ((n : ℕ) → PlacedText (more n)) → PlacedText (in_front r more)
front_placed (Ok x) more h k = onto_placed x.0 (more x.1) (k x.1)
front_placed (Err e) more h k = h

pieces_placed : (m : Mode) (at : ℕ) (v : List ℕ) (n : ℕ) → PlacedText (pieces_past m at v n)
pieces_placed m at [] n = tt
pieces_placed m at (c ∷ rest) (suc n) = pieces_placed m (at + 1) rest n
pieces_placed m at (c ∷ rest) zero =
    front_placed (sign_at m at c rest) (λ n. pieces_past m (at + 1) rest n) (sign_placed at c (c == dollar) (c == nul) (c == tab && is_path m) (escape rest)) (λ n. pieces_placed m (at + 1) rest n)

lifted_placed : {A : Type 0} (r : Result A TextFault) → PlacedText r → Placed (lift_fault r)
lifted_placed (Ok x) h = tt
lifted_placed (Err (text.TabBlank at)) h = refl
lifted_placed (Err (text.NulByte at)) h = refl
lifted_placed (Err (text.BadEscape at)) h = refl
lifted_placed (Err (text.SourceTooLong at)) h = refl
lifted_placed (Err text.Memory) h = absurd cc
lifted_placed (Err text.EmptyPath) h = absurd cc

value_placed : (p : Place) → Placed (value_at p)
value_placed p = lifted_placed (pieces_past mode.Value p.at p.bytes 0) (pieces_placed mode.Value p.at p.bytes 0)

path_placed : (p : Place) (n : ℕ) → Placed (path_at p n)
path_placed p n = lifted_placed (pieces_past mode.Path p.at (take n p.bytes) 0) (pieces_placed mode.Path p.at (take n p.bytes) 0)

onto_paths : (x : List Piece) (r : Result (List (List Piece) × Place) ParseFault) → Placed r → Placed (path_onto x r)
onto_paths x (Ok r) h = tt
onto_paths x (Err e) h = h

paths_placed_past : (at : ℕ) (v : List ℕ) (n : ℕ) → Placed (paths_past at v n)
paths_placed_past at [] n = tt
paths_placed_past at (c ∷ rest) (suc n) = paths_placed_past (at + 1) rest n
paths_placed_past at (c ∷ rest) zero = by (nat_lt 0 (gap_len (c ∷ rest))) (path_len (c ∷ rest) == 0) (λ n. paths_placed_past (at + 1) rest n) where
  by : (t u : Bool) → ((n : ℕ) → Placed (paths_past (at + 1) rest n))
      → Placed (cond t (paths_past (at + 1) rest (gap_len (c ∷ rest) - 1)) (cond u (Ok ([], record { at = at; bytes = c ∷ rest }))
      (path_at (record { at = at; bytes = c ∷ rest }) (path_len (c ∷ rest)) >>= λ path. path_onto path (paths_past (at + 1) rest (path_len (c ∷ rest) - 1)))))
  by true u more = more (gap_len (c ∷ rest) - 1)
  by false true more = tt
  by false false more =
      bind_placed (path_at (record { at = at; bytes = c ∷ rest }) (path_len (c ∷ rest))) (λ path. path_onto path (paths_past (at + 1) rest (path_len (c ∷ rest) - 1)))
      (path_placed (record { at = at; bytes = c ∷ rest }) (path_len (c ∷ rest))) (λ x. onto_paths x _ (more (path_len (c ∷ rest) - 1)))

paths_placed : (p : Place) → Placed (paths_at p)
paths_placed p = paths_placed_past p.at p.bytes 0

-- === Bindings and lines of blocks ===

-- bindings
binding_placed : (p : Place) → Placed (binding_at p)
binding_placed p =
    bind_placed (name_at (past_gap p)) (λ n. byte_at equals_sign fault.ExpectedEquals n.1 >>= λ v. value_at v >>= λ value. Ok (record { name = n.0; value = value })) (name_placed (past_gap p))
    (λ n. bind_placed (byte_at equals_sign fault.ExpectedEquals n.1) (λ v. value_at v >>= λ value. Ok (record { name = n.0; value = value })) (byte_placed equals_sign fault.ExpectedEquals n.1 refl)
    (λ v. bind_placed (value_at v) (λ value. Ok (record { name = n.0; value = value })) (value_placed v) (λ _. tt)))

abbrev PlacedBlockLine : BlockLine → Type 0
PlacedBlockLine (Text p) = Unit {0}
PlacedBlockLine (Refused e) = is_some (texts.offset_of e) ≡ true

abbrev PlacedBlockLines : List BlockLine → Type 0
PlacedBlockLines [] = Unit {0}
PlacedBlockLines (m ∷ ms) = PlacedBlockLine m × PlacedBlockLines ms

block_line_placed : (m : BlockLine) → PlacedBlockLine m → Placed (block_line_at m)
block_line_placed (Text p) h = binding_placed p
block_line_placed (Refused e) h = h

no_block_placed : (ms : List BlockLine) → PlacedBlockLines ms → Placed (no_block_allowed ms)
no_block_placed [] h = tt
no_block_placed (Text p ∷ ms) h = refused_placed fault.UnexpectedIndent p refl
no_block_placed (Refused e ∷ ms) h = h.0

block_lines_placed : (ms : List BlockLine) → PlacedBlockLines ms → Placed (each block_line_at ms)
block_lines_placed [] h = tt
block_lines_placed (m ∷ ms) h =
    bind_placed (block_line_at m) (λ y. each block_line_at ms >>= λ ys. Ok (y ∷ ys)) (block_line_placed m h.0) (λ y. bind_placed (each block_line_at ms) (λ ys. Ok (y ∷ ys)) (block_lines_placed ms h.1) (λ _. tt))

unknown_variable_placed : (o : BlockKind) (at : ℕ) → is_some (offset_of (unknown_variable o at)) ≡ true
unknown_variable_placed Rule at = refl
unknown_variable_placed Pool at = refl

once_placed : (o : BlockKind) (at : ℕ) → is_some (offset_of (missing_or_repeated o at)) ≡ true
once_placed Rule at = refl
once_placed Pool at = refl

block_variable_placed : (o : BlockKind) (above : List BlockLine) (m : BlockLine) → PlacedBlockLine m → Placed (block_variable_at o above m)
block_variable_placed o above (Refused e) h = h
block_variable_placed o above (Text p) h =
    bind_placed (name_at (past_gap p))
    (λ n. cond (not (may_bind o n.0)) (Err (unknown_variable o (past_gap p).at)) (cond (bytes_eq n.0 (required_name o) && list_any (is_named (required_name o)) above) (Err (missing_or_repeated o (past_gap p).at)) (binding_at p)))
    (name_placed (past_gap p))
    (λ n. either (not (may_bind o n.0)) (Err (unknown_variable o (past_gap p).at)) (cond (bytes_eq n.0 (required_name o) && list_any (is_named (required_name o)) above) (Err (missing_or_repeated o (past_gap p).at)) (binding_at p)) (unknown_variable_placed o (past_gap p).at)
    (either (bytes_eq n.0 (required_name o) && list_any (is_named (required_name o)) above) (Err (missing_or_repeated o (past_gap p).at)) (binding_at p) (once_placed o (past_gap p).at) (binding_placed p)))

block_variables_placed : (o : BlockKind) (above ms : List BlockLine) → PlacedBlockLines ms → Placed (block_variables_at o above ms)
block_variables_placed o above [] h = tt
block_variables_placed o above (m ∷ ms) h =
    bind_placed (block_variable_at o above m) (λ b. block_variables_at o (above ++ m ∷ []) ms >>= λ bs. Ok (b ∷ bs)) (block_variable_placed o above m h.0)
    (λ b. bind_placed (block_variables_at o (above ++ m ∷ []) ms) (λ bs. Ok (b ∷ bs)) (block_variables_placed o (above ++ m ∷ []) ms h.1) (λ _. tt))

block_placed : (o : BlockKind) (at : ℕ) (p : Place) (ms : List BlockLine) → PlacedBlockLines ms → Placed (named_block o at p ms)
block_placed o at p ms h =
    bind_placed (has_required o at ms) (λ _. named_line p >>= λ name. block_variables_at o [] ms >>= λ bindings. Ok (name, bindings))
    (either (list_any (is_named (required_name o)) ms) (Ok tt) (Err (missing_or_repeated o at)) tt (once_placed o at))
    (λ _. bind_placed (named_line p) (λ name. block_variables_at o [] ms >>= λ bindings. Ok (name, bindings))
    (bind_placed (name_at p) (λ n. line_end_at n.0 n.1) (name_placed p) (λ n. end_placed n.0 n.1))
    (λ name. bind_placed (block_variables_at o [] ms) (λ bindings. Ok (name, bindings)) (block_variables_placed o [] ms h) (λ _. tt)))

-- === Lists of paths ===

-- lists of paths
implicit_placed : (p : Place) → Placed (implicit_at p)
implicit_placed p = either (is_bar p) (paths_at (past 1 p)) (Ok ([], p)) (paths_placed (past 1 p)) tt

order_placed : (p : Place) → Placed (order_only_at p)
order_placed p = either (is_two_bars p) (paths_at (past 2 p)) (Ok ([], p)) (paths_placed (past 2 p)) tt

validation_placed : (p : Place) → Placed (no_validation p)
validation_placed p = either (is_validation p) (Err (fault.Validation p.at)) (Ok tt) refl tt

some_placed : (p : Place) (xs ys : List (List Piece)) → Placed (some_path p xs ys)
some_placed p xs ys = either (length xs + length ys == 0) (refuse fault.ExpectedPath p) (Ok tt) (refused_placed fault.ExpectedPath p refl) tt

outputs_placed : (p : Place) → Placed (outputs_at p)
outputs_placed p =
    bind_placed (paths_at p)
    (λ outputs. implicit_at outputs.1 >>= λ implicit. some_path implicit.1 outputs.0 implicit.0 >>= λ _. byte_at colon fault.ExpectedColon implicit.1 >>= λ behind. Ok (outputs.0, implicit.0, behind))
    (paths_placed p)
    (λ o. bind_placed (implicit_at o.1) (λ implicit. some_path implicit.1 o.0 implicit.0 >>= λ _. byte_at colon fault.ExpectedColon implicit.1 >>= λ behind. Ok (o.0, implicit.0, behind)) (implicit_placed o.1)
    (λ i. bind_placed (some_path i.1 o.0 i.0) (λ _. byte_at colon fault.ExpectedColon i.1 >>= λ behind. Ok (o.0, i.0, behind)) (some_placed i.1 o.0 i.0)
    (λ _. bind_placed (byte_at colon fault.ExpectedColon i.1) (λ behind. Ok (o.0, i.0, behind)) (byte_placed colon fault.ExpectedColon i.1 refl) (λ _. tt))))

inputs_placed : (p : Place) → Placed (inputs_at p)
inputs_placed p =
    bind_placed (paths_at p)
    (λ inputs. implicit_at inputs.1 >>= λ implicit. order_only_at implicit.1 >>= λ order_only. no_validation order_only.1 >>= λ _. line_end_at (inputs.0, implicit.0, order_only.0) order_only.1)
    (paths_placed p)
    (λ o. bind_placed (implicit_at o.1) (λ implicit. order_only_at implicit.1 >>= λ order_only. no_validation order_only.1 >>= λ _. line_end_at (o.0, implicit.0, order_only.0) order_only.1) (implicit_placed o.1)
    (λ i. bind_placed (order_only_at i.1) (λ order_only. no_validation order_only.1 >>= λ _. line_end_at (o.0, i.0, order_only.0) order_only.1) (order_placed i.1)
    (λ x. bind_placed (no_validation x.1) (λ _. line_end_at (o.0, i.0, x.0) x.1) (validation_placed x.1) (λ _. end_placed (o.0, i.0, x.0) x.1))))

behind_placed : {A B : Type 0} (r : Result A ParseFault) (ms : List BlockLine) (make : A → B) → Placed r → PlacedBlockLines ms → Placed (r >>= λ x. no_block_allowed ms >>= λ _. Ok (make x))
behind_placed r ms make h k = bind_placed r (λ x. no_block_allowed ms >>= λ _. Ok (make x)) h (λ x. bind_placed (no_block_allowed ms) (λ _. Ok (make x)) (no_block_placed ms k) (λ _. tt))

targets_placed : (p : Place) → Placed (targets_at p)
targets_placed p =
    bind_placed (paths_at p) (λ targets. some_path targets.1 targets.0 [] >>= λ _. line_end_at targets.0 targets.1) (paths_placed p)
    (λ x. bind_placed (some_path x.1 x.0 []) (λ _. line_end_at x.0 x.1) (some_placed x.1 x.0 []) (λ _. end_placed x.0 x.1))

file_placed : (p : Place) → Placed (file_at p)
file_placed p =
    bind_placed (some_byte p) (λ _. path_at p (path_len p.bytes) >>= λ path. line_end_at path (past_gap (past (path_len p.bytes) p)))
    (either (path_len p.bytes == 0) (refuse fault.ExpectedPath p) (Ok tt) (refused_placed fault.ExpectedPath p refl) tt)
    (λ _. bind_placed (path_at p (path_len p.bytes)) (λ path. line_end_at path (past_gap (past (path_len p.bytes) p))) (path_placed p (path_len p.bytes)) (λ x. end_placed x (past_gap (past (path_len p.bytes) p))))

-- === Statements ===

rule_placed : (at : ℕ) (p : Place) (ms : List BlockLine) → PlacedBlockLines ms → Placed (rule_of at p ms)
rule_placed at p ms h = bind_placed (named_block Rule at p ms) (λ x. Ok (record { offset = at; kind = kind.Rule (record { name = x.0; bindings = x.1 }) })) (block_placed Rule at p ms h) (λ _. tt)

pool_placed : (at : ℕ) (p : Place) (ms : List BlockLine) → PlacedBlockLines ms → Placed (pool_of at p ms)
pool_placed at p ms h = bind_placed (named_block Pool at p ms) (λ x. Ok (record { offset = at; kind = kind.Pool (record { name = x.0; depth = depth_of x.1 }) })) (block_placed Pool at p ms h) (λ _. tt)

build_made : ℕ → List (List Piece) × List (List Piece) × Place → List ℕ → List (List Piece) × List (List Piece) × List (List Piece) → List Binding → Statement
build_made at o rule inputs bindings = record {
  offset = at;
  kind = kind.Build (record {
    paths = record {
      outputs = o.0;
      implicit_outputs = o.1;
      inputs = inputs.0;
      implicit_inputs = inputs.1;
      order_only_inputs = inputs.2;
    };
    rule = rule;
    bindings = bindings;
  });
}

build_placed : (at : ℕ) (p : Place) (ms : List BlockLine) → PlacedBlockLines ms → Placed (build_of at p ms)
unfolding build_made
build_placed at p ms h =
    bind_placed (outputs_at p) (λ outputs. name_at outputs.2 >>= λ rule. inputs_at rule.1 >>= λ inputs. each block_line_at ms >>= λ bindings. Ok (build_made at outputs rule.0 inputs bindings)) (outputs_placed p)
    (λ o. bind_placed (name_at o.2) (λ rule. inputs_at rule.1 >>= λ inputs. each block_line_at ms >>= λ bindings. Ok (build_made at o rule.0 inputs bindings)) (name_placed o.2)
    (λ r. bind_placed (inputs_at r.1) (λ inputs. each block_line_at ms >>= λ bindings. Ok (build_made at o r.0 inputs bindings)) (inputs_placed r.1)
    (λ i. bind_placed (each block_line_at ms) (λ bindings. Ok (build_made at o r.0 i bindings)) (block_lines_placed ms h) (λ _. tt))))

statement_placed : (p : Place) (ms : List BlockLine) → PlacedBlockLines ms → Placed (statement_of p ms)
statement_placed p ms h =
    let word = name_of (past_gap p) in
    let q = past_gap (past (length word) (past_gap p)) in
    either (bytes_eq word (codes "rule")) (rule_of p.at q ms) _ (rule_placed p.at q ms h)
    (either (bytes_eq word (codes "build")) (build_of p.at q ms) _ (build_placed p.at q ms h)
    (either (bytes_eq word (codes "pool")) (pool_of p.at q ms) _ (pool_placed p.at q ms h)
    (either (bytes_eq word (codes "default")) (default_of p.at q ms) _ (behind_placed (targets_at q) ms (λ x. record { offset = p.at; kind = kind.Default x }) (targets_placed q) h)
    (either (bytes_eq word (codes "include")) (include_of p.at q ms) _ (behind_placed (file_at q) ms (λ x. record { offset = p.at; kind = kind.Include x }) (file_placed q) h)
    (either (bytes_eq word (codes "subninja")) (subninja_of p.at q ms) (binding_of p ms) (behind_placed (file_at q) ms (λ x. record { offset = p.at; kind = kind.Subninja x }) (file_placed q) h)
    (behind_placed (binding_at p) ms (λ x. record { offset = p.at; kind = kind.Binding x }) (binding_placed p) h))))))

-- === Lines and blocks ===

-- the roles of lines
abbrev PlacedRole : Option LineRole → Type 0
PlacedRole None = Unit {0}
PlacedRole (Some (Head p)) = Unit {0}
PlacedRole (Some (Below m)) = PlacedBlockLine m

abbrev PlacedRoles : List LineRole → Type 0
PlacedRoles [] = Unit {0}
PlacedRoles (Head p ∷ more) = PlacedRoles more
PlacedRoles (Below m ∷ more) = PlacedBlockLine m × PlacedRoles more

role_by : (at : ℕ) (p : Place) (n : ℕ) (t u v w : Bool) → PlacedRole (cond t None (cond u (cond v (Some (Below (Refused (text.NulByte (at + n))))) None) (Some (cond w (Below (Text p)) (Head p)))))
role_by at p n true u v w = tt
role_by at p n false true true w = refl
role_by at p n false true false w = tt
role_by at p n false false v true = tt
role_by at p n false false v false = tt

role_placed : (raw : Raw) → PlacedRole (role_of_line raw)
role_placed raw =
    role_by raw.at (record { at = raw.at + indent_len raw.bytes; bytes = drop (indent_len raw.bytes) raw.bytes }) (position_or_len (λ b. b == nul) raw.bytes)
    (length raw.bytes == indent_len raw.bytes) (begins_with hash (drop (indent_len raw.bytes) raw.bytes)) (nat_lt (position_or_len (λ b. b == nul) raw.bytes) (length raw.bytes)) (is_indented raw.bytes)

cons_placed : (o : Option LineRole) (more : List LineRole) → PlacedRole o → PlacedRoles more → PlacedRoles (Rattle.std.specs.List.cons_option o more)
cons_placed None more h k = k
cons_placed (Some (Head p)) more h k = k
cons_placed (Some (Below m)) more h k = (h, k)

lines_placed : (raws : List Raw) → PlacedRoles (roles_of_lines raws)
lines_placed [] = tt
lines_placed (raw ∷ raws) = cons_placed (role_of_line raw) (roles_of_lines raws) (role_placed raw) (lines_placed raws)

below_placed : (roles : List LineRole) → PlacedRoles roles → PlacedBlockLines (below roles)
below_placed [] h = tt
below_placed (Head p ∷ more) h = tt
below_placed (Below m ∷ more) h = (h.0, below_placed more h.1)

blocks_placed : (roles : List LineRole) → PlacedRoles roles → Placed (each statement_in (blocks_of roles))
blocks_placed [] h = tt
blocks_placed (Below m ∷ more) h = blocks_placed more h.1
blocks_placed (Head p ∷ more) h =
    bind_placed (statement_of p (below more)) (λ y. each statement_in (blocks_of more) >>= λ ys. Ok (y ∷ ys)) (statement_placed p (below more) (below_placed more h))
    (λ y. bind_placed (each statement_in (blocks_of more)) (λ ys. Ok (y ∷ ys)) (blocks_placed more h) (λ _. tt))

text_placed : (source : List ℕ) → Placed (statements_of source)
text_placed source =
    let roles = roles_of_lines (raw_lines source) in
    let h = lines_placed (raw_lines source) in
    either (nat_lt max_source (length source)) (Err (fault.Text (text.SourceTooLong max_source))) (no_block_allowed (below roles) >>= λ _. each statement_in (blocks_of roles)) refl
    (bind_placed (no_block_allowed (below roles)) (λ _. each statement_in (blocks_of roles)) (no_block_placed (below roles) (below_placed roles h)) (λ _. blocks_placed roles h))

-- each fault of a text has an offset
pub all_placed : (source : List ℕ) (e : ParseFault) → statements_of source ≡ Err e → is_some (offset_of e) ≡ true
all_placed source e h = subst (λ (r : Result (List Statement) ParseFault). Placed r) h (text_placed source)
