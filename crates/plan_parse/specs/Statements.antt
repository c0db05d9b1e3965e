-- The statements of a text, block by block. (Ninja manual, "Ninja file reference".)
use Rattle.std.specs.Prelude.{ℕ, ◌+◌, ◌==◌, nat_lt, Bool, false, not, ◌||◌, ◌&&◌, List, [], ◌∷◌, ◌++◌, length, drop, if◌then◌else◌, Result, Ok, Err, codes}
use Rattle.std.specs.List.{prefix_len, list_any}
use Rattle.std.specs.Str.{bytes_eq}
use Rattle.plan_text.specs.Outcome.{◌>>=◌, each}
use Rattle.plan_text.specs.Bytes.{at_sign, colon, bar, equals_sign, is_blank, begins_with}
use Rattle.plan_text.specs.Lines.{raw_lines}
use Rattle.plan_text.specs.Limits.{max_source}
use Rattle.plan_text.specs.declared.fault.TextFault.TheVariants.{SourceTooLong}
use Rattle.plan_text.specs.declared.piece_reader.Piece.{Piece}
use Rattle.plan_parse.specs.declared.fault.ParseFault.{ParseFault}
use Rattle.plan_parse.specs.declared.fault.ParseFault.TheVariants as fault
use Rattle.plan_parse.specs.declared.block.BlockKind.{BlockKind}
use Rattle.plan_parse.specs.declared.block.BlockKind.TheVariants.{Rule, Pool}
use Rattle.plan_parse.specs.declared.statement.Binding.{Binding}
use Rattle.plan_parse.specs.Kinds as kind
use Rattle.plan_parse.specs.Kinds.{Statement}
use Rattle.plan_parse.specs.Reading.{Place, past, past_gap, refuse, name_of, name_at, byte_at, line_end_at, value_at, path_len, path_at, paths_at}
use Rattle.plan_parse.specs.Blocks.{BlockLine, Text, Refused, Block, roles_of_lines, below, blocks_of}

-- `name = value`
abbrev pub binding_at : Place → Result Binding ParseFault
binding_at p =
    name_at (past_gap p) >>= λ n. byte_at equals_sign fault.ExpectedEquals n.1 >>= λ v. value_at v >>= λ value.
    Ok (record { name = n.0; value = value })

-- a line of a block as a binding
abbrev pub block_line_at : BlockLine → Result Binding ParseFault
block_line_at (Refused e) = Err (fault.Text e)
block_line_at (Text p) = binding_at p

-- no line may be indented below other statements
abbrev pub no_block_allowed : List BlockLine → Result (Unit {0}) ParseFault
no_block_allowed [] = Ok tt
no_block_allowed (Text p ∷ more) = refuse fault.UnexpectedIndent p
no_block_allowed (Refused e ∷ more) = Err (fault.Text e)

-- the first word of a line, after any spaces and tabs
abbrev pub first_word : Place → List ℕ
first_word p = name_of (past_gap (past (prefix_len is_blank p.bytes) p))

-- whether a line binds this name, even if the binding has a fault
abbrev pub is_named : List ℕ → BlockLine → Bool
is_named name (Refused e) = false
is_named name (Text p) = bytes_eq (first_word p) name

-- the variables that a rule may bind
abbrev pub rule_variables : List (List ℕ)
rule_variables =
    codes "command" ∷ codes "depfile" ∷ codes "deps" ∷ codes "msvc_deps_prefix" ∷ codes "description" ∷ codes "dyndep" ∷ codes "generator"
    ∷ codes "in" ∷ codes "in_newline" ∷ codes "out" ∷ codes "restat" ∷ codes "rspfile" ∷ codes "rspfile_content" ∷ codes "pool" ∷ []

-- the names that a rule or a pool may bind
abbrev pub may_bind : BlockKind → List ℕ → Bool
may_bind Rule name = list_any (bytes_eq name) rule_variables
may_bind Pool name = bytes_eq name (codes "depth")

-- the name that the block must bind exactly once
abbrev pub required_name : BlockKind → List ℕ
required_name Rule = codes "command"
required_name Pool = codes "depth"

-- the fault of a name that the block may not bind
abbrev pub unknown_variable : BlockKind → ℕ → ParseFault
unknown_variable Rule at = fault.UnknownRuleVariable at
unknown_variable Pool at = fault.BadPool at

-- the fault of the required name if it is missing or repeated
abbrev pub missing_or_repeated : BlockKind → ℕ → ParseFault
missing_or_repeated Rule at = fault.NoCommand at
missing_or_repeated Pool at = fault.BadPool at

-- a rule or a pool binds only allowed names, and the required name once; the lines above this one are given
abbrev pub block_variable_at : BlockKind → List BlockLine → BlockLine → Result Binding ParseFault
block_variable_at block above (Refused e) = Err (fault.Text e)
block_variable_at block above (Text p) =
    name_at (past_gap p) >>= λ n.
    (if not (may_bind block n.0) then Err (unknown_variable block (past_gap p).at)
    else if bytes_eq n.0 (required_name block) && list_any (is_named (required_name block)) above then Err (missing_or_repeated block (past_gap p).at)
    else binding_at p)

-- the lines of a rule or a pool in order, each with those above it
abbrev pub block_variables_at : BlockKind → List BlockLine → List BlockLine → Result (List Binding) ParseFault
block_variables_at block above [] = Ok []
block_variables_at block above (line ∷ more) = block_variable_at block above line >>= λ b. block_variables_at block (above ++ line ∷ []) more >>= λ bs. Ok (b ∷ bs)

-- a missing name is reported at the block's first byte, before all other faults of the block
abbrev pub has_required : BlockKind → ℕ → List BlockLine → Result (Unit {0}) ParseFault
has_required block at lines = if list_any (is_named (required_name block)) lines then Ok tt else Err (missing_or_repeated block at)

-- a name and the end of the line
abbrev pub named_line : Place → Result (List ℕ) ParseFault
named_line p = name_at p >>= λ n. line_end_at n.0 n.1

-- a rule or a pool, from its name on, and the lines below it
abbrev pub named_block : BlockKind → ℕ → Place → List BlockLine → Result (List ℕ × List Binding) ParseFault
named_block block at p lines =
    has_required block at lines >>= λ _. named_line p >>= λ name. block_variables_at block [] lines >>= λ bindings. Ok (name, bindings)

-- `rule name`
abbrev pub rule_of : ℕ → Place → List BlockLine → Result Statement ParseFault
rule_of at p lines = named_block Rule at p lines >>= λ x. Ok (record { offset = at; kind = kind.Rule (record { name = x.0; bindings = x.1 }) })

-- the value of the single line of a pool
abbrev pub depth_of : List Binding → List Piece
depth_of [] = []
depth_of (b ∷ bs) = b.value

-- `pool name`
abbrev pub pool_of : ℕ → Place → List BlockLine → Result Statement ParseFault
pool_of at p lines = named_block Pool at p lines >>= λ x. Ok (record { offset = at; kind = kind.Pool (record { name = x.0; depth = depth_of x.1 }) })

-- `|`, and not `||` or `|@`
abbrev pub is_bar : Place → Bool
is_bar p = begins_with bar p.bytes && not (begins_with bar (drop 1 p.bytes) || begins_with at_sign (drop 1 p.bytes))

-- `||`
abbrev pub is_two_bars : Place → Bool
is_two_bars p = begins_with bar p.bytes && begins_with bar (drop 1 p.bytes)

-- `|@`
abbrev pub is_validation : Place → Bool
is_validation p = begins_with bar p.bytes && begins_with at_sign (drop 1 p.bytes)

-- the list after `|`, which is empty if there is no `|` here
abbrev pub implicit_at : Place → Result (List (List Piece) × Place) ParseFault
implicit_at p = if is_bar p then paths_at (past 1 p) else Ok ([], p)

-- the list after `||`, which is empty if there is no `||` here
abbrev pub order_only_at : Place → Result (List (List Piece) × Place) ParseFault
order_only_at p = if is_two_bars p then paths_at (past 2 p) else Ok ([], p)

abbrev pub no_validation : Place → Result (Unit {0}) ParseFault
no_validation p = if is_validation p then Err (fault.Validation p.at) else Ok tt

-- at least one path in both lists
abbrev pub some_path : Place → List (List Piece) → List (List Piece) → Result (Unit {0}) ParseFault
some_path p paths more = if length paths + length more == 0 then refuse fault.ExpectedPath p else Ok tt

-- `outputs | implicit_outputs:`, and the place after it
abbrev pub outputs_at : Place → Result (List (List Piece) × List (List Piece) × Place) ParseFault
outputs_at p =
    paths_at p >>= λ outputs. implicit_at outputs.1 >>= λ implicit. some_path implicit.1 outputs.0 implicit.0 >>= λ _.
    byte_at colon fault.ExpectedColon implicit.1 >>= λ behind. Ok (outputs.0, implicit.0, behind)

-- `inputs | implicit_inputs || order_only_inputs` and the end of the line
abbrev pub inputs_at : Place → Result (List (List Piece) × List (List Piece) × List (List Piece)) ParseFault
inputs_at p =
    paths_at p >>= λ inputs. implicit_at inputs.1 >>= λ implicit. order_only_at implicit.1 >>= λ order_only.
    no_validation order_only.1 >>= λ _. line_end_at (inputs.0, implicit.0, order_only.0) order_only.1

-- `build outputs: rule inputs`, from its outputs on, and the lines below it
abbrev pub build_of : ℕ → Place → List BlockLine → Result Statement ParseFault
build_of at p lines =
    outputs_at p >>= λ outputs. name_at outputs.2 >>= λ rule. inputs_at rule.1 >>= λ inputs. each block_line_at lines >>= λ bindings.
    Ok (record {
      offset = at;
      kind = kind.Build (record {
        paths = record {
          outputs = outputs.0;
          implicit_outputs = outputs.1;
          inputs = inputs.0;
          implicit_inputs = inputs.1;
          order_only_inputs = inputs.2;
        };
        rule = rule.0;
        bindings = bindings;
      });
    })

-- one path or more, and the end of the line
abbrev pub targets_at : Place → Result (List (List Piece)) ParseFault
targets_at p = paths_at p >>= λ targets. some_path targets.1 targets.0 [] >>= λ _. line_end_at targets.0 targets.1

-- `default targets`, from its targets on, and nothing below it
abbrev pub default_of : ℕ → Place → List BlockLine → Result Statement ParseFault
default_of at p lines = targets_at p >>= λ targets. no_block_allowed lines >>= λ _. Ok (record { offset = at; kind = kind.Default targets })

abbrev pub some_byte : Place → Result (Unit {0}) ParseFault
some_byte p = if path_len p.bytes == 0 then refuse fault.ExpectedPath p else Ok tt

-- one path, and the end of the line
abbrev pub file_at : Place → Result (List Piece) ParseFault
file_at p = some_byte p >>= λ _. path_at p (path_len p.bytes) >>= λ path. line_end_at path (past_gap (past (path_len p.bytes) p))

-- `include path`, from its path on, and nothing below it
abbrev pub include_of : ℕ → Place → List BlockLine → Result Statement ParseFault
include_of at p lines = file_at p >>= λ path. no_block_allowed lines >>= λ _. Ok (record { offset = at; kind = kind.Include path })

-- `subninja path`, from its path on, and nothing below it
abbrev pub subninja_of : ℕ → Place → List BlockLine → Result Statement ParseFault
subninja_of at p lines = file_at p >>= λ path. no_block_allowed lines >>= λ _. Ok (record { offset = at; kind = kind.Subninja path })

-- `name = value`, and nothing below it
abbrev pub binding_of : Place → List BlockLine → Result Statement ParseFault
binding_of p lines = binding_at p >>= λ b. no_block_allowed lines >>= λ _. Ok (record { offset = p.at; kind = kind.Binding b })

-- a statement, by the word that it begins with
abbrev pub statement_of : Place → List BlockLine → Result Statement ParseFault
statement_of p lines =
    let word = name_of (past_gap p) in
    let behind = past_gap (past (length word) (past_gap p)) in
    if bytes_eq word (codes "rule") then rule_of p.at behind lines
    else if bytes_eq word (codes "build") then build_of p.at behind lines
    else if bytes_eq word (codes "pool") then pool_of p.at behind lines
    else if bytes_eq word (codes "default") then default_of p.at behind lines
    else if bytes_eq word (codes "include") then include_of p.at behind lines
    else if bytes_eq word (codes "subninja") then subninja_of p.at behind lines
    else binding_of p lines

abbrev pub statement_in : Block → Result Statement ParseFault
statement_in b = statement_of b.head b.lines

-- the statements of a text, or the fault of its first block that has one
abbrev pub statements_of : List ℕ → Result (List Statement) ParseFault
statements_of source =
    if nat_lt max_source (length source) then Err (fault.Text (SourceTooLong max_source))
    else
    let roles = roles_of_lines (raw_lines source) in
    no_block_allowed (below roles) >>= λ _. each statement_in (blocks_of roles)
