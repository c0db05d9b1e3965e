-- Worked examples of statements.
use Rattle.std.proofs.Common.{◌≡◌, ℕ, true, false, List, [], ◌∷◌, ◌++◌, Ok, Err, refl}
use Rattle.std.specs.Prelude.{codes}
use Rattle.plan_text.specs.declared.piece_reader.Piece.{Piece}
use Rattle.plan_text.specs.declared.piece_reader.Piece.TheVariants.{Literal, Reference}
use Rattle.plan_text.specs.declared.fault.TextFault.TheVariants.{BadEscape, NulByte, TabBlank}
use Rattle.plan_parse.specs.declared.fault.ParseFault.TheVariants.{Text, NoCommand, BadPool, Validation, UnexpectedIndent, ExpectedColon, ExpectedPath, UnknownRuleVariable, ExpectedLineEnd, ExpectedName, ExpectedEquals}
use Rattle.plan_parse.specs.declared.statement.Binding.{Binding}
use Rattle.plan_parse.specs.Kinds.{Statement}
use Rattle.plan_parse.specs.Kinds as kind
use Rattle.plan_text.specs.Lines.{has_ended_lines}
use Rattle.plan_parse.specs.Laws.{begins_block}
use Rattle.plan_parse.specs.Statements.{statements_of}

abbrev lf : List ℕ
lf = 10 ∷ []

abbrev bind : List ℕ → List Piece → Binding
bind name value = record { name = name; value = value }

abbrev rule_at : ℕ → List ℕ → List Binding → Statement
rule_at at name bindings = record { offset = at; kind = kind.Rule (record { name = name; bindings = bindings }) }

abbrev full_build : ℕ → (outputs implicit_outputs : List (List Piece)) → List ℕ → (inputs implicit_inputs order_only_inputs : List (List Piece)) → List Binding → Statement
full_build at outputs implicit_outputs name inputs implicit_inputs order_only_inputs bindings = record {
  offset = at;
  kind = kind.Build (record {
    paths = record {
      outputs = outputs;
      implicit_outputs = implicit_outputs;
      inputs = inputs;
      implicit_inputs = implicit_inputs;
      order_only_inputs = order_only_inputs;
    };
    rule = name;
    bindings = bindings;
  });
}

-- a path of plain bytes
abbrev plain : List ℕ → List Piece
plain text = Literal text ∷ []

abbrev build : ℕ → List (List Piece) → List ℕ → List (List Piece) → List Binding → Statement
build at outputs name inputs bindings = full_build at outputs [] name inputs [] [] bindings

abbrev set : ℕ → List ℕ → List Piece → Statement
set at name value = record { offset = at; kind = kind.Binding (bind name value) }

empty_manifest : statements_of [] ≡ Ok []
empty_manifest = refl

demo : statements_of (codes "rule demo" ++ lf ++ codes "  command = echo \"this is a demo of $foo\"" ++ lf ++ codes "build out: demo" ++ lf ++ codes "  foo = bar" ++ lf)
    ≡ Ok (rule_at 0 (codes "demo") (bind (codes "command") (Literal (codes "echo \"this is a demo of ") ∷ Reference (codes "foo") ∷ Literal (codes "\"") ∷ []) ∷ [])
    ∷ build 52 ((Literal (codes "out") ∷ []) ∷ []) (codes "demo") [] (bind (codes "foo") (Literal (codes "bar") ∷ []) ∷ [])
    ∷ [])
demo = refl

quoted_paths : statements_of (codes "spaced = foo bar" ++ lf ++ codes "rule t" ++ lf ++ codes "  command = touch $out" ++ lf ++ codes "build $spaced/baz other$ file: t")
    ≡ Ok (set 0 (codes "spaced") (Literal (codes "foo bar") ∷ [])
    ∷ rule_at 17 (codes "t") (bind (codes "command") (Literal (codes "touch ") ∷ Reference (codes "out") ∷ []) ∷ [])
    ∷ build 47 ((Reference (codes "spaced") ∷ Literal (codes "/baz") ∷ []) ∷ (Literal (codes "other file") ∷ []) ∷ []) (codes "t") [] []
    ∷ [])
quoted_paths = refl

block_before_file : statements_of (codes "build f$x: e a" ++ lf ++ codes "  x = 2" ++ lf)
    ≡ Ok (build 0 ((Literal (codes "f") ∷ Reference (codes "x") ∷ []) ∷ []) (codes "e") ((Literal (codes "a") ∷ []) ∷ []) (bind (codes "x") (Literal (codes "2") ∷ []) ∷ []) ∷ [])
block_before_file = refl

bad_escape : statements_of (codes "x = a$!") ≡ Err (Text (BadEscape 5))
bad_escape = refl

-- the first block with a fault, whatever is below it
first_block : statements_of (codes "rule r" ++ lf ++ codes "x = a" ++ lf ++ 9 ∷ codes "y") ≡ Err (NoCommand 0)
first_block = refl

nul_in_comment : statements_of (codes "rule r" ++ lf ++ codes "# " ++ 0 ∷ 10 ∷ codes "  command = x") ≡ Err (Text (NulByte 9))
nul_in_comment = refl

indent_below_binding : statements_of (codes "x = 1" ++ lf ++ codes "  y = 2") ≡ Err (UnexpectedIndent 8)
indent_below_binding = refl

indent_in_front : statements_of (codes "  y = 2" ++ lf ++ codes "rule") ≡ Err (UnexpectedIndent 2)
indent_in_front = refl

no_colon : statements_of (codes "build a b") ≡ Err (ExpectedColon 9)
no_colon = refl

tab_in_path : statements_of (codes "build a" ++ 9 ∷ codes "b: r") ≡ Err (Text (TabBlank 7))
tab_in_path = refl

no_output : statements_of (codes "build : r") ≡ Err (ExpectedPath 6)
no_output = refl

all_lists : statements_of (codes "build a b | c: r d | e f || g")
    ≡ Ok (full_build 0 (plain (codes "a") ∷ plain (codes "b") ∷ []) (plain (codes "c") ∷ []) (codes "r") (plain (codes "d") ∷ []) (plain (codes "e") ∷ plain (codes "f") ∷ []) (plain (codes "g") ∷ []) [] ∷ [])
all_lists = refl

implicit_output_alone : statements_of (codes "build |a: r||b") ≡ Ok (full_build 0 [] (plain (codes "a") ∷ []) (codes "r") [] [] (plain (codes "b") ∷ []) [] ∷ [])
implicit_output_alone = refl

empty_lists : statements_of (codes "build a |: r | ||") ≡ Ok (full_build 0 (plain (codes "a") ∷ []) [] (codes "r") [] [] [] [] ∷ [])
empty_lists = refl

no_output_of_either_sort : statements_of (codes "build |: r") ≡ Err (ExpectedPath 7)
no_output_of_either_sort = refl

bars_among_outputs : statements_of (codes "build a || b: r") ≡ Err (ExpectedColon 8)
bars_among_outputs = refl

validation_among_outputs : statements_of (codes "build a |@ b: r") ≡ Err (ExpectedColon 8)
validation_among_outputs = refl

validation_for_an_output : statements_of (codes "build |@ b: r") ≡ Err (ExpectedPath 6)
validation_for_an_output = refl

validation : statements_of (codes "build a: r |@ b") ≡ Err (Validation 11)
validation = refl

validation_behind_order_only : statements_of (codes "build a: r || b |@ c") ≡ Err (Validation 16)
validation_behind_order_only = refl

bar_behind_order_only : statements_of (codes "build a: r || b | c") ≡ Err (ExpectedLineEnd 16)
bar_behind_order_only = refl

two_implicit_lists : statements_of (codes "build a: r | b | c") ≡ Err (ExpectedLineEnd 15)
two_implicit_lists = refl

one_pool : statements_of (codes "pool p" ++ lf ++ codes "  depth = $n") ≡ Ok (record { offset = 0; kind = kind.Pool (record { name = codes "p"; depth = Reference (codes "n") ∷ [] }) } ∷ [])
one_pool = refl

pool_without_depth : statements_of (codes "pool p" ++ lf ++ codes "  name = 4") ≡ Err (BadPool 0)
pool_without_depth = refl

pool_with_another_name : statements_of (codes "pool p" ++ lf ++ codes "  name = 4" ++ lf ++ codes "  depth = 4") ≡ Err (BadPool 9)
pool_with_another_name = refl

second_depth : statements_of (codes "pool p" ++ lf ++ codes "  depth = 4" ++ lf ++ codes "  depth = 4") ≡ Err (BadPool 21)
second_depth = refl

pool_without_name : statements_of (codes "pool" ++ lf ++ codes "  depth = 4") ≡ Err (ExpectedName 4)
pool_without_name = refl

two_defaults : statements_of (codes "default a $b") ≡ Ok (record { offset = 0; kind = kind.Default (plain (codes "a") ∷ (Reference (codes "b") ∷ []) ∷ []) } ∷ [])
two_defaults = refl

no_default : statements_of (codes "default") ≡ Err (ExpectedPath 7)
no_default = refl

bar_behind_defaults : statements_of (codes "default a | b") ≡ Err (ExpectedLineEnd 10)
bar_behind_defaults = refl

indent_below_default : statements_of (codes "default a" ++ lf ++ codes " b = c") ≡ Err (UnexpectedIndent 11)
indent_below_default = refl

one_include : statements_of (codes "include $dir/a.ninja") ≡ Ok (record { offset = 0; kind = kind.Include (Reference (codes "dir") ∷ Literal (codes "/a.ninja") ∷ []) } ∷ [])
one_include = refl

one_subninja : statements_of (codes "x = 1" ++ lf ++ codes "subninja a$ b") ≡ Ok (set 0 (codes "x") (plain (codes "1")) ∷ record { offset = 6; kind = kind.Subninja (plain (codes "a b")) } ∷ [])
one_subninja = refl

include_of_nothing : statements_of (codes "include ") ≡ Err (ExpectedPath 8)
include_of_nothing = refl

include_of_two : statements_of (codes "include a b") ≡ Err (ExpectedLineEnd 10)
include_of_two = refl

all_rule_variables : statements_of (codes "rule r" ++ lf ++ codes " command=1" ++ lf ++ codes " depfile=2" ++ lf ++ codes " deps=3" ++ lf ++ codes " msvc_deps_prefix=4" ++ lf ++ codes " description=5" ++ lf ++ codes " dyndep=6" ++ lf ++ codes " generator=7" ++ lf
    ++ codes " in=8" ++ lf ++ codes " in_newline=9" ++ lf ++ codes " out=10" ++ lf ++ codes " restat=11" ++ lf ++ codes " rspfile=12" ++ lf ++ codes " rspfile_content=13" ++ lf ++ codes " pool=14")
    ≡ Ok (rule_at 0 (codes "r")
    (bind (codes "command") (plain (codes "1")) ∷ bind (codes "depfile") (plain (codes "2")) ∷ bind (codes "deps") (plain (codes "3")) ∷ bind (codes "msvc_deps_prefix") (plain (codes "4"))
    ∷ bind (codes "description") (plain (codes "5")) ∷ bind (codes "dyndep") (plain (codes "6")) ∷ bind (codes "generator") (plain (codes "7")) ∷ bind (codes "in") (plain (codes "8"))
    ∷ bind (codes "in_newline") (plain (codes "9")) ∷ bind (codes "out") (plain (codes "10")) ∷ bind (codes "restat") (plain (codes "11")) ∷ bind (codes "rspfile") (plain (codes "12"))
    ∷ bind (codes "rspfile_content") (plain (codes "13")) ∷ bind (codes "pool") (plain (codes "14")) ∷ []) ∷ [])
all_rule_variables = refl

colon_among_inputs : statements_of (codes "build a: r b : c") ≡ Err (ExpectedLineEnd 13)
colon_among_inputs = refl

second_command : statements_of (codes "rule r" ++ lf ++ codes "  command = a" ++ lf ++ codes "  command = b") ≡ Err (NoCommand 23)
second_command = refl

bad_name : statements_of (codes "rule $!" ++ lf ++ codes "  command = a") ≡ Err (Text (BadEscape 5))
bad_name = refl

more_behind_name : statements_of (codes "rule a b" ++ lf ++ codes "  command = a") ≡ Err (ExpectedLineEnd 7)
more_behind_name = refl

unknown_variable : statements_of (codes "rule r" ++ lf ++ codes "  depfil = a" ++ lf ++ codes "  command = b") ≡ Err (UnknownRuleVariable 9)
unknown_variable = refl

-- a missing command comes before all other faults of its block
absent_command : statements_of (codes "rule r" ++ lf ++ codes "  depfil = x") ≡ Err (NoCommand 0)
absent_command = refl

-- a faulty command is a command
faulty_command : statements_of (codes "rule r" ++ lf ++ codes "  command = $!") ≡ Err (Text (BadEscape 19))
faulty_command = refl

-- a tab before a line of the block
tab_in_front : statements_of (codes "rule r" ++ lf ++ 9 ∷ codes "command = x") ≡ Err (Text (TabBlank 7))
tab_in_front = refl

blank_tab_line : statements_of (codes "rule r" ++ lf ++ 9 ∷ 10 ∷ codes "  command = x") ≡ Err (Text (TabBlank 7))
blank_tab_line = refl

-- `$` and a newline before a line
continued_nothing : statements_of (36 ∷ 10 ∷ []) ≡ Err (ExpectedName 2)
continued_nothing = refl

continued_indent : statements_of (32 ∷ 36 ∷ 10 ∷ []) ≡ Err (UnexpectedIndent 1)
continued_indent = refl

continued_binding : statements_of (36 ∷ 10 ∷ codes "x = 1") ≡ Ok (set 0 (codes "x") (Literal (codes "1") ∷ []) ∷ [])
continued_binding = refl

continued_rule : statements_of (36 ∷ 10 ∷ codes "rule") ≡ Err (NoCommand 0)
continued_rule = refl

no_comment : statements_of (36 ∷ 10 ∷ codes "# c") ≡ Err (ExpectedName 2)
no_comment = refl

no_equals : statements_of (codes "x y") ≡ Err (ExpectedEquals 2)
no_equals = refl

nul_for_indent : statements_of (codes "x = 1" ++ lf ++ 32 ∷ 0 ∷ []) ≡ Err (Text (NulByte 7))
nul_for_indent = refl

tab_in_value : statements_of (codes "x =  a" ++ 9 ∷ []) ≡ Ok (set 0 (codes "x") (Literal (codes "a" ++ 9 ∷ []) ∷ []) ∷ [])
tab_in_value = refl

-- whether a text begins a block: blank lines and comments may come first, and the line is not indented
begins_1 : begins_block (10 ∷ codes "# c" ++ 10 ∷ codes "x = 1") ≡ true
begins_1 = refl

begins_2 : begins_block (codes "  x = 1") ≡ false
begins_2 = refl

-- whether the lines of a text are ended: a newline after `$` or a single CR ends none
ended_1 : has_ended_lines (codes "x = 1" ++ 10 ∷ 13 ∷ 10 ∷ []) ≡ true
ended_1 = refl

ended_2 : has_ended_lines (codes "x = 1$" ++ 10 ∷ []) ≡ false
ended_2 = refl

ended_3 : has_ended_lines (codes "x = 1" ++ 13 ∷ []) ≡ false
ended_3 = refl
