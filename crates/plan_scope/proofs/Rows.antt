-- Worked examples of scopes and expansion, beginning with the bytes of files.
use Rattle.std.proofs.Common.{◌≡◌, ℕ, Bor, List, [], ◌∷◌, ◌++◌, ◌⊎◌, inl, inr, map, Option, Some, Result, Ok, Err, refl}
use Rattle.std.specs.Prelude.{codes, true, false}
use Rattle.plan_parse.specs.declared.fault.ParseFault.{ParseFault}
use Rattle.plan_parse.specs.Kinds.{Statement}
use Rattle.plan_parse.specs.Statements.{statements_of}
use Rattle.plan_scope.specs.declared.fault.Cause.TheVariants.{IncludeDepth, DuplicateRule, UnknownRule, DuplicatePool, UnknownPool, RuleCycle, EmptyPath, Dyndep, Rspfile, DepsKind, BadDepth}
use Rattle.plan_scope.specs.declared.fault.ScopeFault.{ScopeFault}
use Rattle.plan_scope.specs.declared.fault.ScopeFault.TheVariants.{Refused, SourceMissing}
use Rattle.plan_scope.specs.declared.manifest.Manifest.{Manifest}
use Rattle.plan_scope.specs.declared.edge.compiled.VariablePart.{VariablePart}
use Rattle.plan_scope.specs.declared.edge.compiled.VariablePart.TheVariants as part
use Rattle.plan_scope.specs.Trees.{TreeStatement}
use Rattle.plan_scope.specs.Scopes.{Text, Bindings}
use Rattle.plan_scope.specs.Expansion.{EdgeEnvironment, plain, quoted}
use Rattle.plan_scope.specs.Compiled.{text_of_parts}
use Rattle.plan_scope.specs.declared.edge.addition.Addition.{Addition}
use Rattle.plan_scope.specs.Edge.{Edge}
use Rattle.plan_scope.specs.Edges.{Paths, manifest_of, commands_of}
use Rattle.plan_scope.specs.Extended.{added, extended}
use Rattle.plan_scope.specs.Loading.{LoadsFirst, MayLoad, whole_file, is_read, is_missing, is_refused, is_added, includes_file, ends, fresh_scope}

abbrev lf : List ℕ
lf = 10 ∷ []

abbrev name : List ℕ
name = codes "build.ninja"

abbrev shown : Result Manifest ScopeFault → Result (List ℕ) ScopeFault
shown (Ok m) = Ok (commands_of m)
shown (Err e) = Err e

-- The statements of a file as those of a tree.
abbrev tree_statements : List ℕ → List ℕ → Result (List Statement) ParseFault → List TreeStatement
tree_statements path scopes (Ok statements) = map (λ s. record { path = path; scopes = scopes; offset = s.offset; kind = s.kind }) statements
tree_statements path scopes (Err e) = []

abbrev manifest : List ℕ → Result Manifest ScopeFault
manifest bytes = manifest_of (tree_statements name (0 ∷ []) (statements_of bytes))

abbrev commands : List ℕ → Result (List ℕ) ScopeFault
commands bytes = shown (manifest bytes)

abbrev rule_r : List ℕ
rule_r = codes "rule r" ++ lf ++ codes "  command = true" ++ lf

empty_file : commands [] ≡ Ok []
empty_file = refl

demo : commands (codes "rule demo" ++ lf ++ codes "  command = echo \"this is a demo of $foo\"" ++ lf ++ codes "build out: demo" ++ lf ++ codes "  foo = bar" ++ lf)
    ≡ Ok (codes "echo \"this is a demo of bar\"" ++ lf)
demo = refl

quoted_paths : commands (codes "spaced = foo bar" ++ lf ++ codes "rule t" ++ lf ++ codes "  command = touch $out" ++ lf ++ codes "build $spaced/baz other$ file: t")
    ≡ Ok (codes "touch 'foo bar/baz' 'other file'" ++ lf)
quoted_paths = refl

quote_in_path : commands (codes "rule t" ++ lf ++ codes "  command = touch $out" ++ lf ++ codes "build it's: t")
    ≡ Ok (codes "touch 'it'\\''s'" ++ lf)
quote_in_path = refl

block_before_file : commands (codes "rule e" ++ lf ++ codes "  command = echo $x $out" ++ lf ++ codes "x = 1" ++ lf ++ codes "build f$x: e" ++ lf ++ codes "x = 2")
    ≡ Ok (codes "echo 2 f1" ++ lf)
block_before_file = refl

-- The rule must be declared above.
rule_below : commands (codes "build a: r" ++ lf ++ codes "rule r" ++ lf ++ codes "  command = true") ≡ Err (Refused name 0 UnknownRule)
rule_below = refl

rule_twice : commands (codes "rule r" ++ lf ++ codes "  command = a" ++ lf ++ codes "rule r" ++ lf ++ codes "  command = b") ≡ Err (Refused name 21 DuplicateRule)
rule_twice = refl

phony_declared : commands (codes "rule phony" ++ lf ++ codes "  command = a") ≡ Err (Refused name 0 DuplicateRule)
phony_declared = refl

cycle : commands (codes "rule r" ++ lf ++ codes "  command = a $command" ++ lf ++ codes "build a$none: r $none") ≡ Err (Refused name 30 RuleCycle)
cycle = refl

-- A block that binds `command` hides the rule's.
block_command : commands (codes "rule r" ++ lf ++ codes "  command = a $command" ++ lf ++ codes "build a: r" ++ lf ++ codes "  command = b$ $x")
    ≡ Ok (codes "b " ++ lf)
block_command = refl

empty_path : commands (codes "rule r" ++ lf ++ codes "  command = true" ++ lf ++ codes "build a: r $none") ≡ Err (Refused name 24 EmptyPath)
empty_path = refl

-- Values of a block see only the file above. Paths see the block.
block_scope : commands (codes "x = 1" ++ lf ++ codes "rule r" ++ lf ++ codes "  command = $y $out $in_newline" ++ lf ++ codes "build $x$y: r $x b" ++ lf ++ codes "  x = 2" ++ lf ++ codes "  y = <$x>" ++ lf)
    ≡ Ok (codes "<1> '2<1>' 2" ++ lf ++ codes "b" ++ lf)
block_scope = refl

-- `in` is special only in rule variables.
in_of_file : commands (codes "in = f" ++ lf ++ codes "x = $in" ++ lf ++ codes "rule r" ++ lf ++ codes "  command = $x $in" ++ lf ++ codes "build $in: r a" ++ lf ++ codes "  in = b")
    ≡ Ok (codes "f a" ++ lf)
in_of_file = refl

-- Paths are quoted in a command and a description, including inside the variables that these refer to, and not in other
-- variables.
quoting : manifest (codes "rule r" ++ lf ++ codes "  command = c $rspfile_content" ++ lf ++ codes "  description = d $in" ++ lf ++ codes "  depfile = $in.d" ++ lf ++ codes "  deps = gcc" ++ lf ++ codes "  rspfile_content = $out" ++ lf ++ codes "build a$ b/./c | d: r e$ f | .//g || h")
    ≡ Ok (record {
      edges = record {
        paths = record {
          outputs = codes "a b/c" ∷ [];
          implicit_outputs = codes "d" ∷ [];
          inputs = codes "e f" ∷ [];
          implicit_inputs = codes "g" ∷ [];
          order_only_inputs = codes "h" ∷ [];
        };
        command = codes "c 'a b/c'";
        description = codes "d 'e f'";
        depfile = codes "e f.d";
        deps = true;
        restat = false;
        generator = false;
        phony = false;
        pool = [];
      } ∷ [];
      pools = record { name = codes "console"; depth = 1 } ∷ [];
      defaults = [];
    })
quoting = refl

phony : commands (codes "build a: phony b" ++ lf ++ codes "  command = x") ≡ Ok []
phony = refl

unknown_pool : commands (codes "pool p" ++ lf ++ codes "  depth = 4" ++ lf ++ codes "rule r" ++ lf ++ codes "  command = true" ++ lf ++ codes "  pool = q" ++ lf ++ codes "build a: r") ≡ Err (Refused name 54 UnknownPool)
unknown_pool = refl

-- A pool may be declared below.
pool_below : commands (codes "rule r" ++ lf ++ codes "  command = $pool" ++ lf ++ codes "  pool = q" ++ lf ++ codes "build a: r" ++ lf ++ codes "pool q" ++ lf ++ codes "  depth = 0") ≡ Ok (codes "q" ++ lf)
pool_below = refl

pool_twice : commands (codes "pool p" ++ lf ++ codes " depth = 1" ++ lf ++ codes "pool p" ++ lf ++ codes " depth = x") ≡ Err (Refused name 18 DuplicatePool)
pool_twice = refl

console_declared : commands (codes "pool console" ++ lf ++ codes " depth = 1") ≡ Err (Refused name 0 DuplicatePool)
console_declared = refl

greatest_depth : manifest (codes "pool p" ++ lf ++ codes " depth = 1000000") ≡ Ok (record { edges = []; pools = record { name = codes "console"; depth = 1 } ∷ record { name = codes "p"; depth = 1000000 } ∷ []; defaults = [] })
greatest_depth = refl

depth_too_great : commands (codes "pool p" ++ lf ++ codes " depth = 1000001") ≡ Err (Refused name 0 BadDepth)
depth_too_great = refl

eight_digits : commands (codes "pool p" ++ lf ++ codes " depth = 00000001") ≡ Err (Refused name 0 BadDepth)
eight_digits = refl

blank_behind_depth : commands (codes "pool p" ++ lf ++ codes " depth = 1 ") ≡ Err (Refused name 0 BadDepth)
blank_behind_depth = refl

-- `dyndep` is set by only one block.
one_dyndep : commands (codes "rule r" ++ lf ++ codes "  command = true" ++ lf ++ codes "  dyndep = $dd" ++ lf ++ codes "build a: r" ++ lf ++ codes "build b: r" ++ lf ++ codes "  dd = x") ≡ Err (Refused name 50 Dyndep)
one_dyndep = refl

no_dyndep : commands (codes "rule r" ++ lf ++ codes "  command = true" ++ lf ++ codes "  dyndep = $dd" ++ lf ++ codes "build a: r" ++ lf ++ codes "build b: r") ≡ Ok (codes "true" ++ lf ++ codes "true" ++ lf)
no_dyndep = refl

phony_with_dyndep : commands (codes "dyndep = x" ++ lf ++ codes "build a: phony") ≡ Err (Refused name 11 Dyndep)
phony_with_dyndep = refl

response_file : commands (rule_r ++ codes "build a: r" ++ lf ++ codes " rspfile = $out.rsp") ≡ Err (Refused name 24 Rspfile)
response_file = refl

other_deps : commands (rule_r ++ codes "build a: r" ++ lf ++ codes " deps = msvc") ≡ Err (Refused name 24 DepsKind)
other_deps = refl

gcc_deps : commands (rule_r ++ codes "build a: r" ++ lf ++ codes " deps = gcc") ≡ Ok (codes "true" ++ lf)
gcc_deps = refl

-- The cause with the least number comes first: a pool before a cycle, a cycle before an empty path, and that before a
-- response file.
least_number : commands (codes "rule r" ++ lf ++ codes "  command = $command" ++ lf ++ codes "build a: r $none" ++ lf ++ codes " pool = q" ++ lf ++ codes " rspfile = x") ≡ Err (Refused name 28 UnknownPool)
least_number = refl

cycle_first : commands (codes "rule r" ++ lf ++ codes "  command = true" ++ lf ++ codes "  restat = $restat" ++ lf ++ codes "build a: r $none" ++ lf ++ codes " rspfile = x") ≡ Err (Refused name 43 RuleCycle)
cycle_first = refl

empty_first : commands (rule_r ++ codes "build a: r || $none" ++ lf ++ codes " rspfile = x") ≡ Err (Refused name 24 EmptyPath)
empty_first = refl

-- Defaults count the build lines above them.
defaults : manifest (codes "default x/../a" ++ lf ++ codes "build a: phony" ++ lf ++ codes "default a b")
    ≡ Ok (record {
      edges = record {
        paths = record {
          outputs = codes "a" ∷ [];
          implicit_outputs = [];
          inputs = [];
          implicit_inputs = [];
          order_only_inputs = [];
        };
        command = [];
        description = [];
        depfile = [];
        deps = false;
        restat = false;
        generator = false;
        phony = true;
        pool = [];
      } ∷ [];
      pools = record { name = codes "console"; depth = 1 } ∷ [];
      defaults = record { path = codes "a"; edges_above = 0 } ∷ record { path = codes "a"; edges_above = 1 } ∷ record { path = codes "b"; edges_above = 1 } ∷ [];
    })
defaults = refl

empty_default : commands (codes "default $none") ≡ Err (Refused name 0 EmptyPath)
empty_default = refl

-- A file that another one includes.
abbrev front : List ℕ
front = codes "rule e" ++ lf ++ codes "  command = echo $x" ++ lf ++ codes "x = 1" ++ lf

abbrev child : List ℕ
child = codes "x = 2" ++ lf ++ codes "build c: e"

abbrev included : List ℕ → List ℕ → Result (List ℕ) ScopeFault
included word scopes =
    shown (manifest_of (tree_statements name (0 ∷ []) (statements_of (front ++ word ++ codes " c.ninja")) ++ tree_statements (codes "c.ninja") scopes (statements_of child) ++ tree_statements name (0 ∷ []) (statements_of (codes "build p: e"))))

-- A subninja file opens a scope. An included one continues in the scope of its statement.
by_subninja : included (codes "subninja") (3 ∷ 0 ∷ []) ≡ Ok (codes "echo 2" ++ lf ++ codes "echo 1" ++ lf)
by_subninja = refl

by_include : included (codes "include") (0 ∷ []) ≡ Ok (codes "echo 2" ++ lf ++ codes "echo 2" ++ lf)
by_include = refl

-- A subninja file may declare a rule of its parent again. An included one may not.
rule_anew : shown (manifest_of (tree_statements name (0 ∷ []) (statements_of rule_r) ++ tree_statements (codes "c") (1 ∷ 0 ∷ []) (statements_of (codes "rule r" ++ lf ++ codes "  command = false" ++ lf ++ codes "build c: r")) ++ tree_statements name (0 ∷ []) (statements_of (codes "build p: r"))))
    ≡ Ok (codes "false" ++ lf ++ codes "true" ++ lf)
rule_anew = refl

rule_again : shown (manifest_of (tree_statements name (0 ∷ []) (statements_of rule_r) ++ tree_statements (codes "c") (0 ∷ []) (statements_of (codes "x = 1" ++ lf ++ rule_r)))) ≡ Err (Refused (codes "c") 6 DuplicateRule)
rule_again = refl

-- A source with two files.
abbrev gives : List ℕ → Option (List ℕ) → Type 0
gives path bytes = ((path ≡ name) × (bytes ≡ Some (codes "subninja c"))) ⊎ ((path ≡ codes "c") × (bytes ≡ Some (codes "x = 1")))

-- Its tree.
two_files : LoadsFirst gives (λ path. ⊥) name (Ok (tree_statements (codes "c") (1 ∷ 0 ∷ []) (statements_of (codes "x = 1"))))
two_files =
    let back = tree_statements (codes "c") (1 ∷ 0 ∷ []) (statements_of (codes "x = 1")) in
    is_read 63 name (0 ∷ []) [] (codes "subninja c") _ (Ok back) (inl (refl, refl)) refl
    (includes_file 62 name (0 ∷ []) [] _ [] (codes "c") back (Ok back) refl refl
    (is_read 62 (codes "c") (1 ∷ 0 ∷ []) [] (codes "x = 1") _ (Ok back) (inr (refl, refl)) refl (is_added 62 (codes "c") (1 ∷ 0 ∷ []) [] _ [] (Ok back) refl refl (ends 62 (codes "c") (1 ∷ 0 ∷ []) back)))
    (ends 63 name (0 ∷ []) back))

-- A file opens a scope that differs from those of the statements above and of the statement that includes it.
fresh_scopes : fresh_scope (tree_statements name (0 ∷ []) (statements_of child) ++ tree_statements (codes "c") (1 ∷ 0 ∷ []) (statements_of child)) (0 ∷ []) ≡ 2
fresh_scopes = refl

fresh_inside : fresh_scope [] (2 ∷ 0 ∷ []) ≡ 3
fresh_inside = refl

-- At depth 64 nothing is included, whatever the path.
too_deep : MayLoad gives (λ path. ⊥) 0 (whole_file name (0 ∷ [])) [] (Err (Refused name 0 IncludeDepth))
too_deep = is_read 0 name (0 ∷ []) [] (codes "subninja c") _ _ (inl (refl, refl)) refl (is_refused 0 name (0 ∷ []) [] _ [] IncludeDepth refl)

missing_file : LoadsFirst gives (λ path. path ≡ codes "d") (codes "d") (Err (SourceMissing (codes "d")))
missing_file = is_missing 63 (codes "d") (0 ∷ []) [] refl

-- === Rules compiled for a file ===

abbrev lent : List ℕ → Bor (List ℕ)
lent bytes = record { ref_ptr = (0, 0); now = bytes }

-- An edge with two inputs, one of them with a space.
abbrev edge_in : Bindings Text → EdgeEnvironment
edge_in block = record { inputs = codes "a b" ∷ codes "c" ∷ []; outputs = codes "o" ∷ []; block = block; rule = []; file = λ name. [] }

abbrev compile_parts : List VariablePart
compile_parts = part.Near (lent (codes "cc")) (lent (codes "gcc")) ∷ part.Literal (lent (codes " -o ")) ∷ part.Outputs ∷ part.Literal (lent (codes " ")) ∷ part.Inputs ∷ []

parts_in_turn : text_of_parts quoted (edge_in []) compile_parts ≡ codes "gcc -o o 'a b' c"
parts_in_turn = refl

-- The block's bindings replace the file's, and paths are unchanged.
parts_by_block : text_of_parts plain (edge_in ((codes "cc", codes "clang") ∷ [])) compile_parts ≡ codes "clang -o o a b c"
parts_by_block = refl

parts_by_line : text_of_parts quoted (edge_in []) (part.InputsByLine ∷ []) ≡ codes "'a b'" ++ lf ++ codes "c"
parts_by_line = refl

-- === Additions ===

abbrev edge_of_paths : Paths → Edge
edge_of_paths paths = record { paths = paths; command = codes "c"; description = []; depfile = []; deps = false; restat = true; generator = false; phony = false; pool = [] }

-- build a | b: r d | e || f
abbrev plain_edge : Edge
plain_edge = edge_of_paths (record { outputs = codes "a" ∷ []; implicit_outputs = codes "b" ∷ []; inputs = codes "d" ∷ []; implicit_inputs = codes "e" ∷ []; order_only_inputs = codes "f" ∷ [] })

abbrev order_only_addition : ℕ → Text → Addition
order_only_addition n path = record { edge = n; outputs = []; inputs = []; order_only = path ∷ [] }

-- build a | b o: r d | e i || f g
edge_with_one_path_more_in_each_list : added (record { edge = 0; outputs = codes "o" ∷ []; inputs = codes "i" ∷ []; order_only = codes "g" ∷ [] }) plain_edge
    ≡ edge_of_paths (record { outputs = codes "a" ∷ []; implicit_outputs = codes "b" ∷ codes "o" ∷ []; inputs = codes "d" ∷ []; implicit_inputs = codes "e" ∷ codes "i" ∷ []; order_only_inputs = codes "f" ∷ codes "g" ∷ [] })
edge_with_one_path_more_in_each_list = refl

-- Two additions to the second edge, and one without an edge.
additions_to_the_second_edge : extended (order_only_addition 1 (codes "g") ∷ order_only_addition 1 (codes "h") ∷ order_only_addition 2 (codes "i") ∷ []) (record { edges = plain_edge ∷ plain_edge ∷ []; pools = []; defaults = [] })
    ≡ record {
      edges = plain_edge
          ∷ edge_of_paths (record { outputs = codes "a" ∷ []; implicit_outputs = codes "b" ∷ []; inputs = codes "d" ∷ []; implicit_inputs = codes "e" ∷ []; order_only_inputs = codes "f" ∷ codes "g" ∷ codes "h" ∷ [] })
          ∷ [];
      pools = [];
      defaults = [];
    }
additions_to_the_second_edge = refl
