-- Worked examples: the definitions compute what docs/rules/tools.md says.
use Rattle.std.proofs.Common.{◌≡◌, List, ℕ, [], ◌∷◌, refl, Some, None, Bool, true, false, arith}
use Rattle.std.specs.Prelude.{codes}
use Rattle.plan_scope.specs.Edge.{Edge}
use Rattle.plan_scope.specs.declared.manifest.Manifest.{Manifest}
use Rattle.plan_graph.specs.declared.graph_data.Graph.{Graph}
use Rattle.plan_tools.specs.Cleaning.{dead_outputs, edges_of_paths, files_of_commands, files_of_paths, files_of_rules, is_cleaned, unless_empty}
use Rattle.plan_tools.specs.Commands.{command_in, line_of}
use Rattle.plan_tools.specs.CompilationDatabase.{comma_before, if_used, named_or_all}
use Rattle.plan_tools.specs.Inputs.{inputs_at}
use Rattle.plan_tools.specs.Json.{json_text}
use Rattle.plan_tools.specs.Listings.{of_first, rule_line}
use Rattle.plan_tools.specs.Need.{IsPathNeeded, input, target}
use Rattle.plan_tools.specs.Roots.{default_paths, root_paths}
use Rattle.plan_tools.specs.RuleTargets.{targets_of_rule}
use Rattle.plan_tools.specs.Suggestion.{edit_distance}
use Rattle.plan_tools.specs.Tree.{target_tree}

-- ---- listings

output_and_rule : rule_line (codes "a.o") (codes "cc") ≡ codes "a.o: cc\n"
output_and_rule = refl

first_two : of_first (λ n. n ∷ n ∷ []) 2 ≡ 0 ∷ 0 ∷ 1 ∷ 1 ∷ []
first_two = refl

-- ---- compilation databases

quotes : json_text (codes "a\"b\\c") ≡ codes "a\\\"b\\\\c"
quotes = refl

control_characters : json_text (10 ∷ 9 ∷ 31 ∷ []) ≡ codes "\\n\\t\\u001f"
control_characters = refl

bytes_above_ascii : json_text (195 ∷ 164 ∷ []) ≡ 195 ∷ 164 ∷ []
bytes_above_ascii = refl

rule_named_twice : named_or_all (codes "cc" ∷ codes "ld" ∷ codes "cc" ∷ []) (codes "cc") 3 ≡ 3 ∷ 3 ∷ []
rule_named_twice = refl

no_rule_named : named_or_all [] (codes "cc") 3 ≡ 3 ∷ []
no_rule_named = refl

without_inputs : if_used [] (3 ∷ []) ≡ []
without_inputs = refl

first_has_no_comma : comma_before 0 ≡ []
first_has_no_comma = refl

-- ---- commands and files

abbrev an_edge : Bool → Bool → Edge
an_edge phony generator = record {
  paths = record { outputs = codes "o" ∷ []; implicit_outputs = []; inputs = []; implicit_inputs = []; order_only_inputs = [] };
  command = codes "touch o";
  description = [];
  depfile = [];
  deps = false;
  restat = false;
  generator = generator;
  phony = phony;
  pool = [];
}

command_on_a_line : line_of (command_in (Some (an_edge false false))) ≡ codes "touch o\n"
command_on_a_line = refl

phony_has_no_line : line_of (command_in (Some (an_edge true false))) ≡ []
phony_has_no_line = refl

generator_stays : is_cleaned false (an_edge false true) ≡ false
generator_stays = refl

generator_goes_too : is_cleaned true (an_edge false true) ≡ true
generator_goes_too = refl

phony_stays : is_cleaned true (an_edge true false) ≡ false
phony_stays = refl

no_depfile : unless_empty [] ≡ []
no_depfile = refl

-- ---- graphs

-- a.o is made from a.c by cc, app from a.o by ld, and all, a phony that names itself too, from app
abbrev a_graph : Graph
a_graph = record {
  files = (codes "a.o", record { producer = Some 0; is_used = true })
      ∷ (codes "a.c", record { producer = None; is_used = true })
      ∷ (codes "app", record { producer = Some 1; is_used = true })
      ∷ (codes "all", record { producer = Some 2; is_used = false }) ∷ [];
  outputs = (0 ∷ []) ∷ (2 ∷ []) ∷ (3 ∷ []) ∷ [];
  inputs = (1 ∷ []) ∷ (0 ∷ []) ∷ (3 ∷ 2 ∷ []) ∷ [];
  waits = [] ∷ (0 ∷ []) ∷ (1 ∷ []) ∷ [];
  ranks = 0 ∷ 1 ∷ 2 ∷ [];
  defaults = 2 ∷ [];
}

abbrev some_rules : List (List ℕ)
some_rules = codes "cc" ∷ codes "ld" ∷ codes "phony" ∷ []

own_output_is_no_input : inputs_at a_graph 2 ≡ 2 ∷ []
own_output_is_no_input = refl

only_root : root_paths a_graph ≡ 3 ∷ []
only_root = refl

roots_by_default : default_paths a_graph [] ≡ 3 ∷ []
roots_by_default = refl

default_before_roots : default_paths a_graph (record { path = codes "a.o"; edges_above = 3 } ∷ []) ≡ 0 ∷ []
default_before_roots = refl

tree_of_one_level : target_tree a_graph some_rules (3 ∷ []) 1 ≡ codes "all: phony\n"
tree_of_one_level = refl

whole_tree : target_tree a_graph some_rules (3 ∷ []) 0 ≡ codes "all: phony\n  app: ld\n    a.o: cc\n      a.c\n"
whole_tree = refl

only_target_of_rule : targets_of_rule a_graph some_rules (codes "ld") ≡ codes "app" ∷ []
only_target_of_rule = refl

source_is_needed : IsPathNeeded a_graph (2 ∷ []) 1
source_is_needed = input (input (target (0, omega arith, refl)) refl (0, omega arith, refl)) refl (0, omega arith, refl)

unknown_path_is_dead : dead_outputs a_graph (codes "a.c" ∷ codes "b.o" ∷ codes "a.o" ∷ []) ≡ codes "b.o" ∷ []
unknown_path_is_dead = refl

abbrev a_manifest : Manifest
a_manifest = record { edges = an_edge false false ∷ an_edge false false ∷ an_edge true false ∷ []; pools = []; defaults = [] }

files_without_those_of_phonies : files_of_commands a_manifest a_graph false ≡ codes "a.o" ∷ codes "app" ∷ []
files_without_those_of_phonies = refl

files_of_one_rule : files_of_rules a_manifest a_graph some_rules (codes "ld" ∷ []) ≡ codes "app" ∷ []
files_of_one_rule = refl

files_that_count : files_of_paths a_manifest a_graph (true ∷ true ∷ false ∷ true ∷ []) ≡ codes "a.o" ∷ []
files_that_count = refl

edge_of_needed_output : edges_of_paths a_manifest a_graph (true ∷ true ∷ false ∷ true ∷ []) ≡ 0 ∷ []
edge_of_needed_output = refl

-- ---- suggestions

two_words : edit_distance (codes "kitten") (codes "sitting") ≡ 3
two_words = refl

swapped_bytes : edit_distance (codes "clena") (codes "clean") ≡ 2
swapped_bytes = refl
