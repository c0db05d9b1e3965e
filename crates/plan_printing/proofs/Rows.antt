-- Worked examples: printed faults of graphs, and of a missing source.
use Rattle.std.proofs.Common.{◌≡◌, ℕ, List, [], ◌∷◌, refl}
use Rattle.std.specs.Prelude.{codes, false, map}
use Rattle.plan_scope.specs.Edge.{Edge}
use Rattle.plan_scope.specs.declared.manifest.Manifest.{Manifest}
use Rattle.plan_graph.specs.declared.fault.GraphFault.{GraphFault}
use Rattle.plan_graph.specs.declared.fault.GraphFault.TheVariants.{TwoProducers, Cycle, UnknownDefault, TooManyEdges, Memory}
use Rattle.plan_printing.specs.declared.fault.PlanFault.{PlanFault}
use Rattle.plan_printing.specs.Faults.{graph_memory, name_of, no_source, printed_graph_fault}

abbrev edge : List (List ℕ) → List (List ℕ) → Edge
edge outputs implicit_outputs = record {
  paths = record {
    outputs = outputs;
    implicit_outputs = implicit_outputs;
    inputs = [];
    implicit_inputs = [];
    order_only_inputs = [];
  };
  command = codes "true";
  description = [];
  depfile = [];
  deps = false;
  restat = false;
  generator = false;
  phony = false;
  pool = [];
}

-- `build a d: r`, `build | b e: r`, `build c | f: r`
abbrev three : Manifest
three = record {
  edges = edge (codes "a" ∷ codes "d" ∷ []) [] ∷ edge [] (codes "b" ∷ codes "e" ∷ []) ∷ edge (codes "c" ∷ []) (codes "f" ∷ []) ∷ [];
  pools = [];
  defaults = [];
}

-- A fault of these edges, as it is printed.
abbrev said : GraphFault → PlanFault
said fault = printed_graph_fault three fault

abbrev printed : ℕ → List ℕ → PlanFault
printed number rest = record { number = number; rest = rest }

cycle_of_three : said (Cycle (0 ∷ 2 ∷ 1 ∷ [])) ≡ printed 51 (codes " a -> c -> b")
cycle_of_three = refl

cycle_of_one : said (Cycle (1 ∷ [])) ≡ printed 51 (codes " b")
cycle_of_one = refl

two_producers : said (TwoProducers (codes "x y")) ≡ printed 50 (codes " x y")
two_producers = refl

unknown_default : said (UnknownDefault (codes "x")) ≡ printed 52 (codes " x")
unknown_default = refl

too_many_edges : said TooManyEdges ≡ printed 53 []
too_many_edges = refl

memory : said Memory ≡ graph_memory
memory = refl

names : map name_of (50 ∷ 51 ∷ 52 ∷ 53 ∷ 54 ∷ []) ≡ codes "TwoProducers" ∷ codes "Cycle" ∷ codes "UnknownDefault" ∷ codes "TooManyEdges" ∷ codes "Memory" ∷ []
names = refl

missing_source : no_source 135 (codes "x.c") (codes "x.o") ≡ printed 135 (codes " 'x.c', needed by 'x.o', missing and no known rule to make it")
missing_source = refl
