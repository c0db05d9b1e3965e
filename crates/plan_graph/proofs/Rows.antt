-- Worked examples of graphs.
use Rattle.std.proofs.Common.{◌≡◌, ℕ, List, [], ◌∷◌, ◌<◌, None, Some, arith, refl}
use Rattle.std.specs.Prelude.{Bool, Contains, codes, false, length, slice_index_or, true}
use Rattle.plan_scope.specs.declared.manifest.DefaultTarget.{DefaultTarget}
use Rattle.plan_scope.specs.Edge.{Edge}
use Rattle.plan_scope.specs.declared.manifest.Manifest.{Manifest}
use Rattle.plan_graph.specs.declared.fault.GraphFault.TheVariants.{TwoProducers, UnknownDefault}
use Rattle.plan_graph.specs.Files.{Path}
use Rattle.plan_graph.specs.Cycles.{AreRanks, IsCycle, IsLeastFirst}
use Rattle.plan_graph.specs.Graph.{all_waits, default_edges, files_of, first_fault, producer_of}

abbrev a : Path
a = codes "a"

abbrev b : Path
b = codes "b"

abbrev c : Path
c = codes "c"

abbrev d : Path
d = codes "d"

abbrev line : Bool → List Path → List Path → List Path → List Path → List Path → Edge
line phony outputs implicit_outputs inputs implicit_inputs order_only_inputs = record {
  paths = record {
    outputs = outputs;
    implicit_outputs = implicit_outputs;
    inputs = inputs;
    implicit_inputs = implicit_inputs;
    order_only_inputs = order_only_inputs;
  };
  command = codes "true";
  description = [];
  depfile = [];
  deps = false;
  restat = false;
  generator = false;
  phony = phony;
  pool = [];
}

-- `build outputs: r inputs`
abbrev r : List Path → List Path → Edge
r outputs inputs = line false outputs [] inputs [] []

-- `build outputs: phony inputs`
abbrev phony : List Path → List Path → Edge
phony outputs inputs = line true outputs [] inputs [] []

abbrev at : ℕ → Path → DefaultTarget
at above path = record { path = path; edges_above = above }

abbrev manifest : List Edge → List DefaultTarget → Manifest
manifest edges defaults = record { edges = edges; pools = []; defaults = defaults }

-- build c: r a b / build a: r / build b: r a
abbrev three : List Edge
three = r (c ∷ []) (a ∷ b ∷ []) ∷ r (a ∷ []) [] ∷ r (b ∷ []) (a ∷ []) ∷ []

three_waits : all_waits three ≡ (1 ∷ 2 ∷ []) ∷ [] ∷ (1 ∷ []) ∷ []
three_waits = refl

three_files : files_of three ≡ c ∷ a ∷ b ∷ []
three_files = refl

three_ranks : AreRanks (all_waits three) (2 ∷ 0 ∷ 1 ∷ [])
three_ranks = refl

three_defaults : default_edges three [] ≡ 0 ∷ []
three_defaults = refl

three_sound : first_fault (manifest three []) ≡ None
three_sound = refl

-- build a: phony a
own_phony : all_waits (phony (a ∷ []) (a ∷ []) ∷ []) ≡ [] ∷ []
own_phony = refl

own_phony_is_last : default_edges (phony (a ∷ []) (a ∷ []) ∷ []) [] ≡ 0 ∷ []
own_phony_is_last = refl

-- an edge in a row of waits
waits : (row : List ℕ) (k : ℕ) (w : ℕ) → k < length row → slice_index_or row k w ≡ w → Contains row w
waits row k w h e = (k, h, e)

-- build a: r a
own_input : IsCycle (all_waits (r (a ∷ []) (a ∷ []) ∷ [])) (0 ∷ [])
own_input = (waits (0 ∷ []) 0 0 (omega arith) refl, tt)

-- build a: r c / build b: r a / build c: r b
abbrev ring : List Edge
ring = r (a ∷ []) (c ∷ []) ∷ r (b ∷ []) (a ∷ []) ∷ r (c ∷ []) (b ∷ []) ∷ []

ring_waits : all_waits ring ≡ (2 ∷ []) ∷ (0 ∷ []) ∷ (1 ∷ []) ∷ []
ring_waits = refl

ring_is_cycle : IsCycle (all_waits ring) (0 ∷ 2 ∷ 1 ∷ [])
ring_is_cycle = (waits (2 ∷ []) 0 2 (omega arith) refl, (waits (1 ∷ []) 0 1 (omega arith) refl, (waits (0 ∷ []) 0 0 (omega arith) refl, tt)))

ring_least_first : IsLeastFirst (0 ∷ 2 ∷ 1 ∷ [])
ring_least_first k other h = omega arith

ring_sound : first_fault (manifest ring []) ≡ None
ring_sound = refl

-- order-only inputs are waited for; an edge both of whose outputs are used is waited for once
order_only : all_waits (r (a ∷ b ∷ []) [] ∷ line false (c ∷ []) [] [] (b ∷ []) (a ∷ []) ∷ []) ≡ [] ∷ (0 ∷ []) ∷ []
order_only = refl

-- the outputs of a phony, explicit or implicit, are removed from its own inputs of any sort, and from no others
phony_inputs : all_waits (line true (a ∷ []) (b ∷ []) (b ∷ c ∷ []) (a ∷ []) (d ∷ a ∷ []) ∷ r (c ∷ []) [] ∷ r (d ∷ []) [] ∷ []) ≡ (1 ∷ 2 ∷ []) ∷ [] ∷ [] ∷ []
phony_inputs = refl

-- an edge is last because of a single output that is no input, explicit or implicit
one_output_last : default_edges (line false (a ∷ []) (b ∷ []) [] [] [] ∷ r (c ∷ []) (a ∷ []) ∷ r (d ∷ []) (c ∷ []) ∷ []) [] ≡ 0 ∷ 2 ∷ []
one_output_last = refl

-- `default` statements replace that, add up, and name an edge once
named_defaults : default_edges (line false (a ∷ []) (b ∷ []) [] [] [] ∷ r (c ∷ []) (a ∷ []) ∷ r (d ∷ []) (c ∷ []) ∷ []) (at 3 c ∷ at 3 b ∷ at 3 a ∷ []) ≡ 0 ∷ 1 ∷ []
named_defaults = refl

files_in_order : files_of (line false (c ∷ []) (a ∷ []) (b ∷ a ∷ []) [] (d ∷ []) ∷ r (b ∷ []) (d ∷ []) ∷ []) ≡ c ∷ a ∷ b ∷ d ∷ []
files_in_order = refl

producers : producer_of three a ≡ Some 1
producers = refl

no_producer : producer_of three d ≡ None
no_producer = refl

-- build a: r / build b a: r
two_producers : first_fault (manifest (r (a ∷ []) [] ∷ r (b ∷ a ∷ []) [] ∷ []) []) ≡ Some (TwoProducers a)
two_producers = refl

-- build a b | b a: r
twice_in_one_edge : first_fault (manifest (line false (a ∷ b ∷ []) (b ∷ a ∷ []) [] [] [] ∷ []) []) ≡ Some (TwoProducers b)
twice_in_one_edge = refl

-- default a / build a: r
default_above : first_fault (manifest (r (a ∷ []) [] ∷ []) (at 0 a ∷ [])) ≡ Some (UnknownDefault a)
default_above = refl

-- build a: r / default a / build b: r / default b
defaults_below : first_fault (manifest (r (a ∷ []) [] ∷ r (b ∷ []) [] ∷ []) (at 1 a ∷ at 2 b ∷ [])) ≡ None
defaults_below = refl

-- build a: r / default b / build a: r
default_first : first_fault (manifest (r (a ∷ []) [] ∷ r (a ∷ []) [] ∷ []) (at 1 b ∷ [])) ≡ Some (UnknownDefault b)
default_first = refl

-- build a: r / build a: r / default b
producers_first : first_fault (manifest (r (a ∷ []) [] ∷ r (a ∷ []) [] ∷ []) (at 2 b ∷ [])) ≡ Some (TwoProducers a)
producers_first = refl
