-- The numbers that a program prints for faults.
use Rattle.std.specs.Prelude.{ℕ}
use Rattle.plan_graph.specs.declared.fault.GraphFault.{GraphFault}
use Rattle.plan_graph.specs.declared.fault.GraphFault.TheVariants.{TwoProducers, Cycle, UnknownDefault, TooManyEdges, Memory}

abbrev pub number_of : GraphFault → ℕ
number_of (TwoProducers path) = 50
number_of (Cycle edges) = 51
number_of (UnknownDefault path) = 52
number_of TooManyEdges = 53
number_of Memory = 54
