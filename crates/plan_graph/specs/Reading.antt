-- The facts about paths that the code has after some build lines.
use Rattle.plan_text.specs.Outcome.{◌>>=◌}
use Rattle.std.specs.Prelude.{ℕ, ◌+◌, Bool, false, not, ◌||◌, ◌==◌, List, [], ◌∷◌, take, drop, Option, Some, None, Result, Ok, Err, nat_le, if◌then◌else◌, is_some}
use Rattle.plan_scope.specs.declared.manifest.DefaultTarget.{DefaultTarget}
use Rattle.plan_scope.specs.Edge.{Edge}
use Rattle.plan_scope.specs.declared.manifest.Manifest.{Manifest}
use Rattle.plan_graph.specs.declared.fault.GraphFault.{GraphFault}
use Rattle.plan_graph.specs.declared.fault.GraphFault.TheVariants.{TwoProducers, UnknownDefault, TooManyEdges}
use Rattle.plan_graph.specs.declared.files.File.{File}
use Rattle.plan_graph.specs.Files.{Path, Table, file_of, producer_in, numbers_past, with_file, with_paths}
use Rattle.plan_graph.specs.Graph.{targets_above, inputs_named, max_edges, outputs_of}

-- a file that this edge produces
abbrev pub with_producer : ℕ → File → File
with_producer number file = record { producer = Some number; is_used = file.is_used }

-- adds an output of this edge to a table, unless it has a producer
abbrev pub with_output : Table → ℕ → Path → File → Result Table GraphFault
with_output files number path file = if is_some file.producer then Err (TwoProducers path) else Ok (with_file files path (with_producer number file))

abbrev pub with_outputs : Table → ℕ → List Path → Result Table GraphFault
with_outputs files number [] = Ok files
with_outputs files number (o ∷ os) = with_output files number o (file_of o files) >>= λ more. with_outputs more number os

-- whether the producer of a path is the edge itself
abbrev pub is_own : Option ℕ → Option ℕ → Bool
is_own (Some producer) (Some own) = producer == own
is_own (Some producer) None = false
is_own None own = false

-- a file that is an input, unless it is the edge's own output
abbrev pub with_use : Option ℕ → File → File
with_use own file = record { producer = file.producer; is_used = file.is_used || not (is_own file.producer own) }

abbrev pub with_input : Option ℕ → Table → Path → Table
with_input own files path = with_file files path (with_use own (file_of path files))

abbrev pub with_inputs : Option ℕ → Table → List Path → Table
with_inputs own files [] = files
with_inputs own files (i ∷ is) = with_inputs own (with_input own files i) is

-- the edge itself, if its own outputs do not count as its inputs
abbrev pub own_of : ℕ → Edge → Option ℕ
own_of number e = if e.phony then Some number else None

abbrev pub within_limit : ℕ → Table → Result Table GraphFault
within_limit number files = if nat_le max_edges number then Err TooManyEdges else Ok files

-- adds an edge, which has this number, to a table
abbrev pub with_edge : Table → ℕ → Edge → Result Table GraphFault
with_edge files number e =
    with_outputs files number (outputs_of e) >>= λ outputs. within_limit number outputs >>= λ more. Ok (with_inputs (own_of number e) more (inputs_named e))

-- a table that has a producer of each of these targets
abbrev pub with_targets : Table → List DefaultTarget → Result Table GraphFault
with_targets files [] = Ok files
with_targets files (d ∷ ds) = if is_some (producer_in files d.path) then with_targets files ds else Err (UnknownDefault d.path)

-- adds the remaining edges and targets, the first edge of which has this number
abbrev pub with_edges : Table → ℕ → List DefaultTarget → List Edge → Result Table GraphFault
with_edges files number defaults [] = with_targets files defaults
with_edges files number defaults (e ∷ es) =
    let due = targets_above number defaults in
    with_targets files (take due defaults) >>= λ checked. with_edge checked number e >>= λ more. with_edges more (number + 1) (drop due defaults) es

abbrev pub table_of : Manifest → Result Table GraphFault
table_of m = with_edges [] 0 m.defaults m.edges

-- the numbers that the outputs of each edge are given, after the paths that were seen
abbrev pub outputs_past : List Path → List Edge → List (List ℕ)
outputs_past seen [] = []
outputs_past seen (e ∷ es) = numbers_past seen (outputs_of e) ∷ outputs_past (with_paths (with_paths seen (outputs_of e)) (inputs_named e)) es

-- the numbers that the inputs of each edge are given
abbrev pub inputs_past : List Path → List Edge → List (List ℕ)
inputs_past seen [] = []
inputs_past seen (e ∷ es) = numbers_past (with_paths seen (outputs_of e)) (inputs_named e) ∷ inputs_past (with_paths (with_paths seen (outputs_of e)) (inputs_named e)) es
