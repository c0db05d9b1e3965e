-- The texts that the programs print for faults, and the faults of manifests, graphs and files.
use Rattle.std.specs.Prelude.{ℕ, ◌==◌, List, [], ◌∷◌, ◌++◌, Option, Some, None, if◌then◌else◌, codes, slice_get}
use Rattle.std.specs.Fmt.{decimal}
use Rattle.std.specs.List.{join_by}
use Rattle.plan_text.specs.Bytes.{line_feed, space, colon}
use Rattle.plan_parse.specs.Faults as statements
use Rattle.plan_scope.specs.Faults as scopes
use Rattle.plan_scope.specs.declared.fault.ScopeFault.{ScopeFault}
use Rattle.plan_scope.specs.declared.fault.ScopeFault.TheVariants.{SourceMissing, Parse, Refused, LoadMemory, Memory}
use Rattle.plan_scope.specs.Edge.{Edge}
use Rattle.plan_scope.specs.declared.manifest.Manifest.{Manifest}
use Rattle.plan_graph.specs.Faults as graphs
use Rattle.plan_graph.specs.Graph.{outputs_of}
use Rattle.plan_graph.specs.declared.fault.GraphFault.{GraphFault}
use Rattle.plan_graph.specs.declared.fault.GraphFault.TheVariants as graph
use Rattle.plan_printing.specs.declared.fault.PlanFault.{PlanFault}

-- ` PATH:OFFSET`
abbrev pub place : List ℕ → ℕ → List ℕ
place path offset = space ∷ path ++ colon ∷ decimal offset

abbrev pub place_at : List ℕ → Option ℕ → List ℕ
place_at path None = []
place_at path (Some offset) = place path offset

-- The text that is printed after the name of a manifest's fault.
abbrev pub rest_of : ScopeFault → List ℕ
rest_of (SourceMissing path) = place path 0
rest_of (Parse path fault) = place_at path (statements.offset_of fault)
rest_of (Refused path offset cause) = place path offset
rest_of LoadMemory = []
rest_of Memory = []

-- A fault of a manifest, as the program prints it.
abbrev pub printed_fault : ScopeFault → PlanFault
printed_fault fault = record { number = scopes.number_of fault; rest = rest_of fault }

abbrev pub first_path : List (List ℕ) → List ℕ
first_path [] = []
first_path (path ∷ more) = path

-- The name of an edge: its first explicit output, or its first implicit output if it has no explicit ones.
abbrev pub name_of_edge : Edge → List ℕ
name_of_edge e = first_path (outputs_of e)

abbrev pub edge_name_if_any : Option Edge → List ℕ
edge_name_if_any None = []
edge_name_if_any (Some e) = name_of_edge e

-- The name of the edge with a number, or an empty text if there is no such edge.
abbrev pub edge_name_at : List Edge → ℕ → List ℕ
edge_name_at edges n = edge_name_if_any (slice_get edges n)

-- The text that is printed after the name of a graph's fault: a space, and a path or the names of the edges of a cycle.
abbrev pub rest_of_graph : List Edge → GraphFault → List ℕ
rest_of_graph edges (graph.TwoProducers path) = space ∷ path
rest_of_graph edges (graph.Cycle es) = space ∷ join_by (edge_name_at edges) (codes " -> ") es
rest_of_graph edges (graph.UnknownDefault path) = space ∷ path
rest_of_graph edges graph.TooManyEdges = []
rest_of_graph edges graph.Memory = []

-- The reason why a manifest has no graph, as the program prints it.
abbrev pub printed_graph_fault : Manifest → GraphFault → PlanFault
printed_graph_fault manifest fault = record { number = graphs.number_of fault; rest = rest_of_graph manifest.edges fault }

-- Memory ran out while a graph was built.
abbrev pub graph_memory : PlanFault
graph_memory = record { number = 54; rest = [] }

-- A file can't be read or written.
abbrev pub file_fault : List ℕ → PlanFault
file_fault path = record { number = 133; rest = space ∷ path }

-- No edge makes a target.
abbrev pub unknown_target : List ℕ → PlanFault
unknown_target name = record { number = 132; rest = space ∷ name }

-- ` 'PATH', needed by 'OUTPUT', missing and no known rule to make it`
abbrev pub missing_text : List ℕ → List ℕ → List ℕ
missing_text path output = codes " '" ++ path ++ codes "', needed by '" ++ output ++ codes "', missing and no known rule to make it"

-- A file that no edge makes is missing, and an edge with this first output needs it.
abbrev pub no_source : ℕ → List ℕ → List ℕ → PlanFault
no_source number path output = record { number = number; rest = missing_text path output }

-- The program itself ran out of memory.
abbrev pub no_memory : PlanFault
no_memory = record { number = 131; rest = [] }

-- A write to standard output failed.
abbrev pub output_fault : PlanFault
output_fault = record { number = 133; rest = codes " -" }

-- The names of faults of reading a manifest or an image, by their numbers. `late_names` has the names of the other
-- faults. A number in neither list means that memory ran out.
abbrev pub names : List (ℕ × List ℕ)
names =
    (1, codes "TabBlank")
    ∷ (2, codes "NulByte")
    ∷ (3, codes "BadEscape")
    ∷ (4, codes "SourceTooLong")
    ∷ (10, codes "ExpectedName")
    ∷ (11, codes "ExpectedEquals")
    ∷ (12, codes "ExpectedColon")
    ∷ (13, codes "ExpectedPath")
    ∷ (14, codes "UnexpectedIndent")
    ∷ (15, codes "UnknownRuleVariable")
    ∷ (16, codes "NoCommand")
    ∷ (17, codes "BadPool")
    ∷ (18, codes "Validation")
    ∷ (19, codes "ExpectedLineEnd")
    ∷ (20, codes "SourceMissing")
    ∷ (21, codes "IncludeDepth")
    ∷ (30, codes "DuplicateRule")
    ∷ (31, codes "UnknownRule")
    ∷ (32, codes "DuplicatePool")
    ∷ (33, codes "UnknownPool")
    ∷ (34, codes "RuleCycle")
    ∷ (35, codes "EmptyPath")
    ∷ (36, codes "Dyndep")
    ∷ (37, codes "Rspfile")
    ∷ (38, codes "DepsKind")
    ∷ (39, codes "PathTooLong")
    ∷ (40, codes "TextTooLong")
    ∷ (42, codes "BadDepth")
    ∷ (50, codes "TwoProducers")
    ∷ (51, codes "Cycle")
    ∷ (52, codes "UnknownDefault")
    ∷ (53, codes "TooManyEdges")
    ∷ (60, codes "BadMagic")
    ∷ (61, codes "BadVersion")
    ∷ (62, codes "Truncated")
    ∷ (63, codes "Trailing")
    ∷ (64, codes "BadTag")
    ∷ (65, codes "Limit")
    ∷ (67, codes "BadOrder")
    ∷ (68, codes "BadBody")
    ∷ (70, codes "EmptyStack")
    ∷ (71, codes "WrongKind")
    ∷ (72, codes "BadSlot")
    ∷ (73, codes "UnsetSlot")
    ∷ (74, codes "BadJump")
    ∷ (75, codes "ShapesDiffer")
    ∷ (76, codes "NotHolding")
    ∷ (77, codes "Holding")
    ∷ (78, codes "TooDeep")
    ∷ (79, codes "BadWait")
    ∷ (80, codes "BadFile")
    ∷ (81, codes "BadText")
    ∷ (82, codes "BadPool")
    ∷ (83, codes "FallsOff")
    ∷ (84, codes "DeadCode")
    ∷ (85, codes "PathsInSlot")
    ∷ (87, codes "ValuesLeft")
    ∷ []

abbrev pub late_names : List (ℕ × List ℕ)
late_names =
    (100, codes "Limit")
    ∷ (110, codes "NotEnabled")
    ∷ (112, codes "BadTarget")
    ∷ (120, codes "NoMemory")
    ∷ (121, codes "NoLane")
    ∷ (122, codes "OtherBoard")
    ∷ (130, codes "BadTrace")
    ∷ (132, codes "UnknownTarget")
    ∷ (133, codes "FileFault")
    ∷ (134, codes "TracesDiffer")
    ∷ (135, codes "NoSource")
    ∷ (136, codes "NoSourceOfManifest")
    ∷ []

-- The name with a number, or another name if the list doesn't have the number.
abbrev pub name_among : List ℕ → List (ℕ × List ℕ) → ℕ → List ℕ
name_among other [] n = other
name_among other (x ∷ more) n = if n == x.0 then x.1 else name_among other more n

abbrev pub late_name_of : ℕ → List ℕ
late_name_of n = name_among (codes "Memory") late_names n

abbrev pub name_of : ℕ → List ℕ
name_of n = name_among (late_name_of n) names n

-- The line that the program prints for a fault.
abbrev pub line_of : PlanFault → List ℕ
line_of fault = codes "plan: " ++ decimal fault.number ++ space ∷ name_of fault.number ++ fault.rest ++ line_feed ∷ []
