-- The behavior of `commands FILE`.
use Rattle.std.specs.Prelude.{◌≡◌, ◌⊎◌, ℕ, List, Option, None, Result, Ok, Err, true, false}
use Rattle.plan_text.specs.Sinks.{Writes}
use Rattle.plan_scope.specs.Trees.{TreeStatement}
use Rattle.plan_scope.specs.Scopes.{Text}
use Rattle.plan_scope.specs.Loading.{IsMissing, LoadsFirst}
use Rattle.plan_scope.specs.Edges.{manifest_of, commands_of}
use Rattle.plan_scope.specs.declared.manifest.Manifest.{Manifest}
use Rattle.plan_scope.specs.declared.fault.ScopeFault.{ScopeFault}
use Rattle.plan_scope.specs.declared.fault.ScopeFault.TheVariants.{LoadMemory, Memory}
use Rattle.plan_graph.specs.Cycles.{AreRanks}
use Rattle.plan_graph.specs.Graph.{Refuses, all_waits, first_fault}
use Rattle.plan_graph.specs.declared.fault.GraphFault.{GraphFault}
use Rattle.plan_printing.specs.declared.fault.PlanFault.{PlanFault}
use Rattle.plan_printing.specs.Faults.{printed_fault, printed_graph_fault, graph_memory, no_memory, output_fault}

-- The manifest has a graph: it has no fault, and no edge waits for itself, directly or through other edges.
abbrev pub HasGraph : Manifest → Type 0
HasGraph m = (first_fault m ≡ None) × (ranks : List ℕ) × AreRanks (all_waits m.edges) ranks

-- The results that loading from a path may have: all lines, or a fault.
abbrev pub MayLoad : Type 1
MayLoad = Text → Result (List TreeStatement) ScopeFault → Type 0

-- The manifest that may be loaded from the path has a graph. No write failed. The sink took the commands of the
-- manifest in order, each with a newline after it.
pub record WritesAll (loads : MayLoad) (path : Text) (old new : ℕ × Option (List ℕ)) : Type 0 where
  pub lines : List TreeStatement
  pub manifest : Manifest
  pub loaded : loads path (Ok lines)
  pub means : manifest_of lines ≡ Ok manifest
  pub graph : HasGraph manifest
  pub written : Writes true old new (commands_of manifest)

-- Lines that may be loaded from the path are refused for this cause.
pub record RefusesLines (loads : MayLoad) (path : Text) (fault : PlanFault) : Type 0 where
  pub lines : List TreeStatement
  pub cause : ScopeFault
  pub loaded : loads path (Ok lines)
  pub means : manifest_of lines ≡ Err cause
  pub says : fault ≡ printed_fault cause

-- Loading from the path may be refused for this cause.
pub record RefusesToLoad (loads : MayLoad) (path : Text) (fault : PlanFault) : Type 0 where
  pub cause : ScopeFault
  pub loaded : loads path (Err cause)
  pub says : fault ≡ printed_fault cause

-- The manifest that may be loaded from the path has no graph for this cause.
pub record RefusesGraph (loads : MayLoad) (path : Text) (fault : PlanFault) : Type 0 where
  pub lines : List TreeStatement
  pub manifest : Manifest
  pub cause : GraphFault
  pub loaded : loads path (Ok lines)
  pub means : manifest_of lines ≡ Ok manifest
  pub refused : Refuses manifest cause
  pub says : fault ≡ printed_graph_fault manifest cause

-- The loader, the evaluator, the graph or the program ran out of memory.
abbrev pub LacksMemory : PlanFault → Type 0
LacksMemory fault = (fault ≡ printed_fault LoadMemory) ⊎ ((fault ≡ printed_fault Memory) ⊎ ((fault ≡ graph_memory) ⊎ (fault ≡ no_memory)))

-- The manifest has no graph, and the cause is printed. Or memory ran out.
abbrev pub LacksGraph : Manifest → PlanFault → Type 0
LacksGraph manifest fault = ((cause : GraphFault) × Refuses manifest cause × (fault ≡ printed_graph_fault manifest cause)) ⊎ (fault ≡ no_memory)

-- The reasons why no commands are printed.
abbrev pub IsRefused : MayLoad → Text → PlanFault → Type 0
IsRefused loads path fault = RefusesLines loads path fault ⊎ (RefusesToLoad loads path fault ⊎ (RefusesGraph loads path fault ⊎ LacksMemory fault))

-- The manifest is the meaning of lines that may be loaded from the path.
abbrev pub IsMeant : MayLoad → Text → Manifest → Type 0
IsMeant loads path manifest = (lines : List TreeStatement) × loads path (Ok lines) × (manifest_of lines ≡ Ok manifest)

-- The manifest that may be loaded from the path has a graph. A write failed after a prefix of its commands was written.
pub record FailsToWrite (loads : MayLoad) (path : Text) (old new : ℕ × Option (List ℕ)) (fault : PlanFault) : Type 0 where
  pub lines : List TreeStatement
  pub manifest : Manifest
  pub loaded : loads path (Ok lines)
  pub means : manifest_of lines ≡ Ok manifest
  pub graph : HasGraph manifest
  pub failed : Writes false old new (commands_of manifest)
  pub says : fault ≡ output_fault

-- The results that loading may have, from the contents that a source may give and the reads that may fail. `before` and
-- `now` are the numbers of failed reads before and after loading.
abbrev pub loading_by : (gives : Text → Option (List ℕ) → Type 0) → (fails : Text → Type 0) → (before now : ℕ) → MayLoad
loading_by gives fails before now = LoadsFirst gives (IsMissing gives fails before now)
