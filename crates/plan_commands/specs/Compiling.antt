-- The behavior of `compile FILE -o IMG`.
use Rattle.std.specs.Prelude.{◌≡◌, ◌⊎◌, ℕ, true, false, List, Ok}
use Rattle.plan_text.specs.Sinks.{Writes}
use Rattle.plan_scope.specs.Trees.{TreeStatement}
use Rattle.plan_scope.specs.Scopes.{Text}
use Rattle.plan_scope.specs.Edges.{manifest_of}
use Rattle.plan_scope.specs.Sound.{IsSound}
use Rattle.plan_scope.specs.declared.manifest.Manifest.{Manifest}
use Rattle.plan_graph.specs.Graph.{IsGraph}
use Rattle.plan_graph.specs.declared.graph_data.Graph.{Graph}
use Rattle.plan_image.specs.declared.image.Parts.{Parts}
use Rattle.plan_image.specs.Spelling.{HasSpelling, spelling}
use Rattle.plan_image.specs.declared.fault.ImageFault.TheVariants as image
use Rattle.plan_verify.specs.WellShaped.{IsWellShaped}
use Rattle.plan_compile.specs.declared.baseline.OutOfDateRule.{OutOfDateRule}
use Rattle.plan_compile.specs.declared.baseline.OutOfDateRule.TheVariants.{Specified}
use Rattle.plan_compile.specs.Images.{compiled}
use Rattle.plan_compile.specs.Refusals as compiles
use Rattle.plan_compile.specs.declared.fault.CompileFault.{CompileFault}
use Rattle.plan_printing.specs.declared.fault.PlanFault.{PlanFault}
use Rattle.plan_printing.specs.Faults.{file_fault}
use Rattle.plan_commands.specs.Faults.{printed_compile_fault, printed_image_fault}
use Rattle.plan_commands.specs.Commands.{MayLoad, IsRefused}
use Rattle.plan_commands.specs.Images.{SinkState}

-- The tables are the image of a sound manifest and its graph, by this out-of-date rule. The image is well shaped.
pub record IsImageOf (rule : OutOfDateRule) (manifest : Manifest) (p : Parts) : Type 0 where
  pub sound : IsSound manifest
  pub graph : Graph
  pub is_graph : IsGraph manifest graph
  pub same : p ≡ compiled rule manifest graph
  pub shaped : IsWellShaped p

-- The bytes spell the image of the manifest and its graph, by this out-of-date rule. The verifier accepts the image.
pub record SpellsImage (rule : OutOfDateRule) (manifest : Manifest) (bytes : List ℕ) : Type 0 where
  pub graph : Graph
  pub is_graph : IsGraph manifest graph
  pub spelled : HasSpelling (compiled rule manifest graph)
  pub shaped : IsWellShaped (compiled rule manifest graph)
  pub same : bytes ≡ spelling (compiled rule manifest graph)

-- The manifest has a graph, but no image for this cause: memory ran out, or a limit is exceeded, so that the image has
-- no spelling.
abbrev pub LacksImageOf : OutOfDateRule → Manifest → PlanFault → Type 0
LacksImageOf rule manifest fault =
    (graph : Graph) × (cause : CompileFault) × IsGraph manifest graph × compiles.IsRefused rule manifest graph cause × (fault ≡ printed_compile_fault cause)

-- The manifest that may be loaded from the path has no image for this cause.
pub record RefusesImage (rule : OutOfDateRule) (loads : MayLoad) (path : Text) (fault : PlanFault) : Type 0 where
  pub lines : List TreeStatement
  pub manifest : Manifest
  pub loaded : loads path (Ok lines)
  pub means : manifest_of lines ≡ Ok manifest
  pub refused : LacksImageOf rule manifest fault

-- The reasons why nothing is written.
abbrev pub IsNotCompiled : OutOfDateRule → MayLoad → Text → PlanFault → Type 0
IsNotCompiled rule loads path fault = IsRefused loads path fault ⊎ (RefusesImage rule loads path fault ⊎ (fault ≡ printed_image_fault image.Memory))

-- No write failed. The sink took the bytes of the image of the manifest that may be loaded from the path, by the
-- specified out-of-date rule.
pub record Compiles (loads : MayLoad) (path : Text) (old new : SinkState) : Type 0 where
  pub lines : List TreeStatement
  pub manifest : Manifest
  pub bytes : List ℕ
  pub loaded : loads path (Ok lines)
  pub means : manifest_of lines ≡ Ok manifest
  pub spells : SpellsImage Specified manifest bytes
  pub written : Writes true old new bytes

-- A write to the file with this name failed after a prefix of these bytes was written.
pub record FailsToCompile (loads : MayLoad) (path output : Text) (old new : SinkState) (fault : PlanFault) : Type 0 where
  pub lines : List TreeStatement
  pub manifest : Manifest
  pub bytes : List ℕ
  pub loaded : loads path (Ok lines)
  pub means : manifest_of lines ≡ Ok manifest
  pub spells : SpellsImage Specified manifest bytes
  pub failed : Writes false old new bytes
  pub says : fault ≡ file_fault output
