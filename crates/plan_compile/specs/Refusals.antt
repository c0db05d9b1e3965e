-- The reasons why a manifest has no image.
use Rattle.std.specs.Prelude.{◌≡◌, ◌⊎◌, ◌<◌, ◌≤◌, Bool, true, List, length, nat_lt}
use Rattle.std.specs.List.{list_any}
use Rattle.plan_scope.specs.declared.manifest.Manifest.{Manifest}
use Rattle.plan_graph.specs.declared.graph_data.Graph.{Graph}
use Rattle.plan_graph.specs.Graph.{IsGraph}
use Rattle.plan_image.specs.declared.maxima.TheConstants.{MAX_BODY, MAX_FILES, MAX_SLOTS}
use Rattle.plan_image.specs.declared.body.Instr.{Instr}
use Rattle.plan_image.specs.Spelling.{HasSpelling, IsWithinLimits}
use Rattle.plan_compile.specs.declared.baseline.OutOfDateRule.{OutOfDateRule}
use Rattle.plan_compile.specs.declared.fault.CompileFault.{CompileFault}
use Rattle.plan_compile.specs.declared.fault.CompileFault.TheVariants.{Limit, Memory}
use Rattle.plan_compile.specs.Builds.{Build}
use Rattle.plan_compile.specs.Images.{compiled}
use Rattle.plan_compile.specs.Slots.{slot_count}

-- An image is refused for a limit only if it exceeds one. Memory is only requested if there are no more files
-- than an image may have.
abbrev pub IsRefused : OutOfDateRule → Manifest → Graph → CompileFault → Type 0
IsRefused rule m g Limit = IsWithinLimits (compiled rule m g) → ⊥
IsRefused rule m g Memory = length g.files ≤ MAX_FILES

-- the image of a manifest that has a graph has a spelling, unless it exceeds a limit
abbrev pub ImageIsSpelled : Type 0
ImageIsSpelled = (rule : OutOfDateRule) (m : Manifest) (g : Graph) → IsGraph m g → IsWithinLimits (compiled rule m g) → HasSpelling (compiled rule m g)

-- more places than a body may have
abbrev pub is_too_long : List Instr → Bool
is_too_long is = nat_lt MAX_BODY (length is)

-- codes are refused only for the length of one of them
abbrev pub RefusesCodes : CompileFault → List (List Instr) → Type 0
RefusesCodes Limit codes = list_any is_too_long codes ≡ true
RefusesCodes Memory codes = Unit {0}

-- edges are refused for the length of a code, or for too many slots, which are counted before memory is
-- requested
abbrev pub RefusesEdges : CompileFault → List Build → List (List Instr) → Type 0
RefusesEdges Limit xs codes = (MAX_SLOTS < slot_count xs) ⊎ (list_any is_too_long codes ≡ true)
RefusesEdges Memory xs codes = slot_count xs ≤ MAX_SLOTS
