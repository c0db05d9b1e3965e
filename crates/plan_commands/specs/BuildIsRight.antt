-- Laws about the edges of a manifest when its build ends.
use Rattle.std.specs.Prelude.{◌≡◌, ℕ, false, List, [], Option, Some, None, slice_get}
use Rattle.plan_scope.specs.Edge.{Edge}
use Rattle.plan_scope.specs.Loading.{FileContents}
use Rattle.plan_scope.specs.Scopes.{Text}
use Rattle.plan_scope.specs.declared.manifest.Manifest.{Manifest}
use Rattle.plan_graph.specs.Graph.{IsGraph}
use Rattle.plan_graph.specs.declared.graph_data.Graph.{Graph}
use Rattle.plan_compile.specs.Builds.{Build, build_at}
use Rattle.plan_compile.specs.declared.baseline.OutOfDateRule.TheVariants.{Stricter}
use Rattle.plan_machine.specs.Depfile.{depfile}
use Rattle.plan_lanes.specs.Journals.{Rule}
use Rattle.plan_scan.specs.Scans.{IsUpToDate, IsWanted, facts_by, left_for}
use Rattle.plan_scan.specs.declared.found.Found.{Found}
use Rattle.plan_laws.specs.Ends.{Succeeds, commands_in}
use Rattle.plan_laws.specs.Right.{AllIsBuilt, IsBuilt}
use Rattle.plan_commands.specs.declared.building.Done.{Done}
use Rattle.plan_commands.specs.declared.building.Done.TheVariants as done
use Rattle.plan_commands.specs.Images.{SinkState}
use Rattle.plan_commands.specs.Showing.{Shown}
use Rattle.plan_commands.specs.Building.{Asked, BuildsTargets, EndsWithoutRun, all_targets, exit_status, manifest_in, path_of_all}

-- If a build ends with status 0, the run of the image builds each wanted edge of the manifest that was read last. The
-- edge began after everything that it waits for, by the manifest and by the record as it was read before the run, had
-- succeeded. Then it was clean by the stricter out-of-date rule, or its own command ran to exit status 0. The world's
-- rule allows each of these replies.
abbrev pub BuildIsRight : FileContents → Shown → Rule → Type 0
BuildIsRight gives shown rule =
    (a : Asked) (old new : SinkState) (d : Done) → exit_status d ≡ 0 → (b : BuildsTargets gives shown rule a old new d)
    → AllIsBuilt rule Stricter (manifest_in b.read) b.read.image.graph b.edges b.report b.run.run.left

-- If a build ends with no work to do, no edge that the run builds asked for a command in it.
abbrev pub IdleBuildsRunNothing : FileContents → Shown → Rule → Type 0
IdleBuildsRunNothing gives shown rule =
    (a : Asked) (old new : SinkState) (b : BuildsTargets gives shown rule a old new done.UpToDate) (e : ℕ)
    → (x : IsBuilt rule Stricter (manifest_in b.read) b.read.image.graph b.report b.run.run.left e) → commands_in x.right.conversation ≡ []

-- ---- builds without a run

-- An edge is up to date, by replies that the world's rule allows. A phony edge runs nothing by them, and an edge with a
-- command is clean.
pub record IsClean (rule : Rule) (g : Graph) (found : List Found) (x : Build) : Type 0 where
  pub shown : IsUpToDate rule g found x
  pub succeeds : Succeeds x.edge.phony depfile (facts_by g found x) false shown.conversation (left_for found x.outputs)

-- Each edge that these targets need is clean, by what was found of files.
pub record AreAllClean (rule : Rule) (m : Manifest) (g : Graph) (targets : List ℕ) : Type 0 where
  pub found : List Found
  pub each : (e : ℕ) (x : Edge) → IsWanted g targets e → slice_get m.edges e ≡ Some x → IsClean rule g found (build_at Stricter g e x)

-- No targets are named, and each edge that the defaults or the maker of the manifest at this path need is clean.
abbrev pub AllIsClean : Rule → Manifest → Option Text → Type 0
AllIsClean rule m None = ⊥
AllIsClean rule m (Some path) = (g : Graph) × IsGraph m g × AreAllClean rule m g (all_targets g path)

-- If a build ends without a run for its targets, it named none. Each default of the manifest that was read last, its
-- maker, and each edge that these wait for is clean by the stricter out-of-date rule.
abbrev pub IdleBuildsAreRight : FileContents → Shown → Rule → Type 0
IdleBuildsAreRight gives shown rule =
    (a : Asked) (old new : SinkState) (b : EndsWithoutRun gives shown rule a old new) → AllIsClean rule b.finds.manifest (path_of_all a)
