-- Lemmas about the end of a build. Serves src/laws.rt.
use Rattle.std.proofs.Common.{◌≡◌, ℕ, Bool, true, false, List, [], Option, Some, None, sym, ap, subst}
use Rattle.std.specs.Prelude.{slice_get}
use Rattle.plan_image.specs.declared.image.Parts.{Parts}
use Rattle.plan_scope.specs.Loading.{FileContents}
use Rattle.plan_scope.specs.Scopes.{Text}
use Rattle.plan_scope.specs.Sound.{IsSound}
use Rattle.plan_scope.specs.declared.manifest.Manifest.{Manifest}
use Rattle.plan_graph.specs.Graph.{IsGraph}
use Rattle.plan_graph.specs.declared.graph_data.Graph.{Graph}
use Rattle.plan_verify.specs.Turn.{Meaning}
use Rattle.plan_compile.specs.declared.baseline.OutOfDateRule.TheVariants.{Stricter}
use Rattle.plan_compile.specs.Builds.{build_at}
use Rattle.plan_compile.specs.Images.{compiled}
use Rattle.plan_compile.specs.Rule.{Command}
use Rattle.plan_compile.specs.InteractionTree.{Left}
use Rattle.plan_machine.specs.Depfile.{depfile}
use Rattle.plan_machine.specs.Limits.{Limits}
use Rattle.plan_machine.specs.State.{Over, outcome_at}
use Rattle.plan_machine.specs.Step.{ended}
use Rattle.plan_status.specs.Outcomes.{all_done}
use Rattle.plan_lanes.specs.Journals.{Rule}
use Rattle.plan_lanes.specs.Reports.{IsRunOf}
use Rattle.plan_lanes.specs.declared.board.Report.{Report}
use Rattle.plan_scan.specs.Scans.{HasNothingToDo, facts_by, left_for}
use Rattle.plan_laws.specs.Ends.{CommandsRunOnce, EndsArePlain, Succeeds, commands_in}
use Rattle.plan_laws.specs.Right.{AllIsBuilt, FinishedRunsAreRight}
use Rattle.plan_reasons.specs.Observing.{Exchange}
use Rattle.plan_commands.specs.declared.building.Done.{Done}
use Rattle.plan_commands.specs.declared.building.Done.TheVariants as done
use Rattle.plan_commands.specs.Showing.{Shown}
use Rattle.plan_commands.specs.Building.{AllNeedNothing, EndsAs, HasRunNothing, exit_status, manifest_in, opened, path_of_all}
use Rattle.plan_commands.specs.BuildIsRight.{AllIsClean, AreAllClean, BuildIsRight, IdleBuildsAreRight, IdleBuildsRunNothing}

-- Status 0 is given only if all wanted edges succeeded.
all_succeeded : (p : Parts) (r : Report) (d : Done) → exit_status d ≡ 0 → EndsAs p r d → all_done p r.state.run_state.now ≡ true
all_succeeded p r done.Built zero ends = ends.0
all_succeeded p r done.UpToDate zero ends = ends.0
all_succeeded p r done.Failed zero ends = absurd cc
all_succeeded p r done.ManifestFails zero ends = absurd ends
all_succeeded p r done.NeverSettles zero ends = absurd ends

-- The tables of a run, if they are the image of a manifest.
run_is_right : (rule : Rule) → FinishedRunsAreRight rule → (m : Manifest) (g : Graph) → IsSound m → IsGraph m g → (limits : Limits) (edges : List ℕ) (r : Report) (p : Parts) → p ≡ compiled Stricter m g
    → (run : IsRunOf rule (opened p limits edges) r) → all_done p r.state.run_state.now ≡ true → AllIsBuilt rule Stricter m g edges r run.left
run_is_right rule right m g sound graph limits edges r p same =
    subst (λ (q : Parts). (run : IsRunOf rule (opened q limits edges) r) → all_done q r.state.run_state.now ≡ true → AllIsBuilt rule Stricter m g edges r run.left) (sym same) (right Stricter m g sound graph limits edges r)

pub build_is_right : (gives : FileContents) (shown : Shown) (rule : Rule) → FinishedRunsAreRight rule → BuildIsRight gives shown rule
build_is_right gives shown rule right a old new d zero b =
    run_is_right rule right (manifest_in b.read) b.read.image.graph b.read.image.sound b.read.image.is_graph a.limits b.edges b.report b.parts b.read.image.same b.run.run
    (all_succeeded b.parts b.report d zero b.ends)

-- An edge that succeeded in a run in which no command ran asked for no command.
asked_for_none : (r : Report) (e : ℕ) → HasRunNothing r → CommandsRunOnce → (phony : Bool) (meaning : Meaning) (c : Command) (conversation : List Exchange) (ran : Bool) (left : Left)
    → slice_get r.state.run_state.now.edges e ≡ Some (Over (ended ran)) → Succeeds phony meaning c ran conversation left → commands_in conversation ≡ []
asked_for_none r e nothing once phony meaning c conversation true left is succeeds = absurd (nothing e (ap outcome_at is))
asked_for_none r e nothing once phony meaning c conversation false left is succeeds = once phony meaning c conversation false left succeeds

pub idle_builds_run_nothing : (gives : FileContents) (shown : Shown) (rule : Rule) → CommandsRunOnce → IdleBuildsRunNothing gives shown rule
idle_builds_run_nothing gives shown rule once a old new b e x =
    asked_for_none b.report e b.ends.1 once _ _ _ x.right.conversation x.ran x.right.left x.succeeded x.right.succeeds

-- ---- builds without a run

all_are_clean : EndsArePlain → (rule : Rule) (m : Manifest) (g : Graph) (targets : List ℕ) → HasNothingToDo rule m g targets → AreAllClean rule m g targets
all_are_clean ends rule m g targets n =
    record {
      found = n.found;
      each = λ e x wanted at.
          let b = build_at Stricter g e x in
          let u = n.clean e x wanted at in
          record { shown = u; succeeds = ends b.edge.phony depfile (facts_by g n.found b) u.conversation false (left_for n.found b.outputs) u.follows };
    }

all_is_clean : EndsArePlain → (rule : Rule) (m : Manifest) (all : Option Text) → AllNeedNothing rule m all → AllIsClean rule m all
all_is_clean ends rule m None needs = absurd needs
all_is_clean ends rule m (Some path) needs = (needs.graph, needs.is_graph, all_are_clean ends rule m needs.graph _ needs.clean)

pub idle_builds_are_right : (gives : FileContents) (shown : Shown) (rule : Rule) → EndsArePlain → IdleBuildsAreRight gives shown rule
idle_builds_are_right gives shown rule ends a old new b = all_is_clean ends rule b.finds.manifest (path_of_all a) b.finds.needs
