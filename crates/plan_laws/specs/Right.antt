-- The meaning of a run in which all wanted edges succeeded for the edges of the manifest.
use Rattle.std.specs.Prelude.{◌≡◌, ◌<◌, ℕ, Bool, true, List, [], ◌∷◌, Some, slice_get}
use Rattle.plan_image.specs.declared.image.Parts.{Parts}
use Rattle.plan_scope.specs.Sound.{IsSound}
use Rattle.plan_scope.specs.declared.manifest.Manifest.{Manifest}
use Rattle.plan_graph.specs.Graph.{IsGraph}
use Rattle.plan_graph.specs.declared.graph_data.Graph.{Graph}
use Rattle.plan_verify.specs.Members.{is_member}
use Rattle.plan_verify.specs.Tables.{waits_of}
use Rattle.plan_compile.specs.declared.baseline.OutOfDateRule.{OutOfDateRule}
use Rattle.plan_compile.specs.Builds.{Build, builds}
use Rattle.plan_compile.specs.Faithful.{IsEdge}
use Rattle.plan_compile.specs.Images.{compiled}
use Rattle.plan_compile.specs.Means.{Leaves}
use Rattle.plan_compile.specs.Slots.{base, made}
use Rattle.plan_compile.specs.InteractionTree.{Left, Over as Done, Follows}
use Rattle.plan_compile.specs.Told.{edge_does, facts}
use Rattle.plan_machine.specs.Agreement.{replies_to}
use Rattle.plan_machine.specs.Depfile.{depfile}
use Rattle.plan_machine.specs.Limits.{Limits}
use Rattle.plan_machine.specs.State.{State, Over}
use Rattle.plan_machine.specs.Step.{answer_of, ended}
use Rattle.plan_machine.specs.Wanted.{IsWanted}
use Rattle.plan_machine.specs.declared.event.Mark.{Mark}
use Rattle.plan_machine.specs.declared.event.Mark.TheVariants.{Started, Ended}
use Rattle.plan_machine.specs.declared.event.reply.Reply.{Reply}
use Rattle.plan_status.specs.Outcomes.{all_done}
use Rattle.plan_lanes.specs.Journals.{Rule}
use Rattle.plan_lanes.specs.Reports.{IsRunOf}
use Rattle.plan_lanes.specs.declared.board.Report.{Report}
use Rattle.plan_reasons.specs.Observing.{Exchange}
use Rattle.plan_laws.specs.Ends.{Succeeds}

-- ---- an edge

-- These are the replies of the conversation, in their order, and the world's rule allows each reply for its question.
abbrev pub AreReplies : Rule → List Reply → List Exchange → Type 0
AreReplies allows [] [] = Unit {0}
AreReplies allows (r ∷ replies) (x ∷ conversation) = (x.1 ≡ answer_of r) × ((number : ℕ) × allows number x.0 r) × AreReplies allows replies conversation
AreReplies allows _ _ = ⊥

-- The conversation of an edge, with the replies that the edge got in this run, follows its rule to the end. The rule is
-- that of the manifest, with the stamps and flags that the edge's waits left. The world's rule allows each reply for
-- its question. So the edge was clean, or its own command ran to exit status 0. The edge left what the rule says.
pub record IsRight (allows : Rule) (rule : OutOfDateRule) (m : Manifest) (g : Graph) (s : State) (e : ℕ) (x : Build) (replies : List Reply) (ran : Bool) : Type 0 where
  pub conversation : List Exchange
  pub answered : AreReplies allows replies conversation
  pub left : Left
  pub follows : Follows (edge_does x.edge.phony depfile (facts (builds rule m g) s.slots x)) conversation (Done ran left)
  pub succeeds : Succeeds x.edge.phony depfile (facts (builds rule m g) s.slots x) ran conversation left
  pub leaves : Leaves (made (base (builds rule m g).edges e) x) s.slots left

-- Each edge that succeeded in a run of a manifest's image is right.
abbrev pub FinishedEdgesAreRight : Rule → Type 0
FinishedEdgesAreRight allows =
    (rule : OutOfDateRule) (m : Manifest) (g : Graph) → IsSound m → IsGraph m g → (limits : Limits) (targets : List ℕ) (r : Report)
    → IsRunOf allows (record { parts = compiled rule m g; limits = limits; targets = targets }) r
    → (e : ℕ) (x : Build) (ran : Bool) → IsEdge (builds rule m g) e x → slice_get r.state.run_state.now.edges e ≡ Some (Over (ended ran))
    → IsRight allows rule m g r.state.run_state.now e x (replies_to e r.journal) ran

-- ---- a run

-- By the marks of a run, the edge began after everything that it waits for had succeeded.
pub record BeganInOrder (p : Parts) (marks : List Mark) (e : ℕ) : Type 0 where
  pub position : ℕ
  pub began : slice_get marks position ≡ Some (Started e)
  pub after : (w : ℕ) → is_member w (waits_of p e) ≡ true → (k : ℕ) × (ran : Bool) × (k < position) × (slice_get marks k ≡ Some (Ended w ran))

-- The edge of the manifest with this number began in order, succeeded, and is right.
pub record IsBuilt (allows : Rule) (rule : OutOfDateRule) (m : Manifest) (g : Graph) (r : Report) (marks : List Mark) (e : ℕ) : Type 0 where
  pub edge : Build
  pub there : IsEdge (builds rule m g) e edge
  pub ran : Bool
  pub succeeded : slice_get r.state.run_state.now.edges e ≡ Some (Over (ended ran))
  pub order : BeganInOrder (compiled rule m g) marks e
  pub right : IsRight allows rule m g r.state.run_state.now e edge (replies_to e r.journal) ran

-- Each wanted edge is built: the targets, or the defaults if there are no targets, and everything that these wait for.
abbrev pub AllIsBuilt : Rule → OutOfDateRule → Manifest → Graph → List ℕ → Report → List Mark → Type 0
AllIsBuilt allows rule m g targets r marks = (e : ℕ) → IsWanted (compiled rule m g) targets e → IsBuilt allows rule m g r marks e

-- If all wanted edges succeeded in a run of a manifest's image, all of them are built.
abbrev pub FinishedRunsAreRight : Rule → Type 0
FinishedRunsAreRight allows =
    (rule : OutOfDateRule) (m : Manifest) (g : Graph) → IsSound m → IsGraph m g → (limits : Limits) (targets : List ℕ) (r : Report)
    → (run : IsRunOf allows (record { parts = compiled rule m g; limits = limits; targets = targets }) r)
    → all_done (compiled rule m g) r.state.run_state.now ≡ true
    → AllIsBuilt allows rule m g targets r run.left
