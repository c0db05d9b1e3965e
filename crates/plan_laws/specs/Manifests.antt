-- How a run of a manifest's image relates to the manifest.
use Rattle.std.specs.Prelude.{◌≡◌, ℕ, Bool, true, List, [], ◌∷◌, map, Some, slice_get}
use Rattle.plan_scope.specs.Sound.{IsSound}
use Rattle.plan_scope.specs.declared.manifest.Manifest.{Manifest}
use Rattle.plan_graph.specs.Graph.{IsGraph}
use Rattle.plan_graph.specs.declared.graph_data.Graph.{Graph}
use Rattle.plan_verify.specs.Tables.{is_lent, owns}
use Rattle.plan_verify.specs.Turn.{Slots, Meaning, Request, Run, Reply as Answer}
use Rattle.plan_verify.specs.Alone.{Stage}
use Rattle.plan_compile.specs.declared.baseline.OutOfDateRule.{OutOfDateRule}
use Rattle.plan_compile.specs.Builds.{Build, builds}
use Rattle.plan_compile.specs.Faithful.{IsEdge}
use Rattle.plan_compile.specs.Images.{compiled}
use Rattle.plan_compile.specs.Means.{Leaves}
use Rattle.plan_compile.specs.Rule.{Command}
use Rattle.plan_compile.specs.Slots.{base, made}
use Rattle.plan_compile.specs.InteractionTree.{InteractionTree, Obeys, Follows}
use Rattle.plan_compile.specs.Told.{edge_does, facts}
use Rattle.plan_machine.specs.Agreement.{replies_to}
use Rattle.plan_machine.specs.Depfile.{depfile}
use Rattle.plan_machine.specs.Histories.{stage_of}
use Rattle.plan_machine.specs.Limits.{Limits}
use Rattle.plan_machine.specs.State.{State, Status}
use Rattle.plan_machine.specs.Step.{answer_of}
use Rattle.plan_machine.specs.declared.event.reply.Reply.{Reply}
use Rattle.plan_lanes.specs.Journals.{Rule}
use Rattle.plan_lanes.specs.Reports.{IsRunOf}
use Rattle.plan_lanes.specs.declared.board.Report.{Report}

-- The conversation of an edge, with the replies that it got in a run, follows the out-of-date rule of that edge of the
-- manifest, from the stamps and flags that its waits left. The edge then keeps to the rest of the rule.
pub record KeepsToRule (rule : OutOfDateRule) (m : Manifest) (g : Graph) (s : State) (e : ℕ) (x : Build) (replies : List Reply) (stage : Stage) : Type 0 where
  pub slots : Slots
  pub lent : (k : ℕ) → is_lent (compiled rule m g) e k ≡ true → slice_get slots k ≡ slice_get s.slots k
  pub conversation : List (Request × Answer)
  pub answered : map {B = Answer} (λ x. x.1) conversation ≡ map answer_of replies
  pub rest : InteractionTree
  pub follows : Follows (edge_does x.edge.phony depfile (facts (builds rule m g) slots x)) conversation rest
  pub end : Slots
  pub own : (k : ℕ) → owns (compiled rule m g) e k ≡ true → slice_get end k ≡ slice_get s.slots k
  pub keeps : Obeys depfile (compiled rule m g) e (Leaves (made (base (builds rule m g).edges e) x)) (record { stage = stage; slots = end }) rest

-- This holds for each edge that began, in each run of an image that was compiled for that rule, with any replies that
-- the world's rule allows.
abbrev pub RunsKeepToManifest : Rule → Type 0
RunsKeepToManifest allows =
    (rule : OutOfDateRule) (m : Manifest) (g : Graph) → IsSound m → IsGraph m g → (limits : Limits) (targets : List ℕ) (r : Report)
    → IsRunOf allows (record { parts = compiled rule m g; limits = limits; targets = targets }) r
    → (e : ℕ) (x : Build) (status : Status) (stage : Stage) → IsEdge (builds rule m g) e x → slice_get r.state.run_state.now.edges e ≡ Some status → stage_of status ≡ Some stage
    → KeepsToRule rule m g r.state.run_state.now e x (replies_to e r.journal) stage

-- ---- which commands run

-- each question to run a command asks for this edge's own command, for its outputs
abbrev pub IsOwnRun : Command → Request → Type 0
IsOwnRun c (Run command outputs) = (command ≡ c.command) × (outputs ≡ c.outputs)
IsOwnRun c q = Unit {0}

abbrev pub AreOwnRuns : Command → List (Request × Answer) → Type 0
AreOwnRuns c [] = Unit {0}
AreOwnRuns c (x ∷ xs) = IsOwnRun c x.0 × AreOwnRuns c xs

-- Whatever the replies are, a conversation that follows the rule of an edge runs nothing else.
abbrev pub NothingElseRuns : Type 0
NothingElseRuns =
    (phony : Bool) (meaning : Meaning) (c : Command) (conversation : List (Request × Answer)) (rest : InteractionTree)
    → Follows (edge_does phony meaning c) conversation rest → AreOwnRuns c conversation
