-- Each command of a run of a manifest's image has a reason.
use Rattle.std.specs.Prelude.{◌≡◌, ℕ, List, Some}
use Rattle.plan_scope.specs.Sound.{IsSound}
use Rattle.plan_scope.specs.declared.manifest.Manifest.{Manifest}
use Rattle.plan_graph.specs.Graph.{IsGraph}
use Rattle.plan_graph.specs.declared.graph_data.Graph.{Graph}
use Rattle.plan_verify.specs.Turn.{Run}
use Rattle.plan_compile.specs.declared.baseline.OutOfDateRule.{OutOfDateRule}
use Rattle.plan_compile.specs.Builds.{Build, builds}
use Rattle.plan_compile.specs.Faithful.{IsEdge}
use Rattle.plan_compile.specs.Images.{compiled}
use Rattle.plan_compile.specs.Rule.{Path}
use Rattle.plan_compile.specs.Told.{facts}
use Rattle.plan_machine.specs.Agreement.{replies_to}
use Rattle.plan_machine.specs.Depfile.{depfile}
use Rattle.plan_machine.specs.Limits.{Limits}
use Rattle.plan_machine.specs.Requests.{asked_at}
use Rattle.plan_machine.specs.Runs.{Reached}
use Rattle.plan_machine.specs.State.{State}
use Rattle.plan_machine.specs.declared.event.Event.{Event}
use Rattle.plan_machine.specs.declared.event.Mark.{Mark}
use Rattle.plan_machine.specs.declared.event.reply.Reply.{Reply}
use Rattle.plan_reasons.specs.Causes.{AnsweredBy, HasReason}
use Rattle.plan_reasons.specs.Observing.{Exchange}

-- The edge has a reason, by the replies that it got in the run and by the stamps and flags that its waits left.
pub record IsExplained (rule : OutOfDateRule) (m : Manifest) (g : Graph) (s : State) (x : Build) (replies : List Reply) : Type 0 where
  pub conversation : List Exchange
  pub answered : AnsweredBy conversation replies
  pub why : HasReason (facts (builds rule m g) s.slots x) conversation replies

-- Each edge that has asked to run its command has a reason, in each run of a manifest's image.
abbrev pub CommandsAreExplained : Type 0
CommandsAreExplained =
    (rule : OutOfDateRule) (m : Manifest) (g : Graph) → IsSound m → IsGraph m g
    → (limits : Limits) (targets : List ℕ) (events : List Event) (marks : List Mark) (s : State) → Reached depfile (compiled rule m g) limits targets events marks s
    → (e : ℕ) (x : Build) (command : List ℕ) (outputs : List Path) → IsEdge (builds rule m g) e x → asked_at (compiled rule m g) s e ≡ Some (Run command outputs)
    → IsExplained rule m g s x (replies_to e events)
