-- An edge that asks to run its command has a reason, by the replies that it got.
use Rattle.std.specs.Prelude.{◌≡◌, ℕ, Bool, true, List, map, Some}
use Rattle.plan_verify.specs.Turn.{Meaning, Request, Run, Reply as Answer}
use Rattle.plan_compile.specs.InteractionTree.{InteractionTree, Ask, Follows}
use Rattle.plan_compile.specs.Rule.{Path, Command}
use Rattle.plan_compile.specs.Told.{edge_does}
use Rattle.plan_machine.specs.Step.{answer_of}
use Rattle.plan_machine.specs.declared.event.reply.Reply.{Reply}
use Rattle.plan_reasons.specs.declared.reason.Reason.{Reason}
use Rattle.plan_reasons.specs.Facts.{facts_of}
use Rattle.plan_reasons.specs.Observing.{Exchange, Observations, Observes, is_dirty_by}
use Rattle.plan_reasons.specs.Reasons.{first_reason, reason_in, Holds}
use Rattle.plan_reasons.specs.Replies.{observed}

-- these are the replies of the conversation, in their order
abbrev pub AnsweredBy : List Exchange → List Reply → Type 0
AnsweredBy conversation replies = map {B = Answer} (λ x. x.1) conversation ≡ map answer_of replies

-- The replies of an edge that asked what the rule decides by are what it observed.
abbrev pub RepliesAreObserved : Type 0
RepliesAreObserved =
    (c : Command) (o : Observations) (conversation : List Exchange) (replies : List Reply) → Observes c o conversation → AnsweredBy conversation replies → observed (facts_of c) replies ≡ o

-- The edge is dirty by what it observed, and these replies show it. The reason that they give is the first one, and it
-- holds.
pub record HasReason (c : Command) (conversation : List Exchange) (replies : List Reply) : Type 0 where
  pub observations : Observations
  pub observes : Observes c observations conversation
  pub replied : observed (facts_of c) replies ≡ observations
  pub dirty : is_dirty_by c observations ≡ true
  pub reason : Reason
  pub first : first_reason c observations.named observations.outputs observations.entry observations.recorded ≡ Some reason
  pub given : reason_in (facts_of c) replies ≡ Some reason
  pub holds : Holds c observations reason

-- A conversation that leads along the rule to the question to run a command gives a reason.
abbrev pub CommandsHaveReasons : Type 0
CommandsHaveReasons =
    (phony : Bool) (meaning : Meaning) (c : Command) (conversation : List Exchange) (replies : List Reply) (command : List ℕ) (outputs : List Path) (next : Answer → InteractionTree)
    → Follows (edge_does phony meaning c) conversation (Ask (Run command outputs) next) → AnsweredBy conversation replies → HasReason c conversation replies
