-- The questions that a lane holds, and those that it takes.
use Rattle.std.specs.Prelude.{◌≡◌, ◌⊎◌, ℕ, true, false, List, [], ◌∷◌, ◌++◌, Option, IfSome, get_or, map}
use Rattle.plan_verify.specs.Turn.{Request, Stat}
use Rattle.plan_machine.specs.declared.event.Event.{Event}
use Rattle.plan_machine.specs.declared.event.Event.TheVariants.{Reply as Hear}
use Rattle.plan_machine.specs.declared.event.Mark.{Mark}
use Rattle.plan_machine.specs.declared.event.reply.Reply.{Reply}
use Rattle.plan_machine.specs.State.{has_ended}
use Rattle.plan_status.specs.Consoles.{is_console}
use Rattle.plan_lanes.specs.declared.lanes.BatchEnd.{BatchEnd}
use Rattle.plan_lanes.specs.declared.lanes.BatchEnd.TheVariants.{Full, AskFirst, Run, Wait, Ended, NoMemory}
use Rattle.plan_lanes.specs.Boards.{Applies, IsOpen}
use Rattle.plan_lanes.specs.Journals.{Rule}
use Rattle.plan_lanes.specs.Proceeds.{AnswersRow, CanOnlyWait, asking}
use Rattle.plan_lanes.specs.Progress.{Progress}
use Rattle.plan_lanes.specs.Questions.{is_run}
use Rattle.plan_lanes.specs.LocalRuns.{AppliesAll, GoesOn}
use Rattle.plan_lanes.specs.StampRows.{Stamps}

-- a question of an edge
pub record Held : Type 0 where
  pub edge : ℕ
  pub number : ℕ
  pub request : Request

abbrev pub held : ℕ → ℕ → Request → Held
held e number q = record { edge = e; number = number; request = q }

-- the edge awaits the reply to it
abbrev pub IsHeldOpen : Progress → Held → Type 0
IsHeldOpen b h = IsOpen b h.edge h.number h.request

-- the edge awaited the reply to it, and a reply that the rule allows was applied
abbrev pub Answers : Rule → Progress → Progress → Held → Type 0
Answers rule old new h = (reply : Reply) × (told : Mark) × rule h.number h.request reply × Applies old new (Hear h.edge reply) told × IsHeldOpen old h

-- a reply that the rule allows, or the first stamp of a row, was applied
abbrev pub AppliesReply : Rule → Progress → Progress → Held → Type 0
AppliesReply rule old new h = Answers rule old new h ⊎ ((stamps : List ℕ) × AnswersRow old new h.edge stamps false × IsHeldOpen old h)

-- the stamps of a row are for this question
pub record IsRowOf (h : Held) (r : Stamps) : Type 0 where
  pub edge : r.edge ≡ h.edge
  pub number : r.number ≡ h.number
  pub request : Stat (get_or r.paths r.from []) ≡ h.request

-- the rule allows the reply, or the stamps of the row, for the question
pub record IsHeard (rule : Rule) (h : Held) (given : Option Reply) (stamps : Option Stamps) : Type 0 where
  pub reply : IfSome given (λ r. rule h.number h.request r)
  pub row : IfSome stamps (λ r. IsRowOf h r)

-- none of them is to run a command
abbrev pub RunNothing : List Held → Type 0
RunNothing [] = Unit {0}
RunNothing (h ∷ hs) = (is_run h.request ≡ false) × RunNothing hs

-- Events were applied. For each edge that asked, one more question is held, in this order, except for the edges that
-- asked last. No question to run a command is held.
pub record Gathers (old new : Progress) (before after : List Held) (others : List ℕ) : Type 0 where
  pub events : List Event
  pub told : List Mark
  pub applies : AppliesAll old new events told
  pub more : List Held
  pub kept : after ≡ before ++ more
  pub each : asking told ≡ map (λ h. h.edge) more ++ others
  pub plain : RunNothing more

-- What a lane took. `Run`: the last edge that asked wants to run its command, its question is open, and the permit says
-- whether it is a console edge. `Wait`: no event can be applied without a reply. `Ended`: the run has ended.
abbrev pub Takes : Progress → Progress → List Held → List Held → BatchEnd → Type 0
Takes old new before after Full = Gathers old new before after []
Takes old new before after AskFirst = Gathers old new before after []
Takes old new before after (Run order) =
    Gathers old new before after (order.edge ∷ []) × IsOpen new order.edge order.number order.request
    × (is_run order.request ≡ true) × (order.console ≡ is_console new.opened.parts order.edge)
Takes old new before after Wait = Gathers old new before after [] × CanOnlyWait new
Takes old new before after Ended = Gathers old new before after [] × (has_ended new.state ≡ true)
Takes old new before after NoMemory = GoesOn old new
