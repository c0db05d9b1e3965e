-- The result of a reply in the code, and the state after it.
use Rattle.std.specs.Prelude.{◌≡◌, ℕ, ◌<◌, length, Option, Some, None, Result, Ok, Err, slice_get, IfSome, IsSome, true, []}
use Rattle.plan_image.specs.declared.image.Parts.{Parts}
use Rattle.plan_image.specs.Code.{code}
use Rattle.plan_verify.specs.Turn.{Local, Turn, Goes, Moved, Fails, heard, question, Reply as Answer}
use Rattle.plan_machine.specs.declared.event.Mark.{Mark}
use Rattle.plan_machine.specs.declared.event.Mark.TheVariants as mark
use Rattle.plan_machine.specs.declared.event.Outcome.TheVariants.{Failed}
use Rattle.plan_machine.specs.declared.run.refused.Refused.{Refused}
use Rattle.plan_machine.specs.declared.run.refused.Refused.TheVariants.{NotEnabled}
use Rattle.plan_machine.specs.declared.edge.turns.Heard.{Heard}
use Rattle.plan_machine.specs.declared.edge.turns.Heard.TheVariants as hearing
use Rattle.plan_machine.specs.State.{Status, Active, Over, with_status}
use Rattle.plan_machine.specs.RunState.{RunState}
use Rattle.plan_machine.specs.Depfile.{depfile}
use Rattle.plan_machine.specs.Working.{Works}

-- a running edge reacts to a reply in a way that isn't wrong, at a place of its code; if it has asked, there is
-- a question
pub record CanHear (p : Parts) (e : ℕ) (r : Answer) (l : Local) : Type 0 where
  pub works : IfSome (heard depfile p e l r) Works
  pub place : l.place < length (code p e)
  pub asks : l.asked ≡ true → IsSome (question p e [] l)

abbrev pub IsHeard : Heard → Local → Local → Option Turn → Type 0
IsHeard hearing.On old new t = t ≡ Some (Goes Moved new)
IsHeard (hearing.Failed cause) old new t = t ≡ Some (Fails cause)
IsHeard hearing.Unfit old new t = (t ≡ None) × (new ≡ old)

-- the status of a running edge after a reply
pub record HasAnswered (p : Parts) (e : ℕ) (a : Answer) (r : Heard) (old new : Status) : Type 0 where
  pub before : Local
  pub later : Local
  pub was : old ≡ Active before
  pub is : new ≡ Active later
  pub made : IsHeard r before later (heard depfile p e before a)

-- a running edge received a reply
pub record HasHeard (p : Parts) (old : RunState) (e : ℕ) (a : Answer) (r : Heard) (new : RunState) : Type 0 where
  pub before : Local
  pub after : Local
  pub now : slice_get old.now.edges e ≡ Some (Active before)
  pub made : IsHeard r before after (heard depfile p e before a)
  pub left : new ≡ record { limits = old.limits; now = with_status old.now e (Active after) }

abbrev pub SettlesReply : RunState → ℕ → Heard → Result Mark Refused → RunState → Type 0
SettlesReply old e hearing.On told new = (told ≡ Ok (mark.Answered e)) × (new ≡ old)
SettlesReply old e (hearing.Failed cause) told new = (told ≡ Ok (mark.Failed e cause)) × (new ≡ record { limits = old.limits; now = with_status old.now e (Over (Failed cause)) })
SettlesReply old e hearing.Unfit told new = (told ≡ Err NotEnabled) × (new ≡ old)
