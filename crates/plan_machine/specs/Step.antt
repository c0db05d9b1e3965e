-- The table of events: which are enabled, and what each does.
use Rattle.std.specs.Prelude.{ℕ, Bool, true, false, not, ◌||◌, ◌&&◌, Option, Some, None, if◌then◌else◌, slice_get, slice_set}
use Rattle.std.specs.List.{list_all}
use Rattle.plan_image.specs.declared.image.Parts.{Parts}
use Rattle.plan_verify.specs.Members.{is_member}
use Rattle.plan_verify.specs.Tables.{waits_of}
use Rattle.plan_verify.specs.Turn.{Local, begun, Flaw, Did, Moved, Took, Released, Turn, Goes, Sets, Asks, Ends, Fails, Wrong as Errs, Meaning, Reply as Answer, StampIs, Entry, Nothing, Exit, Signal, NotStarted, Bytes, Kept, Fault, turn, heard}
use Rattle.plan_verify.specs.Sound.{asking}
use Rattle.plan_machine.specs.Limits.{Limits}
use Rattle.plan_machine.specs.declared.event.reply.Reply.{Reply}
use Rattle.plan_machine.specs.declared.event.reply.Reply.TheVariants as reply
use Rattle.plan_machine.specs.declared.event.Event.{Event}
use Rattle.plan_machine.specs.declared.event.Event.TheVariants.{Start, Skip, Stop, Step, Reply as Hear}
use Rattle.plan_machine.specs.declared.event.Mark.{Mark}
use Rattle.plan_machine.specs.declared.event.Mark.TheVariants as mark
use Rattle.plan_machine.specs.declared.event.Outcome.{Outcome}
use Rattle.plan_machine.specs.declared.event.Outcome.TheVariants.{Clean, Ran, Failed, Skipped, Stopped}
use Rattle.plan_machine.specs.State.{Status, Unbegun, Active, Over, State, has_succeeded, is_unsuccessful, stands, with_status}
use Rattle.plan_machine.specs.Places.{is_spent, is_free, at_take}

-- the result of an event: a state and a mark, a flaw, or nothing if it isn't enabled
pub data Stepped : Type 0 where
  Next : State → Mark → Stepped
  Wrong : Flaw → Stepped
  NotEnabled : Stepped

-- ---- the result of a turn of an edge

abbrev pub stepped : ℕ → Did → Mark
stepped e Moved = mark.Moved e
stepped e Took = mark.Took e
stepped e Released = mark.Released e

abbrev pub answered : ℕ → Did → Mark
answered e did = mark.Answered e

abbrev pub ended : Bool → Outcome
ended true = Ran
ended false = Clean

-- the mark of a turn that goes on depends on what the edge did
abbrev pub settles : State → ℕ → Local → (Did → Mark) → Turn → Stepped
settles s e l told (Goes did m) = Next (with_status s e (Active m)) (told did)
settles s e l told (Sets k v m) = Next (record { edges = slice_set s.edges e (Active m); slots = slice_set s.slots k (Some v) }) (told Moved)
settles s e l told (Asks q) = Next (with_status s e (Active (asking l))) (mark.Asked e)
settles s e l told Ends = Next (with_status s e (Over (ended l.ran))) (mark.Ended e l.ran)
settles s e l told (Fails cause) = Next (with_status s e (Over (Failed cause))) (mark.Failed e cause)
settles s e l told (Errs flaw) = Wrong flaw

-- a reply that doesn't match the question isn't enabled
abbrev pub hears_by : State → ℕ → Local → Option Turn → Stepped
hears_by s e l (Some t) = settles s e l (answered e) t
hears_by s e l None = NotEnabled

-- ---- the events, by the status of their edge

-- an edge all of whose waits succeeded
abbrev pub starts : Parts → State → ℕ → Option Status → Stepped
starts p s e (Some Unbegun) = if list_all (stands has_succeeded s) (waits_of p e) then Next (with_status s e (Active begun)) (mark.Started e) else NotEnabled
starts p s e _ = NotEnabled

-- an edge one of whose waits failed, was skipped or was stopped
abbrev pub skips : Parts → State → ℕ → ℕ → Option Status → Stepped
skips p s e w (Some Unbegun) =
    if is_member w (waits_of p e) && stands is_unsuccessful s w then Next (with_status s e (Over (Skipped w))) (mark.Skipped e w) else NotEnabled
skips p s e w _ = NotEnabled

-- an edge that has not begun or is at Take, when the failure limit has been reached
abbrev pub stops : Parts → Limits → State → ℕ → Option Status → Stepped
stops p limits s e (Some Unbegun) = if is_spent limits s then Next (with_status s e (Over Stopped)) (mark.Stopped e) else NotEnabled
stops p limits s e (Some (Active l)) =
    if is_spent limits s && at_take p e l then Next (with_status s e (Over Stopped)) (mark.Stopped e) else NotEnabled
stops p limits s e _ = NotEnabled

-- an edge that awaits no reply; at Take only if a job token is free
abbrev pub steps : Parts → Limits → State → ℕ → Option Status → Stepped
steps p limits s e (Some (Active l)) =
    if l.asked || (at_take p e l && not (is_free p limits s e)) then NotEnabled else settles s e l (stepped e) (turn p e s.slots l)
steps p limits s e _ = NotEnabled

-- a reply to an edge
abbrev pub hears : Meaning → Parts → State → ℕ → Answer → Option Status → Stepped
hears meaning p s e r (Some (Active l)) = hears_by s e l (heard meaning p e l r)
hears meaning p s e r _ = NotEnabled

-- a reply, in terms of one edge's step
abbrev pub answer_of : Reply → Answer
answer_of (reply.Stamp n) = StampIs n
answer_of (reply.Entry recorded) = Entry recorded.command recorded.basis recorded.paths
answer_of reply.Nothing = Nothing
answer_of (reply.Exit n) = Exit n
answer_of reply.Signal = Signal
answer_of reply.NotStarted = NotStarted
answer_of (reply.Bytes bytes) = Bytes bytes
answer_of reply.Kept = Kept
answer_of reply.Fault = Fault

-- The effect of an event; `meaning` is that of a depfile's bytes.
unfoldable pub step : Meaning → Parts → Limits → State → Event → Stepped
step meaning p limits s (Start e) = starts p s e (slice_get s.edges e)
step meaning p limits s (Skip e w) = skips p s e w (slice_get s.edges e)
step meaning p limits s (Stop e) = stops p limits s e (slice_get s.edges e)
step meaning p limits s (Step e) = steps p limits s e (slice_get s.edges e)
step meaning p limits s (Hear e r) = hears meaning p s e (answer_of r) (slice_get s.edges e)
