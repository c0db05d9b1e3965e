-- The effect of the calls of a board that only lanes use: like an advance and an answer, but over several events.
use Rattle.std.specs.Prelude.{◌≡◌, ◌+◌, ◌⊎◌, ℕ, Bool, true, false, List, [], ◌∷◌, ◌++◌, Some, length, slice_get, take}
use Rattle.plan_verify.specs.Turn.{Local, Request}
use Rattle.plan_machine.specs.declared.event.Event.{Event}
use Rattle.plan_machine.specs.declared.event.Event.TheVariants.{Reply as Hear}
use Rattle.plan_machine.specs.declared.event.Mark.{Mark}
use Rattle.plan_machine.specs.declared.event.Mark.TheVariants as mark
use Rattle.plan_machine.specs.declared.event.reply.Reply.{Reply}
use Rattle.plan_machine.specs.declared.event.reply.Reply.TheVariants.{Stamp}
use Rattle.plan_machine.specs.declared.run.local_runs.LocalRun.{LocalRun}
use Rattle.plan_machine.specs.NeverStuck.{Awaits, is_own}
use Rattle.plan_machine.specs.Picking.{IsEnabled}
use Rattle.plan_machine.specs.State.{Active, has_ended}
use Rattle.plan_lanes.specs.declared.board.Advance.{Advance}
use Rattle.plan_lanes.specs.declared.board.Advance.TheVariants.{Moved, Job, Wait, Ended}
use Rattle.plan_lanes.specs.Boards.{Applies, IsOpen}
use Rattle.plan_lanes.specs.Progress.{Progress, run_state_of}
use Rattle.plan_lanes.specs.Permits.{Permits}
use Rattle.plan_lanes.specs.Questions.{shown}
use Rattle.plan_lanes.specs.LocalRuns.{AppliesAll, Follows, SweepsRow}

-- the edges that asked, according to these marks
abbrev pub asking_by : Mark → List ℕ
asking_by (mark.Asked e) = e ∷ []
asking_by _ = []

abbrev pub asking : List Mark → List ℕ
asking [] = []
asking (m ∷ marks) = asking_by m ++ asking marks

-- some events were applied, and no edge asked
pub record MovesOn (old new : Progress) : Type 0 where
  pub first : Event
  pub rest : List Event
  pub told : List Mark
  pub applies : AppliesAll old new (first ∷ rest) told
  pub silent : asking told ≡ []

-- Some events were applied, and the last of them was the only one that asked. Its edge awaits the reply to exactly this
-- question. The number of the question is the position of that event.
pub record AsksLast (old new : Progress) (e number : ℕ) (q : Request) : Type 0 where
  pub events : List Event
  pub told : List Mark
  pub applies : AppliesAll old new events told
  pub alone : asking told ≡ e ∷ []
  pub question : IsOpen new e number q
  pub last : number + 1 ≡ length new.journal

-- no start, skip, stop or step is enabled, and an edge awaits a reply
abbrev pub CanOnlyWait : Progress → Type 0
CanOnlyWait b = ((event : Event) → is_own event ≡ true → IsEnabled b.opened.parts (run_state_of b) event → ⊥) × Awaits b.state

-- The effect on a board that went on without a reply: like one advance, but with any number of events.
abbrev pub Proceeds : Progress → Progress → Advance → Type 0
Proceeds old new Moved = MovesOn old new
Proceeds old new (Job e question permit) = AsksLast old new e question.number (shown question.request) × Permits old.opened.parts e (shown question.request) permit
Proceeds old new Wait = (new ≡ old) × CanOnlyWait old
Proceeds old new Ended = (new ≡ old) × (has_ended old.state ≡ true)

-- an edge has asked and has no reply
abbrev pub AwaitsReply : Progress → ℕ → Type 0
AwaitsReply b e = (l : Local) × (slice_get b.state.edges e ≡ Some (Active l)) × (l.asked ≡ true)

-- a reply was applied to an edge, which then made a local run, up to a question or not
abbrev pub HearsAndGoesOn : Progress → Progress → ℕ → Reply → Bool → Type 0
HearsAndGoesOn old new e reply asked = (local_run : LocalRun) × Follows old new e reply local_run × (local_run.asked ≡ asked)

-- The first stamps of a row were applied, and after each the edge asked for the next path. The stamp is the next one.
pub record HearsFront (old new : Progress) (e : ℕ) (stamps : List ℕ) (stamp : ℕ) : Type 0 where
  pub count : ℕ
  pub front : SweepsRow old new e (take count stamps)
  pub next : slice_get stamps count ≡ Some stamp

-- All stamps of a row were applied in this way. Or only the first stamps were, and then the next one, after which the
-- edge made a local run.
abbrev pub HearsRow : Progress → Progress → ℕ → List ℕ → Bool → Type 0
HearsRow old new e stamps asked =
    (SweepsRow old new e stamps × (asked ≡ true))
    ⊎ ((mid : Progress) × (stamp : ℕ) × HearsFront old mid e stamps stamp × HearsAndGoesOn mid new e (Stamp stamp) asked)

-- the same, but the edge made no step after the next stamp was applied
abbrev pub AnswersRow : Progress → Progress → ℕ → List ℕ → Bool → Type 0
AnswersRow old new e stamps asked =
    (SweepsRow old new e stamps × (asked ≡ true))
    ⊎ ((mid : Progress) × (stamp : ℕ) × (told : Mark) × HearsFront old mid e stamps stamp × Applies mid new (Hear e (Stamp stamp)) told × (asked ≡ false))
