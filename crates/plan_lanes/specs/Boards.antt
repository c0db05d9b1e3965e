-- What a board does, and what it keeps.
use Rattle.std.specs.Prelude.{◌≡◌, ℕ, List, [], ◌∷◌, ◌++◌, Some, false, length, slice_get}
use Rattle.plan_verify.specs.Turn.{Local, Request}
use Rattle.plan_machine.specs.declared.event.Event.{Event}
use Rattle.plan_machine.specs.declared.event.Event.TheVariants.{Reply as Hear}
use Rattle.plan_machine.specs.declared.event.Mark.{Mark}
use Rattle.plan_machine.specs.declared.event.reply.Reply.{Reply}
use Rattle.plan_machine.specs.Depfile.{depfile}
use Rattle.plan_machine.specs.Kept.{Running, IsStateOf}
use Rattle.plan_machine.specs.Requests.{asked_at}
use Rattle.plan_machine.specs.Runs.{Opens, Reached}
use Rattle.plan_machine.specs.State.{Active}
use Rattle.plan_machine.specs.Step.{Next, step}
use Rattle.plan_machine.specs.Wanted.{any_outside}
use Rattle.plan_lanes.specs.Journals.{Rule, IsLastOf, IsAllowed}
use Rattle.plan_lanes.specs.Progress.{Opened, Progress}
use Rattle.plan_lanes.specs.ObservableMarks.{observable}

-- nothing has happened yet
pub record IsFresh (o : Opened) (b : Progress) : Type 0 where
  pub inside : any_outside o.parts o.targets ≡ false
  pub opened : b.opened ≡ o
  pub opens : Opens o.parts o.targets b.state
  pub journal : b.journal ≡ []
  pub marks : b.marks ≡ []

-- one more event was applied and journaled, and its mark was kept if it is observable
pub record Applies (old new : Progress) (event : Event) (mark : Mark) : Type 0 where
  pub opened : new.opened ≡ old.opened
  pub next : step depfile old.opened.parts old.opened.limits old.state event ≡ Next new.state mark
  pub journal : new.journal ≡ old.journal ++ event ∷ []
  pub marks : new.marks ≡ old.marks ++ observable (mark ∷ [])

-- an edge awaits the reply to exactly this request, which the event at this position made
pub record IsOpen (b : Progress) (e number : ℕ) (q : Request) : Type 0 where
  pub asked : asked_at b.opened.parts b.state e ≡ Some q
  pub position : IsLastOf e number b.journal

-- the last event of an edge that is under way is at this position
abbrev pub IsNumbered : Progress → ℕ → ℕ → Type 0
IsNumbered b e number = (l : Local) → slice_get b.state.edges e ≡ Some (Active l) → IsLastOf e number b.journal

-- ---- what a board keeps

-- the position of the last event of each edge that is under way is known
abbrev pub AreNumbers : List ℕ → Progress → Type 0
AreNumbers numbers b = (e : ℕ) (l : Local) → slice_get b.state.edges e ≡ Some (Active l) → (n : ℕ) × (slice_get numbers e ≡ Some n) × IsLastOf e n b.journal

-- The journal leads from an opening to the state, and is allowed. The board keeps the observable marks of its events.
pub record IsJournaled (rule : Rule) (b : Progress) : Type 0 where
  pub left : List Mark
  pub reached : Reached depfile b.opened.parts b.opened.limits b.opened.targets b.journal left b.state
  pub kept : b.marks ≡ observable left
  pub allowed : IsAllowed rule b.opened.parts b.opened.limits b.opened.targets b.journal

pub record IsKept (rule : Rule) (numbers : List ℕ) (r : Running) (b : Progress) : Type 0 where
  pub inside : any_outside b.opened.parts b.opened.targets ≡ false
  pub journaled : IsJournaled rule b
  pub numbered : AreNumbers numbers b
  pub all : length numbers ≡ length b.opened.parts.edges
  pub state : IsStateOf b.opened.parts r

-- the event isn't a reply, or the rule allows the reply for the open question
abbrev pub MayJournal : Rule → Progress → Event → Type 0
MayJournal rule b event =
    (e : ℕ) (r : Reply) (q : Request) (n : ℕ) → event ≡ Hear e r → asked_at b.opened.parts b.state e ≡ Some q → IsLastOf e n b.journal → rule n q r
