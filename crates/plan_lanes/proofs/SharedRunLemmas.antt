-- Invariants of what lanes share under their lock. Serves src/shared_run.rt and src/lanes.rt.
use Rattle.std.proofs.Common.{◌≡◌, List, ◌++◌, Option, Some, None, refl, sym, ap, subst, ◌∙◌}
use Rattle.std.specs.Prelude.{IfOk, OnErr, Result, Ok, Err}
use Rattle.plan_image.specs.declared.image.Parts.{Parts}
use Rattle.plan_machine.specs.declared.event.Event.{Event}
use Rattle.plan_machine.specs.declared.event.Mark.{Mark}
use Rattle.plan_machine.specs.declared.run.refused.Refused.{Refused}
use Rattle.plan_status.specs.declared.tap.Feed.{Feed}
use Rattle.plan_status.specs.declared.format.LineProgress.{LineProgress}
use Rattle.plan_status.specs.Live.{FeedsJoin, IsFed, IsLineProgress, SameFeed, LineProgressStays}
use Rattle.plan_lanes.specs.declared.board.Report.{Report}
use Rattle.plan_lanes.specs.declared.fault.LaneFault.{LaneFault}
use Rattle.plan_lanes.specs.declared.fault.LaneFault.TheVariants.{Opening, NotEnabled, NoMemory, NoLane, OtherBoard}
use Rattle.plan_lanes.specs.Boards.{Applies}
use Rattle.plan_lanes.specs.SharedRuns.{FaultIsFed, IsSharedRun, IsLeft, IsNamed, ReportIsFed, Shows}
use Rattle.plan_lanes.specs.Faults.{FaultReports, report_of}
use Rattle.plan_lanes.specs.Journals.{Rule}
use Rattle.plan_lanes.specs.Progress.{Opened, Progress}
use Rattle.plan_lanes.specs.Reports.{IsRunOf}
use Rattle.plan_lanes.specs.LocalRuns.{AppliesAll, GoesOn}
use Rattle.plan_lanes.specs.ObservableMarks.{observable}
use Rattle.plan_lanes.proofs.LocalRunLemmas.{goes_none, goes_one}

-- ---- events more

shows_after : LineProgressStays → (named : Option Feed) (old new : Progress) (events : List Event) (told : List Mark) (s : LineProgress) → AppliesAll old new events told → Shows named old s → Shows named new s
shows_after stays named old new events told s h shows =
    let parts : old.opened.parts ≡ new.opened.parts = ap (λ (o : Opened). o.parts) (sym h.opened) in
    let on : IsLineProgress old.opened.parts (old.marks ++ observable told) s = stays old.opened.parts old.marks (observable told) s shows.marks in
    let marked : IsLineProgress old.opened.parts new.marks s = subst (λ (ms : List Mark). IsLineProgress old.opened.parts ms s) (sym h.marks) on in
    record {
      marks = subst (λ (p : Parts). IsLineProgress p new.marks s) parts marked;
      feed = shows.feed;
    }

-- after an advance, or a reply
pub shared_run_goes : LineProgressStays → (run : Opened) (named : Option Feed) (old new : Progress) (line_progress : Option LineProgress) → GoesOn old new → IsSharedRun run named old line_progress → IsSharedRun run named new line_progress
shared_run_goes stays run named old new None h shared = record { run = h.applies.opened ∙ shared.run; there = shared.there; shows = shared.shows }
shared_run_goes stays run named old new (Some s) h shared =
    record { run = h.applies.opened ∙ shared.run; there = shared.there; shows = shows_after stays named old new h.events h.told s h.applies shared.shows }

pub answered_so : LineProgressStays → (run : Opened) (named : Option Feed) (old new : Progress) (event : Event) (also : Type 0) (result : Result Mark Refused) (line_progress : Option LineProgress)
    → IfOk result (λ told. Applies old new event told × also) → OnErr result (new ≡ old) → IsSharedRun run named old line_progress → IsSharedRun run named new line_progress
answered_so stays run named old new event also (Ok told) line_progress ok err shared = shared_run_goes stays run named old new line_progress (goes_one old new event told ok.0) shared
answered_so stays run named old new event also (Err refused) line_progress ok err shared = shared_run_goes stays run named old new line_progress (goes_none old new err) shared

-- ---- feeds

same_self : (f : Feed) → SameFeed f f
same_self f = ((refl, refl, refl, refl), refl)

-- a feed that is named stays the one
pub named_on : FeedsJoin → (named : Option Feed) (f g : Feed) → IsNamed named f → SameFeed f g → IsNamed named g
named_on joins None f g is same = tt
named_on joins (Some named) f g is same = joins named f g is same

-- nothing is shown yet
pub shared_run_begins : (run : Opened) (b : Progress) (s : LineProgress) → b.opened ≡ run → IsLineProgress b.opened.parts b.marks s → IsSharedRun run (Some s.feed) b (Some s)
shared_run_begins run b s is marks = record { run = is; there = refl; shows = record { marks = marks; feed = same_self s.feed } }

pub shared_run_silent : (run : Opened) (b : Progress) → b.opened ≡ run → IsSharedRun run None b None
shared_run_silent run b is = record { run = is; there = refl; shows = tt }

-- ---- what is left

-- a fault with a report
pub fault_reports : (rule : Rule) (o : Opened) (r : Report) (f : LaneFault) → report_of f ≡ Some r → IsRunOf rule o r → FaultReports rule o f
fault_reports rule o r (Opening refused) is run = absurd cc
fault_reports rule o r (NotEnabled s) is run = let same : s ≡ r = cc in subst (IsRunOf rule o) (sym same) run
fault_reports rule o r (NoMemory s) is run = let same : s ≡ r = cc in subst (IsRunOf rule o) (sym same) run
fault_reports rule o r (NoLane s) is run = let same : s ≡ r = cc in subst (IsRunOf rule o) (sym same) run
fault_reports rule o r (OtherBoard s) is run = let same : s ≡ r = cc in subst (IsRunOf rule o) (sym same) run

pub fault_is_fed : (r : Report) (f : LaneFault) (feed : Feed) → report_of f ≡ Some r → ReportIsFed r feed → FaultIsFed f feed
fault_is_fed r (Opening refused) feed is fed = absurd cc
fault_is_fed r (NotEnabled s) feed is fed = let same : s ≡ r = cc in subst (λ (x : Report). ReportIsFed x feed) (sym same) fed
fault_is_fed r (NoMemory s) feed is fed = let same : s ≡ r = cc in subst (λ (x : Report). ReportIsFed x feed) (sym same) fed
fault_is_fed r (NoLane s) feed is fed = let same : s ≡ r = cc in subst (λ (x : Report). ReportIsFed x feed) (sym same) fed
fault_is_fed r (OtherBoard s) feed is fed = let same : s ≡ r = cc in subst (λ (x : Report). ReportIsFed x feed) (sym same) fed

-- what showed a run has the marks of its report
pub left_of : (named : Option Feed) (b : Progress) (r : Report) (s : LineProgress) → r.marks.items ≡ b.marks → Shows named b s → IsLeft named r s
left_of named b r s marks shows = record {
  fed = subst (λ (ms : List Mark). IsFed ms s.feed) (sym marks) shows.marks.fed;
  feed = shows.feed;
}
