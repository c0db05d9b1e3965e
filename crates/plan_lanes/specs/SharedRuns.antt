-- The state that lanes share under their lock.
use Rattle.std.specs.Prelude.{◌≡◌, Option, Some, None, IfSome, is_some}
use Rattle.plan_status.specs.declared.tap.Feed.{Feed}
use Rattle.plan_status.specs.declared.format.LineProgress.{LineProgress}
use Rattle.plan_status.specs.Live.{IsFed, IsLineProgress, IsUnused, SameFeed}
use Rattle.plan_lanes.specs.declared.board.Report.{Report}
use Rattle.plan_lanes.specs.declared.fault.LaneFault.{LaneFault}
use Rattle.plan_lanes.specs.declared.fault.LaneFault.TheVariants.{Opening, NotEnabled, NoMemory, NoLane, OtherBoard}
use Rattle.plan_lanes.specs.declared.shared_run.Stopped.{Stopped}
use Rattle.plan_lanes.specs.Progress.{Opened, Progress}

-- a feed is the named feed at a later time
abbrev pub IsNamed : Option Feed → Feed → Type 0
IsNamed (Some named) f = SameFeed named f
IsNamed None f = Unit {0}

-- a prefix of the marks of a run, or all of them, were put into the named feed
pub record Shows (named : Option Feed) (b : Progress) (s : LineProgress) : Type 0 where
  pub marks : IsLineProgress b.opened.parts b.marks s
  pub feed : IsNamed named s.feed

-- what a contract sees: the run so far, and why lanes stop
pub record Shared : Type 0 where
  pub run : Progress
  pub stopped : Stopped

-- the board has the named run; its marks are shown if a feed is named
pub record IsSharedRun (o : Opened) (named : Option Feed) (b : Progress) (line_progress : Option LineProgress) : Type 0 where
  pub run : b.opened ≡ o
  pub there : is_some line_progress ≡ is_some named
  pub shows : IfSome line_progress (λ s. Shows named b s)

-- an open run, and the feed that gets its marks
pub record Ready : Type 0 where
  pub opened : Opened
  pub feed : Feed

abbrev pub ready : Opened → Feed → Ready
ready o f = record { opened = o; feed = f }

-- ---- feeds after a run

-- the feed has a prefix of the marks of a report, or all of them
abbrev pub ReportIsFed : Report → Feed → Type 0
ReportIsFed r f = IsFed r.marks.items f

-- the same for a fault, whose report may be missing: if no run was opened, the feed is unused
abbrev pub FaultIsFed : LaneFault → Feed → Type 0
FaultIsFed (Opening refused) f = IsUnused f
FaultIsFed (NotEnabled r) f = ReportIsFed r f
FaultIsFed (NoMemory r) f = ReportIsFed r f
FaultIsFed (NoLane r) f = ReportIsFed r f
FaultIsFed (OtherBoard r) f = ReportIsFed r f

-- the feed of a line progress has them, and is the named feed at a later time
pub record IsLeft (named : Option Feed) (r : Report) (s : LineProgress) : Type 0 where
  pub fed : ReportIsFed r s.feed
  pub feed : IsNamed named s.feed
