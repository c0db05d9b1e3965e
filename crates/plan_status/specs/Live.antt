-- Marks on their way from lanes to who prints: what a feed has put into its ring, and what a tap has taken out of it.
use Rattle.std.specs.Prelude.{◌≡◌, ℕ, ◌≤◌, ◌+◌, List, [], ◌++◌, None, length, take}
use Rattle.rtrb.specs.Ring.{IsPair, SameConsumer, SameProducer, received, sent}
use Rattle.plan_image.specs.declared.image.Parts.{Parts}
use Rattle.plan_machine.specs.declared.event.Mark.{Mark}
use Rattle.plan_status.specs.declared.tap.Feed.{Feed}
use Rattle.plan_status.specs.declared.tap.Tap.{Tap}
use Rattle.plan_status.specs.declared.format.LineProgress.{LineProgress}
use Rattle.plan_status.specs.Consoles.{AreFree, HasLooked}

-- the two ends of one ring
abbrev pub AreEnds : Feed → Tap → Type 0
AreEnds f t = IsPair f.ring t.ring

-- the same end of the same ring, later
abbrev pub SameFeed : Feed → Feed → Type 0
SameFeed f g = SameProducer f.ring g.ring

abbrev pub SameTap : Tap → Tap → Type 0
SameTap t u = SameConsumer t.ring u.ring

-- What was put in is the first `shown` of these marks.
pub record IsFed (marks : List Mark) (f : Feed) : Type 0 where
  pub within : f.shown ≤ length marks
  pub sent : sent f.ring ≡ take f.shown marks

-- nothing was put in, or taken out
pub record IsUnused (f : Feed) : Type 0 where
  pub sent : sent f.ring ≡ []
  pub shown : f.shown ≡ 0

pub record IsUntapped (t : Tap) : Type 0 where
  pub received : received t.ring ≡ []
  pub stop : t.stop ≡ None

-- The feed has the first marks: at most those up to the last mark after which no console edge holds a job token, and the
-- one after it.
pub record IsLineProgress (p : Parts) (marks : List Mark) (s : LineProgress) : Type 0 where
  pub looked : HasLooked p marks s.consoles
  pub fed : IsFed marks s.feed
  pub behind : s.feed.shown ≤ s.consoles.free + 1

-- ---- laws

-- more marks may come
abbrev pub FeedStays : Type 0
FeedStays = (marks more : List Mark) (f : Feed) → IsFed marks f → IsFed (marks ++ more) f

abbrev pub LineProgressStays : Type 0
LineProgressStays = (p : Parts) (marks more : List Mark) (s : LineProgress) → IsLineProgress p marks s → IsLineProgress p (marks ++ more) s

-- a feed into which nothing was put fits any run
abbrev pub UnusedIsFed : Type 0
UnusedIsFed = (marks : List Mark) (f : Feed) → IsUnused f → IsFed marks f

-- what is shown is free, but for one mark after the free ones
abbrev pub ShownIsFree : Type 0
ShownIsFree = (p : Parts) (marks : List Mark) (s : LineProgress) (n : ℕ) → IsLineProgress p marks s → AreFree p marks n → s.feed.shown ≤ n + 1

-- ends stay ends, and the same end stays the same
abbrev pub EndsStay : Type 0
EndsStay = (f g : Feed) (t u : Tap) → AreEnds f t → SameFeed f g → SameTap t u → AreEnds g u

abbrev pub FeedsJoin : Type 0
FeedsJoin = (f g h : Feed) → SameFeed f g → SameFeed g h → SameFeed f h
