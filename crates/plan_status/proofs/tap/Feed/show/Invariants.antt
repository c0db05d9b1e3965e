use Rattle.std.proofs.Common.{◌≡◌, ◌≤◌}
use Rattle.plan_status.specs.Live.{IsFed, SameFeed}
use Rattle.plan_status.proofs.tap.Feed.show.Given as goal

abbrev pub invariant-loop-at : goal.invariant-loop-at
invariant-loop-at l = IsFed l.marks l.self × (l.self.shown ≡ l.at) × SameFeed l.fn.self l.self × (l.fn.self.shown ≤ l.at)
