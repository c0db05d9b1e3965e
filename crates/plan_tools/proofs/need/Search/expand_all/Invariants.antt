use Rattle.std.proofs.Common.{ℕ, ◌<◌, length, get_or}
use Rattle.plan_tools.specs.Need.{IsExpanded, MeetsMore}
use Rattle.plan_tools.proofs.need.Search.expand_all.Given as goal

-- the paths of the queue so far are expanded
abbrev pub invariant-loop-number : goal.invariant-loop-number
invariant-loop-number l = MeetsMore l.fn.self l.self × ((k : ℕ) → k < l.number → k < length l.self.queue → IsExpanded l.self (get_or l.self.queue k 0))
