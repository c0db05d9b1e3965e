use Rattle.std.proofs.Common.{◌≡◌, [], ℕ, get_or, length}
use Rattle.plan_journal.proofs.edge_replies.extend.Given as goal

abbrev pub invariant-loop-number : goal.invariant-loop-number
invariant-loop-number l = (length l.lists.items ≡ l.number) × ((e : ℕ) → get_or l.lists.items e [] ≡ get_or l.fn.lists.items e [])
