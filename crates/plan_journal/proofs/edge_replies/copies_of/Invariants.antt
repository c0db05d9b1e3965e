use Rattle.std.proofs.Common.{◌≡◌, take}
use Rattle.plan_journal.proofs.edge_replies.copies_of.Given as goal

abbrev pub invariant-loop-reply : goal.invariant-loop-reply
invariant-loop-reply l = l.copies.items ≡ take l.reply-index l.replies
