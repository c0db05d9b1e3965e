use Rattle.std.proofs.Common.{◌≡◌, ◌++◌, drop}
use Rattle.plan_reasons.specs.Replies.{stamps_in}
use Rattle.plan_reasons.proofs.observing.stamps_in.Given as goal

abbrev pub invariant-loop-reply : goal.invariant-loop-reply
invariant-loop-reply l = l.stamps.items ++ stamps_in (drop l.reply-index l.replies) ≡ stamps_in l.replies
