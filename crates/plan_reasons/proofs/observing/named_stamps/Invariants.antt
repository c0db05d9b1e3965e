use Rattle.std.proofs.Common.{◌≡◌, ◌++◌, drop}
use Rattle.plan_reasons.specs.Replies.{named_stamps}
use Rattle.plan_reasons.proofs.observing.named_stamps.Given as goal

abbrev pub invariant-loop-input : goal.invariant-loop-input
invariant-loop-input l = l.stamps.items ++ named_stamps (drop l.input-index l.named) l.rest ≡ named_stamps l.named l.replies
