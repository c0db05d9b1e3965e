use Rattle.std.proofs.Common.{subst}
use Rattle.plan_journal.specs.declared.edge_replies.EdgeReplies.{EdgeReplies}
use Rattle.plan_journal.specs.EdgeReplies.{AreKnown}
use Rattle.plan_journal.proofs.ReplyLemmas.{known_reply, on_ok_then}
use Rattle.plan_journal.proofs.edge_replies.EdgeReplies.try_push.Goals as goal

pub returns-in-Known : goal.returns-in-Known
returns-in-Known c =
    on_ok_then c.add.result
    (λ more events known. known_reply c.in-Known.lists.items c.add.new.lists.items c.args.edge c.args.reply.now events (subst (λ (r : EdgeReplies). AreKnown r events) c.in-Known.is known) more)
    c.add.ensures
