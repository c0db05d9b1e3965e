-- The replies that a journal has of each edge.
use Rattle.std.specs.Prelude.{◌≡◌, ℕ, List, [], ◌∷◌, ◌==◌, if◌then◌else◌, get_or}
use Rattle.plan_machine.specs.declared.event.Event.{Event}
use Rattle.plan_machine.specs.declared.event.reply.Reply.{Reply}
use Rattle.plan_machine.specs.Agreement.{replies_to}
use Rattle.plan_journal.specs.declared.edge_replies.EdgeReplies.{EdgeReplies}
use Rattle.plan_journal.specs.declared.edge_replies.EdgeReplies.TheVariants.{Unknown, Known}

-- the replies of edge e if edge f received this reply
abbrev pub replies_for : ℕ → ℕ → Reply → List Reply
replies_for e f r = if f == e then r ∷ [] else []

-- If lists are known, the list of each edge has the replies that it received by these events.
abbrev pub AreKnown : EdgeReplies → List Event → Type 0
AreKnown (Known lists) events = (e : ℕ) → get_or lists.items e [] ≡ replies_to e events
AreKnown Unknown events = Unit {0}
