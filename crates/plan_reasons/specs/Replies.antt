-- What an edge observed, by its replies in their order.
use Rattle.std.specs.Prelude.{ℕ, List, [], ◌∷◌, length, map, take, drop, Option, Some, None}
use Rattle.plan_compile.specs.Rule.{Recorded, paths_in}
use Rattle.plan_machine.specs.Recording.{Recording}
use Rattle.plan_machine.specs.declared.event.reply.Reply.{Reply}
use Rattle.plan_machine.specs.declared.event.reply.Reply.TheVariants as reply
use Rattle.plan_reasons.specs.declared.facts.NamedInput.{NamedInput}
use Rattle.plan_reasons.specs.declared.facts.NamedInput.TheVariants as input
use Rattle.plan_reasons.specs.declared.facts.Facts.{Facts}
use Rattle.plan_reasons.specs.declared.observed.Observed.{Observed}
use Rattle.plan_reasons.specs.Facts.{source_count}
use Rattle.plan_reasons.specs.Observing.{Observations}

-- ---- one reply

-- the stamp that a reply gives, or 0 if it gives none
abbrev pub stamp_in : Reply → ℕ
stamp_in (reply.Stamp n) = n
stamp_in _ = 0

abbrev pub stamps_in : List Reply → List ℕ
stamps_in replies = map stamp_in replies

abbrev pub recorded_in : Recording → Recorded
recorded_in r = record { command = r.command; basis = r.basis; paths = r.paths }

-- the entry that the first of these replies gives
abbrev pub entry_in : List Reply → Option Recorded
entry_in (reply.Entry r ∷ replies) = Some (recorded_in r)
entry_in _ = None

-- ---- named inputs

-- the stamp of an input: a source file's is the next reply
abbrev pub next_stamp : NamedInput → List Reply → ℕ
next_stamp (input.Made stamp changed) replies = stamp
next_stamp input.SourceFile [] = 0
next_stamp input.SourceFile (r ∷ replies) = stamp_in r

abbrev pub after_input : NamedInput → List Reply → List Reply
after_input (input.Made stamp changed) replies = replies
after_input input.SourceFile [] = []
after_input input.SourceFile (r ∷ replies) = replies

abbrev pub named_stamps : List NamedInput → List Reply → List ℕ
named_stamps [] replies = []
named_stamps (i ∷ others) replies = next_stamp i replies ∷ named_stamps others (after_input i replies)

-- ---- all replies, in the order of the questions

abbrev pub after_order_only : Facts → List Reply → List Reply
after_order_only facts replies = drop facts.order_only replies

abbrev pub after_named : Facts → List Reply → List Reply
after_named facts replies = drop (source_count facts.named) (after_order_only facts replies)

abbrev pub after_outputs : Facts → List Reply → List Reply
after_outputs facts replies = drop facts.outputs (after_named facts replies)

-- the observations that these replies are, of an edge with these facts
abbrev pub observed : Facts → List Reply → Observations
observed facts replies = record {
  order_only = stamps_in (take facts.order_only replies);
  named = named_stamps facts.named (after_order_only facts replies);
  outputs = stamps_in (take facts.outputs (after_named facts replies));
  entry = entry_in (after_outputs facts replies);
  recorded = stamps_in (take (length (paths_in (entry_in (after_outputs facts replies)))) (drop 1 (after_outputs facts replies)));
}

-- ---- the code's values

abbrev pub entry_seen : Option Recording → Option Recorded
entry_seen None = None
entry_seen (Some r) = Some (recorded_in r)

abbrev pub seen : Observed → Observations
seen o = record { order_only = o.order_only; named = o.named; outputs = o.outputs; entry = entry_seen o.entry; recorded = o.recorded }
