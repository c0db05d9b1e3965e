use Rattle.std.proofs.Common.{sym}
use Rattle.plan_trace.proofs.EventsLemmas.{few}
use Rattle.plan_trace.proofs.events.event_of.Goals as goal

pub returns-in-len1 : goal.returns-in-len1
returns-in-len1 c = sym (few (λ w. w.now) c.args.words.now c.in-len1.len_below)
