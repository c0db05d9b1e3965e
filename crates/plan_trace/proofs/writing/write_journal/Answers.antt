use Rattle.std.proofs.Common.{◌++◌, List, Option, ℕ, true}
use Rattle.std.specs.List.{flat_map}
use Rattle.plan_machine.specs.declared.event.Event.{Event}
use Rattle.plan_trace.specs.Spelling.{event_line}
use Rattle.plan_trace.proofs.WritingLemmas.{first_more, stops}
use Rattle.plan_trace.proofs.writing.write_journal.Goals as goal

pub loop-event-preserved : goal.loop-event-preserved
loop-event-preserved g c =
    let so_far = c.loop-event.invariant in
    let item : Event = c.in-Some.event in
    let old : ℕ × Option (List ℕ) = (g.W.Sink.failures c.args.out.now, g.W.Sink.taken c.args.out.now) in
    let mid : ℕ × Option (List ℕ) = (g.W.Sink.failures c.loop-event.out, g.W.Sink.taken c.loop-event.out) in
    let new : ℕ × Option (List ℕ) = (g.W.Sink.failures c.write_read.new.out, g.W.Sink.taken c.write_read.new.out) in
    let whole = first_more event_line c.loop-event.rest c.in-Some.behind item so_far.0 (flat_map event_line c.args.journal.now) c.in-Some.ensures.some so_far.1 in (
      so_far.0 ++ event_line item,
      whole,
      c.writes_join.ensures.join true old mid new so_far.0 (event_line item) so_far.2 c.in-Ok.ensures,
    )

pub returns-in-Err : goal.returns-in-Err
returns-in-Err g c =
    let so_far = c.loop-event.invariant in
    let item : Event = c.in-Some.event in
    let old : ℕ × Option (List ℕ) = (g.W.Sink.failures c.args.out.now, g.W.Sink.taken c.args.out.now) in
    let mid : ℕ × Option (List ℕ) = (g.W.Sink.failures c.loop-event.out, g.W.Sink.taken c.loop-event.out) in
    let new : ℕ × Option (List ℕ) = (g.W.Sink.failures c.write_read.new.out, g.W.Sink.taken c.write_read.new.out) in
    let whole = first_more event_line c.loop-event.rest c.in-Some.behind item so_far.0 (flat_map event_line c.args.journal.now) c.in-Some.ensures.some so_far.1 in
    stops c.writes_join.ensures.join c.writes_join.ensures.failed old mid new so_far.0 (event_line item) (flat_map event_line c.in-Some.behind) (flat_map event_line c.args.journal.now) whole so_far.2 c.in-Err.ensures
