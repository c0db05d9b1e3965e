use Rattle.std.proofs.Common.{◌++◌, ◌+◌, List, Option, ℕ, true, refl, drop}
use Rattle.std.specs.List.{flat_map}
use Rattle.plan_machine.specs.declared.event.Event.{Event}
use Rattle.plan_trace.specs.Spelling.{event_line}
use Rattle.plan_trace.proofs.WritingLemmas.{one_more, stops}
use Rattle.plan_trace.proofs.writing.write_events.Goals as goal

pub returns-in-Err : goal.returns-in-Err
returns-in-Err g c =
    let so_far = c.loop-event.invariant in
    let items = c.args.events.now in
    let i = c.loop-event.event-index in
    let item : Event = c.event-item.result in
    let old : ℕ × Option (List ℕ) = (g.W.Sink.failures c.args.out.now, g.W.Sink.taken c.args.out.now) in
    let mid : ℕ × Option (List ℕ) = (g.W.Sink.failures c.loop-event.out, g.W.Sink.taken c.loop-event.out) in
    let new : ℕ × Option (List ℕ) = (g.W.Sink.failures c.write_event.new.out, g.W.Sink.taken c.write_event.new.out) in
    stops c.writes_join.ensures.join c.writes_join.ensures.failed old mid new so_far.0 (event_line item) (flat_map event_line (drop (i + 1) items)) (flat_map event_line items)
    (one_more event_line (flat_map event_line) (λ y ys. refl) items i item c.event-item.result so_far.0 c.loop-event-test.true c.event-item.is so_far.1) so_far.2 c.in-Err.ensures

pub loop-event-preserved : goal.loop-event-preserved
loop-event-preserved g c =
    let so_far = c.loop-event.invariant in
    let items = c.args.events.now in
    let i = c.loop-event.event-index in
    let item : Event = c.event-item.result in
    let old : ℕ × Option (List ℕ) = (g.W.Sink.failures c.args.out.now, g.W.Sink.taken c.args.out.now) in
    let mid : ℕ × Option (List ℕ) = (g.W.Sink.failures c.loop-event.out, g.W.Sink.taken c.loop-event.out) in
    let new : ℕ × Option (List ℕ) = (g.W.Sink.failures c.write_event.new.out, g.W.Sink.taken c.write_event.new.out) in (
      so_far.0 ++ event_line item,
      one_more event_line (flat_map event_line) (λ y ys. refl) items i item c.event-item.result so_far.0 c.loop-event-test.true c.event-item.is so_far.1,
      c.writes_join.ensures.join true old mid new so_far.0 (event_line item) so_far.2 c.in-Ok.ensures,
    )
