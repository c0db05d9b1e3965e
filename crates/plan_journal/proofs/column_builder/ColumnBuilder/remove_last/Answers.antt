use Rattle.plan_journal.specs.Drafts.{Draft}
use Rattle.std.proofs.Common.{ap, arith}
use Rattle.plan_journal.proofs.ColumnLemmas.{events_less, fit_less, room_stamps, room_wholes}
use Rattle.plan_journal.proofs.column_builder.ColumnBuilder.remove_last.Goals as goal

pub overflow_sub-stamps : goal.overflow_sub-stamps
overflow_sub-stamps c =
    let j = c.self.inside in
    let room = room_stamps c.pop.new.self.items j.sorts.items j.edges.items j.stamps.items j.wholes.items c.in-Some.sort c.self.invariant c.in-Some.ensures.items in
    omega (arith, room, c.stamps.ensures, c.len-2.ensures, j.stamps.ok.0)

pub overflow_sub-wholes : goal.overflow_sub-wholes
overflow_sub-wholes c =
    let j = c.self.inside in
    let room = room_wholes c.pop.new.self.items j.sorts.items j.edges.items j.stamps.items j.wholes.items c.in-Some.sort c.self.invariant c.in-Some.ensures.items in
    omega (arith, room, c.wholes.ensures, c.len-3.ensures, j.wholes.ok.0)

pub invariant_of-self-2 : goal.invariant_of-self-2
invariant_of-self-2 c =
    let j = c.self.inside in
    rw (c.truncate.ensures.items, c.truncate-2.ensures.items, c.truncate-3.ensures.items, c.len.ensures, c.len-2.ensures, c.len-3.ensures, c.stamps.ensures, c.wholes.ensures, c.pop.new.self.ok.0, j.stamps.ok.0, j.wholes.ok.0)
    (fit_less c.pop.new.self.items j.sorts.items j.edges.items j.stamps.items j.wholes.items c.in-Some.sort c.self.invariant c.in-Some.ensures.items)

pub returns : goal.returns
returns c =
    let j = c.self.inside in
    rw (c.truncate.ensures.items, c.truncate-2.ensures.items, c.truncate-3.ensures.items, c.len.ensures, c.len-2.ensures, c.len-3.ensures, c.stamps.ensures, c.wholes.ensures, c.pop.new.self.ok.0, j.stamps.ok.0, j.wholes.ok.0)
    (events_less c.pop.new.self.items j.sorts.items j.edges.items j.stamps.items j.wholes.items c.in-Some.sort c.args.self.now.events c.self.invariant c.in-Some.ensures.items (ap (λ (d : Draft). d.events) c.self.view_is))
