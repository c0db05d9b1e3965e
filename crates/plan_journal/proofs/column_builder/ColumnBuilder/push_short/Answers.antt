use Rattle.plan_journal.specs.Drafts.{Draft}
use Rattle.std.proofs.Common.{ap, [], sym}
use Rattle.std.proofs.lemmas.List.{append-nil}
use Rattle.plan_journal.proofs.ColumnLemmas.{events_more, fit_more, one_more}
use Rattle.plan_journal.proofs.column_builder.ColumnBuilder.push_short.Goals as goal

pub invariant_of-self-2 : goal.invariant_of-self-2
invariant_of-self-2 c =
    let j = c.self.inside in
    fit_more j.sorts.items c.push_reserved.new.self.items j.edges.items c.push_reserved-2.new.self.items j.stamps.items j.stamps.items j.wholes.items j.wholes.items
    c.args.sort c.args.edge [] [] c.self.invariant
    (one_more c.push_reserved.new.self.items c.reserve.new.self.items j.sorts.items c.args.sort c.push_reserved.ensures.items c.reserve.ensures.items)
    (one_more c.push_reserved-2.new.self.items c.reserve-2.new.self.items j.edges.items c.args.edge c.push_reserved-2.ensures.items c.reserve-2.ensures.items)
    (sym (append-nil j.stamps.items)) (sym (append-nil j.wholes.items)) (sym c.requires.stamps) (sym c.requires.wholes)

pub returns-clause-ok : goal.returns-clause-ok
returns-clause-ok c =
    let j = c.self.inside in
    events_more j.sorts.items c.push_reserved.new.self.items j.edges.items c.push_reserved-2.new.self.items j.stamps.items j.stamps.items j.wholes.items j.wholes.items
    c.args.sort c.args.edge [] [] c.args.self.now.events c.self.invariant
    (one_more c.push_reserved.new.self.items c.reserve.new.self.items j.sorts.items c.args.sort c.push_reserved.ensures.items c.reserve.ensures.items)
    (one_more c.push_reserved-2.new.self.items c.reserve-2.new.self.items j.edges.items c.args.edge c.push_reserved-2.ensures.items c.reserve-2.ensures.items)
    (sym (append-nil j.stamps.items)) (sym (append-nil j.wholes.items)) (ap (λ (d : Draft). d.events) c.self.view_is)
