use Rattle.plan_journal.specs.Drafts.{Draft}
use Rattle.std.proofs.Common.{ap, ◌∷◌, [], refl, sym}
use Rattle.std.proofs.lemmas.List.{append-nil}
use Rattle.plan_journal.specs.declared.sort.Sort.TheVariants as sort
use Rattle.plan_journal.proofs.ColumnLemmas.{events_more, fit_more, one_more}
use Rattle.plan_journal.proofs.column_builder.ColumnBuilder.push_whole.Goals as goal

pub invariant_of-self-2 : goal.invariant_of-self-2
invariant_of-self-2 c =
    let j = c.self.inside in
    fit_more j.sorts.items c.push_reserved.new.self.items j.edges.items c.push_reserved-2.new.self.items j.stamps.items j.stamps.items j.wholes.items c.push_reserved-3.new.self.items
    sort.Whole c.args.edge [] (c.args.event ∷ []) c.self.invariant
    (one_more c.push_reserved.new.self.items c.reserve.new.self.items j.sorts.items sort.Whole c.push_reserved.ensures.items c.reserve.ensures.items)
    (one_more c.push_reserved-2.new.self.items c.reserve-2.new.self.items j.edges.items c.args.edge c.push_reserved-2.ensures.items c.reserve-2.ensures.items)
    (sym (append-nil j.stamps.items))
    (one_more c.push_reserved-3.new.self.items c.reserve-3.new.self.items j.wholes.items c.args.event c.push_reserved-3.ensures.items c.reserve-3.ensures.items) refl refl

pub returns-clause-ok : goal.returns-clause-ok
returns-clause-ok c =
    let j = c.self.inside in
    events_more j.sorts.items c.push_reserved.new.self.items j.edges.items c.push_reserved-2.new.self.items j.stamps.items j.stamps.items j.wholes.items c.push_reserved-3.new.self.items
    sort.Whole c.args.edge [] (c.args.event ∷ []) c.args.self.now.events c.self.invariant
    (one_more c.push_reserved.new.self.items c.reserve.new.self.items j.sorts.items sort.Whole c.push_reserved.ensures.items c.reserve.ensures.items)
    (one_more c.push_reserved-2.new.self.items c.reserve-2.new.self.items j.edges.items c.args.edge c.push_reserved-2.ensures.items c.reserve-2.ensures.items)
    (sym (append-nil j.stamps.items))
    (one_more c.push_reserved-3.new.self.items c.reserve-3.new.self.items j.wholes.items c.args.event c.push_reserved-3.ensures.items c.reserve-3.ensures.items) (ap (λ (d : Draft). d.events) c.self.view_is)
