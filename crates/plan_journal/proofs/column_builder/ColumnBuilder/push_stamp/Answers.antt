use Rattle.plan_journal.specs.Drafts.{Draft}
use Rattle.std.proofs.Common.{ap, ◌∷◌, [], refl, sym}
use Rattle.std.proofs.lemmas.List.{append-nil}
use Rattle.plan_journal.specs.declared.sort.Sort.TheVariants as sort
use Rattle.plan_journal.proofs.ColumnLemmas.{events_more, fit_more, one_more}
use Rattle.plan_journal.proofs.column_builder.ColumnBuilder.push_stamp.Goals as goal

pub invariant_of-self-2 : goal.invariant_of-self-2
invariant_of-self-2 c =
    let j = c.self.inside in
    fit_more j.sorts.items c.push_reserved.new.self.items j.edges.items c.push_reserved-2.new.self.items j.stamps.items c.push_reserved-3.new.self.items j.wholes.items j.wholes.items
    sort.Stamp c.args.edge (c.args.stamp ∷ []) [] c.self.invariant
    (one_more c.push_reserved.new.self.items c.reserve.new.self.items j.sorts.items sort.Stamp c.push_reserved.ensures.items c.reserve.ensures.items)
    (one_more c.push_reserved-2.new.self.items c.reserve-2.new.self.items j.edges.items c.args.edge c.push_reserved-2.ensures.items c.reserve-2.ensures.items)
    (one_more c.push_reserved-3.new.self.items c.reserve-3.new.self.items j.stamps.items c.args.stamp c.push_reserved-3.ensures.items c.reserve-3.ensures.items)
    (sym (append-nil j.wholes.items)) refl refl

pub returns-clause-ok : goal.returns-clause-ok
returns-clause-ok c =
    let j = c.self.inside in
    events_more j.sorts.items c.push_reserved.new.self.items j.edges.items c.push_reserved-2.new.self.items j.stamps.items c.push_reserved-3.new.self.items j.wholes.items j.wholes.items
    sort.Stamp c.args.edge (c.args.stamp ∷ []) [] c.args.self.now.events c.self.invariant
    (one_more c.push_reserved.new.self.items c.reserve.new.self.items j.sorts.items sort.Stamp c.push_reserved.ensures.items c.reserve.ensures.items)
    (one_more c.push_reserved-2.new.self.items c.reserve-2.new.self.items j.edges.items c.args.edge c.push_reserved-2.ensures.items c.reserve-2.ensures.items)
    (one_more c.push_reserved-3.new.self.items c.reserve-3.new.self.items j.stamps.items c.args.stamp c.push_reserved-3.ensures.items c.reserve-3.ensures.items)
    (sym (append-nil j.wholes.items)) (ap (λ (d : Draft). d.events) c.self.view_is)
