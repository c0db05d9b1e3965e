use Rattle.std.proofs.Common.{◌∷◌, [], ap, refl, sym}
use Rattle.std.proofs.lemmas.List.{append-nil}
use Rattle.plan_journal.specs.declared.sort.Sort.TheVariants as sort
use Rattle.plan_journal.specs.Drafts.{Draft}
use Rattle.plan_journal.proofs.ColumnLemmas.{events_more, fit_more}
use Rattle.plan_journal.proofs.column_builder.ColumnBuilder.push_stamp_within.Goals as goal

pub invariant_of-self : goal.invariant_of-self
invariant_of-self c =
    let j = c.self.inside in
    fit_more j.sorts.items c.push_reserved.new.self.items j.edges.items c.push_reserved-2.new.self.items j.stamps.items c.push_reserved-3.new.self.items j.wholes.items j.wholes.items
    sort.Stamp c.args.edge (c.args.stamp ∷ []) [] c.self.invariant c.push_reserved.ensures.items c.push_reserved-2.ensures.items c.push_reserved-3.ensures.items
    (sym (append-nil j.wholes.items)) refl refl

pub returns-clause-events : goal.returns-clause-events
returns-clause-events c =
    let j = c.self.inside in
    events_more j.sorts.items c.push_reserved.new.self.items j.edges.items c.push_reserved-2.new.self.items j.stamps.items c.push_reserved-3.new.self.items j.wholes.items j.wholes.items
    sort.Stamp c.args.edge (c.args.stamp ∷ []) [] c.args.self.now.events c.self.invariant c.push_reserved.ensures.items c.push_reserved-2.ensures.items c.push_reserved-3.ensures.items
    (sym (append-nil j.wholes.items)) (ap (λ (d : Draft). d.events) c.self.view_is)
