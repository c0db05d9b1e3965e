use Rattle.std.proofs.Common.{◌∙◌, ap, length}
use Rattle.plan_journal.specs.Drafts.{Draft}
use Rattle.plan_journal.proofs.ColumnLemmas.{length_events}
use Rattle.plan_journal.proofs.column_builder.ColumnBuilder.len.Goals as goal

pub returns : goal.returns
returns c =
    let j = c.self.inside in
    c.len.ensures ∙ (j.sorts.ok.0 ∙ (length_events j.sorts.items j.edges.items j.stamps.items j.wholes.items ∙ ap (λ (d : Draft). length d.events) c.self.view_is))
