use Rattle.std.proofs.Common.{◌∙◌, ap, length, List}
use Rattle.plan_machine.specs.declared.event.Event.{Event}
use Rattle.plan_journal.proofs.ColumnLemmas.{length_events}
use Rattle.plan_journal.proofs.kept_journal.KeptJournal.len.Goals as goal

pub returns : goal.returns
returns c =
    let j = c.self.inside in
    c.len.ensures ∙ (j.sorts.ok.0 ∙ (length_events j.sorts.items j.edges.items j.stamps.items j.wholes.items ∙ ap (λ (l : List Event). length l) c.self.view_is))
