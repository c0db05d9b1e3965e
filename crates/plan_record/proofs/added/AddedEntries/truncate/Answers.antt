use Rattle.std.proofs.Common.{◌∙◌, List, ap, subst, sym, take}
use Rattle.plan_record.specs.Added.{AreHeld, entries_from}
use Rattle.plan_record.specs.Entries.{EntryData}
use Rattle.plan_record.proofs.AddedLemmas.{entries_taken, held_taken}
use Rattle.plan_record.proofs.added.AddedEntries.truncate.Goals as goal

pub invariant_of-self : goal.invariant_of-self
invariant_of-self c =
    subst (AreHeld c.self.inside.chunks) (sym c.truncate.ensures) (held_taken c.self.inside.chunks c.args.count c.self.inside.numbers c.self.invariant)

pub returns : goal.returns
returns c =
    ap (entries_from c.self.inside.chunks) c.truncate.ensures ∙ entries_taken c.self.inside.chunks c.args.count c.self.inside.numbers
    ∙ ap (λ (es : List EntryData). take c.args.count es) c.self.view_is
