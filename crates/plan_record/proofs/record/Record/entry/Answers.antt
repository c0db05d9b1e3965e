use Rattle.std.proofs.Common.{◌++◌, ◌≡◌, ◌∙◌, List, Option, ap, subst}
use Rattle.std.specs.Prelude.{IfOk, slice_get}
use Rattle.plan_record.specs.Entries.{EntryData, last_of}
use Rattle.plan_record.proofs.RecordLemmas.{none_numbered, numbered_last}
use Rattle.plan_record.proofs.record.Record.entry.Goals as goal

pub returns-in-Some : goal.returns-in-Some
returns-in-Some c =
    let entries : List EntryData = c.self.inside.loaded.items ++ c.self.inside.added in
    let last = numbered_last c.args.output.now c.self.inside.numbers.entries entries c.in-Some.number.now c.self.invariant.index c.in-Some.ensures.value in
    let found : slice_get (c.deref.result.now ++ c.self.inside.added) c.in-Some.number.now ≡ last_of c.args.output.now c.args.self.now =
    ap (λ (es : List EntryData). slice_get (es ++ c.self.inside.added) c.in-Some.number.now) c.deref.ensures.value ∙ last ∙ ap (last_of c.args.output.now) c.self.view_is in
    subst (λ (o : Option EntryData). IfOk c.nth_entry.result (λ entry. entry ≡ o)) found c.nth_entry.ensures

pub returns-in-None : goal.returns-in-None
returns-in-None c =
    none_numbered c.args.output.now c.self.inside.numbers.entries (c.self.inside.loaded.items ++ c.self.inside.added) c.self.invariant.index c.in-None.ensures.value
    ∙ ap (last_of c.args.output.now) c.self.view_is
