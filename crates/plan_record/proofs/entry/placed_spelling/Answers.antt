use Rattle.std.proofs.Common.{sym, ◌∙◌, ap, subst, arith}
use Rattle.plan_record.proofs.EntryLemmas.{IsBytes, IsBytes-drop}
use Rattle.plan_record.specs.Entries.{spelling}
use Rattle.plan_record.specs.Entry.{data_of}
use Rattle.plan_record.specs.Reading.{entry_at}
use Rattle.plan_record.proofs.PlacedLemmas.{rest_within, spelling_in_front, spelling_reads}
use Rattle.plan_record.proofs.entry.placed_spelling.Goals as goal

pub front_before-requires : goal.front_before-requires
front_before-requires c = rest_within c.bytes_from-placed.result.now c.in-Some.rest.now (λ i. omega (arith, c.type_inv.placed i)) c.in-Some.ensures

pub returns-in-Some-clause-spelled : goal.returns-in-Some-clause-spelled
returns-in-Some-clause-spelled c =
    c.front_before.ensures ∙ spelling_in_front c.bytes_from-placed.result.now c.in-Some.rest.now (subst IsBytes (sym c.bytes_from-placed.ensures) (IsBytes-drop c.args.start c.args.bytes.now (λ i. omega (arith, c.type_inv.bytes i)))) c.in-Some.ensures
    ∙ ap (λ b. spelling (data_of (entry_at b))) c.bytes_from-placed.ensures

pub returns-in-Some-clause-read : goal.returns-in-Some-clause-read
returns-in-Some-clause-read c =
    spelling_reads c.args.bytes.now c.args.start c.front_before.result.now (λ i. omega (arith, c.type_inv.bytes i)) c.requires
    (c.front_before.ensures ∙ spelling_in_front c.bytes_from-placed.result.now c.in-Some.rest.now (subst IsBytes (sym c.bytes_from-placed.ensures) (IsBytes-drop c.args.start c.args.bytes.now (λ i. omega (arith, c.type_inv.bytes i)))) c.in-Some.ensures
    ∙ ap (λ b. spelling (data_of (entry_at b))) c.bytes_from-placed.ensures)
