use Rattle.std.proofs.Common.{◌≡◌, [], ◌∙◌, ap}
use Rattle.plan_record.specs.Entry.{data_of}
use Rattle.plan_record.specs.Entries.{EntryData}
use Rattle.plan_record.proofs.EntryLemmas.{spelled_again}
use Rattle.plan_record.proofs.entry.Entry.new.Goals as goal

pub invariant_of-result : goal.invariant_of-result
invariant_of-result c =
    let parts : EntryData = record { output = c.args.output.now; command = c.args.command.now; basis = c.args.basis; paths = c.args.paths.now } in
    let same : c.in_ok-file.file.value.items ≡ c.in_ok-bytes.bytes.items = ap (λ v. v.items) c.in_ok-file.ensures.ok in
    ((parts, []), spelled_again c.in_ok-file.file.value.items parts c.in_ok-bytes.ensures.within (same ∙ c.in_ok-bytes.ensures.spelled))

pub returns-clause-made : goal.returns-clause-made
returns-clause-made c =
    let parts : EntryData = record { output = c.args.output.now; command = c.args.command.now; basis = c.args.basis; paths = c.args.paths.now } in
    let same : c.in_ok-file.file.value.items ≡ c.in_ok-bytes.bytes.items = ap (λ v. v.items) c.in_ok-file.ensures.ok in
    ap data_of (spelled_again c.in_ok-file.file.value.items parts c.in_ok-bytes.ensures.within (same ∙ c.in_ok-bytes.ensures.spelled))
