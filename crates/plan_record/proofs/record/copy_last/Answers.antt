use Rattle.std.proofs.Common.{◌<◌, ◌+◌, ◌++◌, List, ap, arith, drop, length, ◌∙◌}
use Rattle.plan_record.specs.Compaction.{last_entries}
use Rattle.plan_record.specs.Entries.{EntryData}
use Rattle.plan_record.proofs.CompactionLemmas.{one_more}
use Rattle.plan_record.proofs.record.copy_last.Goals as goal

pub loop-number-preserved : goal.loop-number-preserved
loop-number-preserved c =
    let entries : List EntryData = c.args.loaded.now ++ c.args.added.now in
    let within : c.loop-number.number < length entries = omega (arith, c.loop-number-test.true, c.requires.all) in
    ap (λ (es : List EntryData). es ++ last_entries (drop (c.loop-number.number + 1) entries)) c.in_ok-push_some.ensures
    ∙ one_more entries c.loop-number.last.items c.loop-number.number c.in_ok-last_at.field-0 within c.loop-number.invariant c.in_ok-last_at.ensures
