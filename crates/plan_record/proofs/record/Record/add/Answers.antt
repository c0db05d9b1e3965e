use Rattle.std.proofs.Common.{◌≡◌, ◌+◌, ◌++◌, ◌∷◌, [], List, append_assoc, ap, arith, length, length-append, subst, sym, ◌∙◌}
use Rattle.plan_record.specs.Entries.{EntryData}
use Rattle.plan_record.specs.Outputs.{IsIndexed}
use Rattle.plan_record.proofs.CompactionLemmas.{one_each_grows}
use Rattle.plan_record.proofs.RecordLemmas.{index_grows}
use Rattle.plan_record.proofs.record.Record.add.Goals as goal

pub invariant_of-self-in-Ok : goal.invariant_of-self-in-Ok
invariant_of-self-in-Ok c =
    let entries : List EntryData = c.self.inside.loaded.items ++ c.self.inside.added in
    let entry : EntryData = c.args.entry.now in
    let own : c.in_ok-output.output.items ≡ entry.output = c.in_ok-output.ensures.items ∙ c.output.ensures in
    let number : c.count-number.result ≡ length entries = c.count-number.ensures ∙ sym (ap (λ (es : List EntryData). length es) c.self.view_is) in
    let more : c.self.inside.loaded.items ++ c.push.new.self ≡ entries ++ entry ∷ [] =
    ap (λ (es : List EntryData). c.self.inside.loaded.items ++ es) c.in_ok-push.ensures.added ∙ sym (append_assoc c.self.inside.loaded.items c.self.inside.added (entry ∷ [])) in
    let grown : length (entries ++ entry ∷ []) ≡ length entries + 1 = length-append entries (entry ∷ []) in
    subst (λ (es : List EntryData). IsIndexed c.insert.new.self.entries es) (sym more)
    (record {
      index = index_grows c.self.inside.numbers.entries c.insert.new.self.entries entries entry c.in_ok-output.output c.count-number.result c.self.invariant.index own number c.in-Ok.ensures.entries;
      each = one_each_grows c.self.inside.numbers.entries c.insert.new.self.entries entries entry c.in_ok-output.output _ c.self.invariant.index c.self.invariant.each own c.in-Ok.ensures.old c.in-Ok.ensures.len;
      fits = omega (arith, grown, number, c.if-number.false, c.count-number.type_inv);
    })
