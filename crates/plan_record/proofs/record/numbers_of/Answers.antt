use Rattle.std.proofs.Common.{◌≡◌, ◌+◌, ℕ, List, [], ◌∷◌, ◌++◌, length, take, sym, ◌∙◌, ap, subst, arith}
use Rattle.std.proofs.lemmas.List.{length-take, take_more}
use Rattle.plan_record.specs.Entries.{EntryData}
use Rattle.plan_record.specs.Outputs.{HasOneEach, IsIndexOf}
use Rattle.plan_record.proofs.CompactionLemmas.{one_each_grows}
use Rattle.plan_record.proofs.RecordLemmas.{index_grows}
use Rattle.plan_record.proofs.record.numbers_of.Goals as goal

pub loop-number-preserved : goal.loop-number-preserved
loop-number-preserved c =
    let front = take c.loop-number.number c.args.entries.now in
    let more : take (c.loop-number.number + 1) c.args.entries.now ≡ front ++ c.index-entries-number.result ∷ [] = take_more c.args.entries.now c.loop-number.number c.index-entries-number.result c.loop-number-test.true ∙ ap (λ (x : EntryData). take c.loop-number.number c.args.entries.now ++ x ∷ []) (sym c.index-entries-number.is) in
    let len : c.loop-number.number ≡ length front = omega (arith, length-take c.loop-number.number c.args.entries.now, c.loop-number-test.true) in
    let own : c.extend_from_slice.new.self.items ≡ c.index-entries-number.result.output = c.in_ok-extend_from_slice.ensures.items ∙ ap (λ (x : List ℕ). x ++ c.output.result.now) c.new-output.ensures.items ∙ c.output.ensures in
    let index =
    index_grows c.loop-number.numbers.entries c.insert.new.self.entries front c.index-entries-number.result c.extend_from_slice.new.self c.loop-number.number c.loop-number.invariant.index own len c.in_ok-insert.ensures.entries in
    let each =
    one_each_grows c.loop-number.numbers.entries c.insert.new.self.entries front c.index-entries-number.result c.extend_from_slice.new.self _ c.loop-number.invariant.index c.loop-number.invariant.each own c.in_ok-insert.ensures.old c.in_ok-insert.ensures.len in
    record {
      index = subst (λ (es : List EntryData). IsIndexOf c.insert.new.self.entries es) (sym more) index;
      each = subst (λ (es : List EntryData). HasOneEach c.insert.new.self.entries es) (sym more) each;
    }
