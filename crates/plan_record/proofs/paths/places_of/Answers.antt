use Rattle.std.proofs.Common.{◌+◌, List, sym, subst}
use Rattle.plan_text.specs.declared.shared_rows.Place.{Place}
use Rattle.plan_record.proofs.PathsLemmas.{Placed, all_placed, one_more_placed}
use Rattle.plan_record.proofs.paths.places_of.Goals as goal

pub loop-taken-preserved : goal.loop-taken-preserved
loop-taken-preserved c =
    subst (λ (places : List Place). Placed c.args.count (c.loop-taken.taken + 1) c.args.bytes.now (c.loop-taken.start + c.first_len-len.result) places) (sym c.in_ok-push.ensures.items)
    (one_more_placed c.args.count c.loop-taken.taken c.args.bytes.now c.bytes_from.result.now c.loop-taken.start c.first_len-len.result c.loop-taken.places.items c.in_ok-place.place c.loop-taken-test.true
    c.loop-taken.invariant c.bytes_from.ensures c.first_len-len.ensures.within c.first_len-len.ensures.there c.first_len-len.ensures.left c.first_len-len.ensures.first c.in_ok-place.ensures.0 c.in_ok-place.ensures.1)

pub returns : goal.returns
returns c = all_placed c.args.count c.loop-taken.taken c.args.bytes.now c.loop-taken.start c.loop-taken.places.items c.loop-taken-test.false c.loop-taken.invariant
