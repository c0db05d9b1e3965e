use Rattle.std.proofs.Common.{rules}
use Rattle.plan_printing.proofs.BufferLemmas.{rest_handed_on, keeps_on}
use Rattle.plan_printing.proofs.screen.hand_on_from.Goals as goal

pub loop-place-preserved : goal.loop-place-preserved
loop-place-preserved g c =
    (keeps_on _ _ _ c.loop-place.invariant.0 (rest_handed_on _ _ c.args.bytes.now c.loop-place.place c.in-Ok.count c.in-Ok.ensures.taken), (search rules, search rules))
