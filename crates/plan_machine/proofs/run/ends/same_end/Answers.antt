use Rattle.plan_machine.proofs.EndsLemmas.{never_tells_apart, tells_ends}
use Rattle.plan_machine.proofs.run.ends.same_end.Goals as goal

pub returns-in-Ok-ends_like-clause-tells : goal.returns-in-Ok-ends_like-clause-tells
returns-in-Ok-ends_like-clause-tells c =
    let compared = c.in-Ok-ends_like.ensures.compares in
    tells_ends c.args.image.now c.args.options c.args.first.now c.args.second.now c.in-Ok.state.run_state.now compared.other
    c.in-Ok.ensures.ends compared.ends c.in-Ok-ends_like.same compared.is

pub returns-in-Ok-ends_like-clause-never_apart : goal.returns-in-Ok-ends_like-clause-never_apart
returns-in-Ok-ends_like-clause-never_apart c =
    let compared = c.in-Ok-ends_like.ensures.compares in
    never_tells_apart c.args.image.now c.args.options c.args.first.now c.args.second.now c.in-Ok.state.run_state.now compared.other
    c.in-Ok.ensures.ends compared.ends c.in-Ok-ends_like.same compared.is c.interleavings_agree.ensures c.image-tables.ensures.shaped
