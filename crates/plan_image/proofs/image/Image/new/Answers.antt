use Rattle.plan_image.proofs.ImageLemmas.{disordered, not_filled, over}
use Rattle.plan_image.proofs.image.Image.new.Goals as goal

pub returns-then-not-is_within_limits-clause-fault : goal.returns-then-not-is_within_limits-clause-fault
returns-then-not-is_within_limits-clause-fault c = over c.args.parts c.is_within_limits.result c.is_within_limits.ensures c.if-not-is_within_limits.true

pub returns-then-not-is_in_order-clause-fault : goal.returns-then-not-is_in_order-clause-fault
returns-then-not-is_in_order-clause-fault c =
    disordered c.args.parts c.is_in_order.result (c.is_within_limits.ensures.0 c.if-not-is_within_limits.false) c.is_in_order.ensures c.if-not-is_in_order.true

pub returns-then-not-is_filled-clause-fault : goal.returns-then-not-is_filled-clause-fault
returns-then-not-is_filled-clause-fault c =
    not_filled c.args.parts c.is_in_order.result c.is_filled.result (c.is_within_limits.ensures.0 c.if-not-is_within_limits.false) c.is_in_order.ensures c.if-not-is_in_order.false c.is_filled.ensures c.if-not-is_filled.true
