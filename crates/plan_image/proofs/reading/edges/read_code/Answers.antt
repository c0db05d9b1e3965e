use Rattle.std.proofs.Common.{◌∙◌, Some, ap, sym}
use Rattle.plan_image.proofs.BodyLemmas.{own_most, shared_most}
use Rattle.plan_image.proofs.reading.edges.read_code.Goals as goal

pub returns-in_ok-rest-in-None-clause-most : goal.returns-in_ok-rest-in-None-clause-most
returns-in_ok-rest-in-None-clause-most c =
    own_most c.args.bodies.now c.args.used c.read_own_code.new.opcodes.items c.read_own_code.new.operands.items c.in-None.is c.in_ok-rest-in-None.ensures.most

pub returns-in_ok-body-in-Some-clause-most : goal.returns-in_ok-body-in-Some-clause-most
returns-in_ok-body-in-Some-clause-most c = shared_most c.args.bodies.now c.as_slice.result.now c.args.used c.in_ok-body-in-Some.body c.args.opcodes.now.items c.read_shared_code.new.operands.items (c.in-Some.is ∙ ap Some (sym c.as_slice.ensures)) c.in_ok-body-in-Some.ensures.most
