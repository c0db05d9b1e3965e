use Rattle.plan_image.proofs.ColumnLemmas.{instrs_more}
use Rattle.plan_image.proofs.opcode.push_instr.Goals as goal

pub returns-clause-more : goal.returns-clause-more
returns-clause-more c =
    rw (c.in_ok-push.ensures.items, c.in_ok-push-2.ensures.items)
    (instrs_more c.args.opcodes.now.items c.args.operands.now.items c.opcode_and_operand-opcode.result.0 c.opcode_and_operand-opcode.result.1 c.args.instr c.requires c.opcode_and_operand-opcode.ensures.back)
