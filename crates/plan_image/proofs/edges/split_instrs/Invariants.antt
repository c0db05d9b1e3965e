use Rattle.std.proofs.Common.{◌≡◌, ◌++◌, drop, length}
use Rattle.plan_image.specs.Columns.{instrs_by}
use Rattle.plan_image.proofs.edges.split_instrs.Given as goal

abbrev pub invariant-loop-instr : goal.invariant-loop-instr
invariant-loop-instr l = record {
  long : length l.opcodes.items ≡ length l.operands.items;
  split : instrs_by l.opcodes.items l.operands.items ++ drop l.instr-index l.instrs ≡ l.instrs;
}
