use Rattle.std.proofs.Common.{◌≡◌, ◌-◌, length}
use Rattle.plan_image.specs.Columns.{instrs_by}
use Rattle.plan_image.specs.Reading.{items_at, instr_at}
use Rattle.plan_image.proofs.LoopLemmas.{with_front}
use Rattle.plan_image.proofs.reading.edges.fill_instrs.Given as goal

abbrev pub invariant-loop : goal.invariant-loop
invariant-loop l = record {
  read : with_front (instrs_by l.opcodes.items l.operands.items) (items_at (λ (s : Unit {0}). instr_at) (λ s x. s) tt (l.count - l.counter) l.rest) ≡ items_at (λ (s : Unit {0}). instr_at) (λ s x. s) tt l.count l.bytes;
  long : length l.opcodes.items ≡ length l.operands.items;
  len : length l.opcodes.items ≡ l.counter;
}
