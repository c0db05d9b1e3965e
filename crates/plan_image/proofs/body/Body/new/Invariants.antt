use Rattle.std.proofs.Common.{◌≡◌, ◌+◌, ◌≤◌, ◌++◌, drop}
use Rattle.plan_image.specs.Bodies.{opens, ranks_from}
use Rattle.plan_image.proofs.body.Body.new.Given as goal

abbrev pub invariant-loop-instr : goal.invariant-loop-instr
invariant-loop-instr l = record {
  ranks : l.ranks.items ++ ranks_from l.open_count (drop l.instr-index l.fn.instrs.items) ≡ ranks_from 0 l.fn.instrs.items;
  opens : l.open_count + opens (drop l.instr-index l.fn.instrs.items) ≡ opens l.fn.instrs.items;
  most : l.open_count ≤ l.instr-index;
}
