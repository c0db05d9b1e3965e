use Rattle.std.proofs.Common.{◌≡◌, ◌++◌, drop}
use Rattle.plan_image.specs.Bodies.{body_of, operands_of}
use Rattle.plan_image.proofs.body.split.Given as goal

abbrev pub invariant-loop-instr : goal.invariant-loop-instr
invariant-loop-instr l = record {
  body : l.instrs.items ++ body_of (drop l.instr-index l.code) ≡ body_of l.code;
  numbers : l.numbers.items ++ operands_of (drop l.instr-index l.code) ≡ operands_of l.code;
}
