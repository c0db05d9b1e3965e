use Rattle.std.proofs.Common.{◌≡◌, ◌++◌, drop}
use Rattle.plan_image.specs.Bodies.{with_operands}
use Rattle.plan_compile.proofs.code.fill_body.Given as goal

abbrev pub invariant-loop-place : goal.invariant-loop-place
invariant-loop-place l = l.instrs.items ++ drop l.place (with_operands l.body l.operands) ≡ with_operands l.body l.operands
