use Rattle.std.proofs.Common.{◌≡◌, ◌++◌, drop}
use Rattle.plan_compile.specs.Emit.{order_code}
use Rattle.plan_compile.proofs.inputs.push_order.Given as goal

abbrev pub invariant-loop-file : goal.invariant-loop-file
invariant-loop-file l = l.code ++ order_code (drop l.file-index l.files) ≡ l.fn.code ++ order_code l.files
