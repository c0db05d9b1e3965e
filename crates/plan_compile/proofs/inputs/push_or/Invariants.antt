use Rattle.std.proofs.Common.{◌≡◌, ◌++◌, drop}
use Rattle.plan_compile.specs.Emit.{or_code}
use Rattle.plan_compile.proofs.inputs.push_or.Given as goal

abbrev pub invariant-loop-flag : goal.invariant-loop-flag
invariant-loop-flag l = l.code ++ or_code (drop l.flag-index l.flags) ≡ l.fn.code ++ or_code l.flags
