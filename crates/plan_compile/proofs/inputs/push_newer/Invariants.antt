use Rattle.std.proofs.Common.{◌≡◌, ◌++◌, drop}
use Rattle.plan_compile.specs.Emit.{newer_code}
use Rattle.plan_compile.proofs.inputs.push_newer.Given as goal

abbrev pub invariant-loop-input : goal.invariant-loop-input
invariant-loop-input l = l.code ++ newer_code (drop l.input-index l.inputs) ≡ l.fn.code ++ newer_code l.inputs
