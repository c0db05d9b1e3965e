use Rattle.std.proofs.Common.{◌≡◌, ◌++◌, drop}
use Rattle.plan_compile.specs.Emit.{files_code}
use Rattle.plan_compile.proofs.outputs.push_files.Given as goal

abbrev pub invariant-loop-output : goal.invariant-loop-output
invariant-loop-output l = l.code ++ files_code (drop l.output-index l.outputs) ≡ l.fn.code ++ files_code l.outputs
