use Rattle.std.proofs.Common.{◌≡◌, drop}
use Rattle.plan_compile.specs.Emit.{has_source_file}
use Rattle.plan_compile.proofs.inputs.has_source_file.Given as goal

abbrev pub invariant-loop-input : goal.invariant-loop-input
invariant-loop-input l = has_source_file (drop l.input-index l.inputs) ≡ has_source_file l.inputs
