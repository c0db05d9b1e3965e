use Rattle.std.proofs.Common.{◌≡◌, ◌++◌, drop}
use Rattle.plan_compile.specs.Means.{flags_of}
use Rattle.plan_compile.proofs.lookups.all_flags.Given as goal

abbrev pub invariant-loop-input : goal.invariant-loop-input
invariant-loop-input l = l.flags.items ++ flags_of (drop l.input-index l.inputs) ≡ flags_of l.inputs
