-- The numbers of faults.
use Rattle.std.specs.Prelude.{ℕ}
use Rattle.plan_compile.specs.declared.fault.CompileFault.{CompileFault}
use Rattle.plan_compile.specs.declared.fault.CompileFault.TheVariants.{Limit, Memory}

abbrev pub number_of : CompileFault → ℕ
number_of Limit = 100
number_of Memory = 101
