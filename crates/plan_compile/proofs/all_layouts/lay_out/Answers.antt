use Rattle.std.proofs.Common.{List, ℕ, length, ap, zero, arith}
use Rattle.plan_compile.specs.Builds.{Build}
use Rattle.plan_compile.proofs.AssembleLemmas.{newest_length}
use Rattle.plan_compile.proofs.all_layouts.lay_out.Goals as goal

pub layouts_of-requires-clause-long : goal.layouts_of-requires-clause-long
layouts_of-requires-clause-long c =
    let long = λ (xs : List Build). length xs in
    omega (arith, ap (λ (ns : List ℕ). length ns) c.in_ok-plan.ensures.newest, newest_length zero c.deref-2.result.now, ap long c.deref-2.ensures.value, ap long c.deref-4.ensures.value)
