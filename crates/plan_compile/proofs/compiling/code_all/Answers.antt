use Rattle.std.proofs.Common.{List, ℕ, length, ap, zero, arith}
use Rattle.plan_compile.specs.Builds.{Build}
use Rattle.plan_compile.specs.declared.numbers.Numbers.{Numbers}
use Rattle.plan_compile.proofs.AssembleLemmas.{newest_length}
use Rattle.plan_compile.proofs.compiling.code_all.Goals as goal

pub edges-requires : goal.edges-requires
edges-requires g c =
    let length_of = λ (xs : List Build). length xs in
    let builds = ap length_of c.deref-6.ensures.value in
    record {
      ready = c.requires.ready;
      long =
          omega (
            arith,
            ap (λ (ns : List ℕ). length ns) c.deref-4.ensures.value,
            ap (λ (ns : List ℕ). length ns) c.in_ok-plan.ensures.newest,
            newest_length zero c.deref-2.result.now,
            ap length_of c.deref-2.ensures.value,
            builds,
          );
      named = omega (arith, c.requires.named, ap (λ (ks : List Numbers). length ks) c.deref-5.ensures.value, builds);
      few = omega (arith, c.requires.few, builds);
    }
