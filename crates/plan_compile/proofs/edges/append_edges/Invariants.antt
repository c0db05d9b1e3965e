use Rattle.std.proofs.Common.{◌≡◌, ◌++◌, drop, map}
use Rattle.plan_compile.specs.Renumbering.{renumbered}
use Rattle.plan_compile.proofs.edges.append_edges.Given as goal

abbrev pub invariant-loop-number : goal.invariant-loop-number
invariant-loop-number l = l.edges ++ map (renumbered l.numbers) (drop l.number l.more) ≡ l.initial.edges ++ map (renumbered l.numbers) l.more
