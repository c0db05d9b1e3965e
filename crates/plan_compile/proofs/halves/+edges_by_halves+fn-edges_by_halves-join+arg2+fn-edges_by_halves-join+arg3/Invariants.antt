use Rattle.plan_compile.proofs.halves.+edges_by_halves+fn-edges_by_halves-join+arg2+fn-edges_by_halves-join+arg3.Given as goal

abbrev pub decreases-edges_by_halves : goal.decreases-edges_by_halves
decreases-edges_by_halves g l = l.halvings

abbrev pub decreases-join+arg2 : goal.decreases-join+arg2
decreases-join+arg2 g l = l.left

abbrev pub decreases-join+arg3 : goal.decreases-join+arg3
decreases-join+arg3 g l = l.left
