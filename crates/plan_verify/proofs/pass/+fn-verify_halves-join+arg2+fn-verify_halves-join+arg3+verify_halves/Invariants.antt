use Rattle.plan_verify.proofs.pass.+fn-verify_halves-join+arg2+fn-verify_halves-join+arg3+verify_halves.Given as goal

abbrev pub decreases-join+arg2 : goal.decreases-join+arg2
decreases-join+arg2 g l = l.left

abbrev pub decreases-join+arg3 : goal.decreases-join+arg3
decreases-join+arg3 g l = l.left

abbrev pub decreases-verify_halves : goal.decreases-verify_halves
decreases-verify_halves g l = l.halvings
