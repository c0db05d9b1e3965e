use Rattle.std.proofs.Common.{take}
use Rattle.plan_scope.specs.Edges.{late}
use Rattle.plan_scope.specs.Compiled.{LeavesRule}
use Rattle.plan_scope.proofs.edge.compiled.RuleVariables.are_left_by.Given as goal

abbrev pub invariant-loop-binding : goal.invariant-loop-binding
invariant-loop-binding l = LeavesRule (late (take l.binding-index l.binding-items)) l.block
