use Rattle.std.proofs.Common.{◌-◌, length}
use Rattle.plan_depfile.specs.PathSets.{ArePlaced}
use Rattle.plan_depfile.proofs.placing.place_rest.Given as goal

abbrev pub invariant-loop-table : goal.invariant-loop-table
invariant-loop-table l = ArePlaced l.paths l.table

abbrev pub decreases-loop-table : goal.decreases-loop-table
decreases-loop-table l = length l.paths - l.table.placed
