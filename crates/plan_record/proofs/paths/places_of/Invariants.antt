use Rattle.plan_record.proofs.PathsLemmas.{Placed}
use Rattle.plan_record.proofs.paths.places_of.Given as goal

-- the placed paths and the remaining ones are the paths
abbrev pub invariant-loop-taken : goal.invariant-loop-taken
invariant-loop-taken l = Placed l.count l.taken l.bytes l.start l.places.items
