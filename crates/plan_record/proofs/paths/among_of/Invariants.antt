use Rattle.plan_record.proofs.AmongLemmas.{FoundSo}
use Rattle.plan_record.proofs.paths.among_of.Given as goal

-- those that were found are among the paths so far
abbrev pub invariant-loop-taken : goal.invariant-loop-taken
invariant-loop-taken l = FoundSo l.count l.taken l.bytes l.start l.wanted l.found
