use Rattle.std.proofs.Common.{take}
use Rattle.std.specs.Prelude.{All}
use Rattle.plan_tools.specs.Need.{IsMet, MeetsMore}
use Rattle.plan_tools.proofs.need.Search.meet_all.Given as goal

-- the paths so far were met
abbrev pub invariant-loop-path : goal.invariant-loop-path
invariant-loop-path l = MeetsMore l.fn.self l.self × All (IsMet l.self) (take l.path-index l.paths)
