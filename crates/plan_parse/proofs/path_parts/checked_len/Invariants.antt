use Rattle.std.proofs.Common.{◌-◌, length}
use Rattle.plan_parse.proofs.UnitLemmas.{Walked}
use Rattle.plan_parse.proofs.path_parts.checked_len.Given as goal

-- the path continues up to here without a fault
abbrev pub invariant-loop-unit : goal.invariant-loop-unit
invariant-loop-unit l = Walked l.p.at l.p.bytes.now l.len

abbrev pub decreases-loop-unit : goal.decreases-loop-unit
decreases-loop-unit l = length l.p.bytes.now - l.len
