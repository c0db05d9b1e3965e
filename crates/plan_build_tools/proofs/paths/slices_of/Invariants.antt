use Rattle.std.proofs.Common.{◌≡◌, map, take}
use Rattle.plan_build_tools.proofs.paths.slices_of.Given as goal

-- the rows so far
abbrev pub invariant-loop-number : goal.invariant-loop-number
invariant-loop-number l = map (λ s. s.now) l.slices.items ≡ take l.number l.rows
