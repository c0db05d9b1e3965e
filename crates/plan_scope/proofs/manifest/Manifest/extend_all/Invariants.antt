use Rattle.std.proofs.Common.{◌≡◌, take}
use Rattle.plan_scope.specs.Extended.{extended}
use Rattle.plan_scope.proofs.manifest.Manifest.extend_all.Given as goal

-- The additions so far.
abbrev pub invariant-loop-number : goal.invariant-loop-number
invariant-loop-number l = l.self ≡ extended (take l.number l.additions) l.fn.self
