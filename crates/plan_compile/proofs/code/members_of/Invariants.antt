use Rattle.std.proofs.Common.{◌≡◌, ◌++◌, drop}
use Rattle.plan_compile.specs.BodyKeys.{body_at}
use Rattle.plan_compile.proofs.code.members_of.Given as goal

abbrev pub invariant-loop-number : goal.invariant-loop-number
invariant-loop-number l = l.members.items ++ body_at (drop l.number-index l.key) ≡ body_at l.key
