use Rattle.std.proofs.Common.{◌≡◌, drop}
use Rattle.plan_verify.proofs.kinds.Kinds.cut.Given as goal

abbrev pub invariant-loop : goal.invariant-loop
invariant-loop l = l.self ≡ drop l.counter l.fn.self
