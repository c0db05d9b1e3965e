use Rattle.std.proofs.Common.{◌≡◌, ◌≤◌, drop}
use Rattle.plan_verify.specs.Shape.{wrong_kind}
use Rattle.plan_verify.specs.Wanted.{options}
use Rattle.plan_verify.proofs.place_checks.clashes.Given as goal

abbrev pub invariant-loop-want : goal.invariant-loop-want
invariant-loop-want l = record {
  rest : wrong_kind (options (drop l.want-index l.wanted)) (drop l.depth l.kinds) ≡ wrong_kind (options l.wanted) l.kinds;
  few : l.depth ≤ l.want-index;
}
