use Rattle.std.proofs.Common.{◌≡◌, ◌++◌, flat_map, ◌∷◌, take}
use Rattle.plan_scope.specs.Expansion.{escaped}
use Rattle.plan_scope.specs.Kept.{kept}
use Rattle.plan_scope.proofs.scope.text.append_between_quotes.Given as goal

abbrev pub invariant-loop-byte : goal.invariant-loop-byte
invariant-loop-byte l = kept l.out.items ≡ kept (l.fn.out.items ++ 39 ∷ flat_map escaped (take l.byte-index l.path))
