use Rattle.std.proofs.Common.{◌≡◌, List, ℕ, drop, bytes_eq}
use Rattle.std.specs.List.{list_any}
use Rattle.plan_text.specs.Reducing.{texts}
use Rattle.plan_world.proofs.restating.is_among.Given as goal

abbrev pub invariant-loop-number : goal.invariant-loop-number
invariant-loop-number l = list_any (λ (name : List ℕ). bytes_eq name l.wanted) (texts (drop l.number l.names)) ≡ list_any (λ (name : List ℕ). bytes_eq name l.wanted) (texts l.names)
