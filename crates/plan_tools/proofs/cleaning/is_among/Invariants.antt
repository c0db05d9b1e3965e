use Rattle.std.proofs.Common.{◌≡◌, map, drop}
use Rattle.std.specs.Prelude.{bytes_eq}
use Rattle.std.specs.List.{list_any}
use Rattle.plan_tools.proofs.cleaning.is_among.Given as goal

-- it isn't among the names so far
abbrev pub invariant-loop-name : goal.invariant-loop-name
invariant-loop-name l = list_any (λ name. bytes_eq name l.text) (map (λ n. n.now) (drop l.name-index l.names)) ≡ list_any (λ name. bytes_eq name l.text) (map (λ n. n.now) l.names)
