use Rattle.std.proofs.Common.{◌≡◌, drop, map}
use Rattle.plan_commands.specs.Targets.{targets}
use Rattle.plan_commands.proofs.TargetLemmas.{in_front}
use Rattle.plan_commands.proofs.targets.edges_of.Given as goal

abbrev pub invariant-loop-name : goal.invariant-loop-name
invariant-loop-name l =
    in_front l.edges.items (targets l.image (map (λ n. n.now) (drop l.name-index l.names))) ≡ targets l.image (map (λ n. n.now) l.names)
