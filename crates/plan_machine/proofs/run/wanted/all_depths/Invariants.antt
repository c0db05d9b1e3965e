use Rattle.std.proofs.Common.{◌≡◌, ◌∷◌, map, take}
use Rattle.plan_image.specs.declared.image.Pool.{Pool}
use Rattle.plan_machine.proofs.run.wanted.all_depths.Given as goal

abbrev pub invariant-loop-pool : goal.invariant-loop-pool
invariant-loop-pool l = l.depths.items ≡ 0 ∷ map (λ (pool : Pool). pool.depth) (take l.pool-index l.pools)
