use Rattle.std.proofs.Common.{◌≡◌, ℕ, List, ◌∷◌, map, ap, ◌∙◌}
use Rattle.plan_image.specs.declared.image.Pool.{Pool}
use Rattle.plan_machine.proofs.PlanLemmas.{plan_few, plan_pools, plan_in_pools, plan_inside, plan_short, plan_made}
use Rattle.plan_machine.proofs.run.wanted.image_plan.Goals as goal

depths_is : (all given : List Pool) (depths : List ℕ) → given ≡ all → depths ≡ 0 ∷ map (λ (pool : Pool). pool.depth) given → depths ≡ 0 ∷ map (λ (pool : Pool). pool.depth) all
depths_is all given depths same is = is ∙ ap (λ (l : List Pool). 0 ∷ map (λ (pool : Pool). pool.depth) l) same

pub plan_of-requires-clause-few : goal.plan_of-requires-clause-few
plan_of-requires-clause-few c = plan_few c.tables_are_in_range.ensures c.args.parts.now c.requires.shaped c.requires.spelled c.in_ok-waits.waits.items c.in_ok-pools.pools.items c.in_ok-depths.depths.items c.in_ok-waits.ensures c.in_ok-pools.ensures (depths_is c.args.parts.now.pools c.as_slice.result.now c.in_ok-depths.depths.items c.as_slice.ensures c.in_ok-depths.ensures)

pub plan_of-requires-clause-pools : goal.plan_of-requires-clause-pools
plan_of-requires-clause-pools c = plan_pools c.tables_are_in_range.ensures c.args.parts.now c.requires.shaped c.requires.spelled c.in_ok-waits.waits.items c.in_ok-pools.pools.items c.in_ok-depths.depths.items c.in_ok-waits.ensures c.in_ok-pools.ensures (depths_is c.args.parts.now.pools c.as_slice.result.now c.in_ok-depths.depths.items c.as_slice.ensures c.in_ok-depths.ensures)

pub plan_of-requires-clause-in_pools : goal.plan_of-requires-clause-in_pools
plan_of-requires-clause-in_pools c = plan_in_pools c.tables_are_in_range.ensures c.args.parts.now c.requires.shaped c.requires.spelled c.in_ok-waits.waits.items c.in_ok-pools.pools.items c.in_ok-depths.depths.items c.in_ok-waits.ensures c.in_ok-pools.ensures (depths_is c.args.parts.now.pools c.as_slice.result.now c.in_ok-depths.depths.items c.as_slice.ensures c.in_ok-depths.ensures)

pub plan_of-requires-clause-inside : goal.plan_of-requires-clause-inside
plan_of-requires-clause-inside c = plan_inside c.tables_are_in_range.ensures c.args.parts.now c.requires.shaped c.requires.spelled c.in_ok-waits.waits.items c.in_ok-pools.pools.items c.in_ok-depths.depths.items c.in_ok-waits.ensures c.in_ok-pools.ensures (depths_is c.args.parts.now.pools c.as_slice.result.now c.in_ok-depths.depths.items c.as_slice.ensures c.in_ok-depths.ensures)

pub plan_of-requires-clause-short : goal.plan_of-requires-clause-short
plan_of-requires-clause-short c = plan_short c.tables_are_in_range.ensures c.args.parts.now c.requires.shaped c.requires.spelled c.in_ok-waits.waits.items c.in_ok-pools.pools.items c.in_ok-depths.depths.items c.in_ok-waits.ensures c.in_ok-pools.ensures (depths_is c.args.parts.now.pools c.as_slice.result.now c.in_ok-depths.depths.items c.as_slice.ensures c.in_ok-depths.ensures)

pub returns : goal.returns
returns c =
    plan_made c.tables_are_in_range.ensures c.args.parts.now c.requires.shaped c.requires.spelled c.in_ok-waits.waits.items c.in_ok-pools.pools.items c.in_ok-depths.depths.items c.in_ok-waits.ensures c.in_ok-pools.ensures
    (depths_is c.args.parts.now.pools c.as_slice.result.now c.in_ok-depths.depths.items c.as_slice.ensures c.in_ok-depths.ensures) c.plan_of.result c.plan_of.ensures.rows c.plan_of.ensures.plan
