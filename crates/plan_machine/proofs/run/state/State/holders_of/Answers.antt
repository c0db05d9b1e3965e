use Rattle.std.proofs.Common.{◌≡◌, ◌<◌, ◌+◌, ℕ, List, ◌∷◌, length, map, ap, ◌∙◌, arith}
use Rattle.std.specs.Prelude.{slice_index}
use Rattle.std.proofs.lemmas.List.{get_or_default}
use Rattle.plan_image.specs.declared.image.Pool.{Pool}
use Rattle.plan_machine.specs.Kept.{Running}
use Rattle.plan_machine.proofs.ListLemmas.{map_length}
use Rattle.plan_machine.proofs.KeptLemmas.{pool_holders_are}
use Rattle.plan_machine.proofs.run.state.State.holders_of.Goals as goal

pub returns : goal.returns
returns c =
    let r = c.args.self.now in
    let p = c.args._image.now in
    let inside = c.self.inside.schedule.counts.pool_holders.items in
    let same : inside ≡ r.schedule.counts.pool_holders.items = ap (λ (x : Running). x.schedule.counts.pool_holders.items) c.self.view_is in
    let kept = c.requires.kept in
    let depths : length r.plan.depths.items ≡ length (0 ∷ map (λ (pool : Pool). pool.depth) p.pools) = ap (λ (l : List ℕ). length l) kept.plan_is.depths in
    let there : c.args.pool + 1 < length r.schedule.counts.pool_holders.items = omega (arith, c.requires.inside, depths, map_length (λ (pool : Pool). pool.depth) p.pools, kept.fit.kept.holders_sized) in
    let here : c.args.pool + 1 < length inside = omega (arith, there, ap (λ (l : List ℕ). length l) same) in
    let read : c.index.result.now ≡ slice_index inside (c.args.pool + 1) = c.index.ensures ∙ get_or_default inside (c.args.pool + 1) c.index.result.now 0 here in
    read ∙ ap (λ (l : List ℕ). slice_index l (c.args.pool + 1)) same ∙ pool_holders_are p r.run_state.now r.plan r.schedule kept c.args.pool there
