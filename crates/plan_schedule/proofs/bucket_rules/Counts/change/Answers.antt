use Rattle.std.proofs.Common.{◌≡◌, ◌<◌, ◌+◌, ◌≤◌, ℕ, Bool, true, arith, ap, get_or, length, refl, sym, ◌∙◌}
use Rattle.std.specs.Prelude.{slice_index}
use Rattle.std.proofs.lemmas.List.{get_or_default}
use Rattle.plan_schedule.specs.Counts.{AreCounts, holders_of, one}
use Rattle.plan_schedule.specs.Phases.{has_failed, holds, is_open, phase_at}
use Rattle.plan_schedule.proofs.CountLemmas.{counts_after, holders_of_le, holders_some}
use Rattle.plan_schedule.proofs.bucket_rules.Counts.change.Goals as goal

pub update_count-in_pool-requires-clause-some : goal.update_count-in_pool-requires-clause-some
update_count-in_pool-requires-clause-some c held =
    let pool = slice_index c.args.pools.now c.args.edge in
    let in_pool : c.index.result.now ≡ holders_of pool c.args.pools.now c.args.phases.now
    = c.index.ensures ∙ (get_or_default c.args.self.now.pool_holders.items pool c.index.result.now 0 c.requires.pool ∙ c.requires.counts.pool_holders_are pool c.requires.pool) in
    let here : holds (phase_at c.args.phases.now c.args.edge) ≡ true = sym c.holds.ensures ∙ held in
    omega (arith, in_pool, holders_some pool c.args.pools.now c.args.phases.now c.args.edge c.requires.here c.requires.sized refl here)

pub update_count-in_pool-requires-clause-small : goal.update_count-in_pool-requires-clause-small
update_count-in_pool-requires-clause-small c =
    let pool = slice_index c.args.pools.now c.args.edge in
    let in_pool : c.index.result.now ≡ holders_of pool c.args.pools.now c.args.phases.now
    = c.index.ensures ∙ (get_or_default c.args.self.now.pool_holders.items pool c.index.result.now 0 c.requires.pool ∙ c.requires.counts.pool_holders_are pool c.requires.pool) in
    omega (arith, in_pool, holders_of_le pool c.args.pools.now c.args.phases.now, c.requires.small)

same_counts : (n m : ℕ) (a b x y : Bool) → n + one a ≡ m + one b → a ≡ x → b ≡ y → n + one x ≡ m + one y
same_counts n m a b x y e p q = let ex : one a ≡ one x = ap one p in let ey : one b ≡ one y = ap one q in omega (arith, e, ex, ey)

pub returns-clause-counts : goal.returns-clause-counts
returns-clause-counts c =
    let s = c.args.self.now in
    let pool = slice_index c.args.pools.now c.args.edge in
    let x = phase_at c.args.phases.now c.args.edge in
    let read : c.index.result.now ≡ slice_index s.pool_holders.items pool = c.index.ensures ∙ get_or_default s.pool_holders.items pool c.index.result.now 0 c.requires.pool in
    let in_pool : c.update_count-in_pool.result + one (holds x) ≡ c.index.result.now + one (holds c.args.next)
    = same_counts c.update_count-in_pool.result c.index.result.now c.holds.result c.holds-2.result (holds x) (holds c.args.next) c.update_count-in_pool.ensures c.holds.ensures c.holds-2.ensures in
    counts_after c.args.pools.now c.args.phases.now s.pool_holders.items s.holders s.failures s.open_edges c.args.edge c.args.next
    c.update_count-in_pool.result c.update_count-self.result c.update_count-self-2.result c.update_count-self-3.result
    c.requires.counts c.requires.here c.requires.sized c.requires.pool
    (omega (arith, in_pool, read))
    (same_counts c.update_count-self.result s.holders c.holds-3.result c.holds-4.result (holds x) (holds c.args.next) c.update_count-self.ensures c.holds-3.ensures c.holds-4.ensures)
    (same_counts c.update_count-self-2.result s.failures c.has_failed.result c.has_failed-2.result (has_failed x) (has_failed c.args.next) c.update_count-self-2.ensures c.has_failed.ensures c.has_failed-2.ensures)
    (same_counts c.update_count-self-3.result s.open_edges c.is_open.result c.is_open-2.result (is_open x) (is_open c.args.next) c.update_count-self-3.ensures c.is_open.ensures c.is_open-2.ensures)
