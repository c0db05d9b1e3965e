use Rattle.std.proofs.Common.{◌≡◌, ◌<◌, ◌∙◌, ℕ, List, ap, arith, length, refl, set, subst}
use Rattle.std.specs.Prelude.{slice_index}
use Rattle.std.proofs.lemmas.List.{get_or_default}
use Rattle.plan_schedule.specs.Counts.{AreCounts}
use Rattle.plan_schedule.specs.declared.phase.Phase.{Phase}
use Rattle.plan_schedule.proofs.ScheduleLemmas.{its_same, kept_entered, pool_at, moved}
use Rattle.plan_schedule.proofs.schedule.Schedule.recount.Goals as goal

pub returns-clause-kept : goal.returns-clause-kept
returns-clause-kept c =
    let b = c.args.self.now in
    let plan = c.args.plan.now in
    let e = c.args.edge in
    let is = c.requires.plan in
    let p = c.index-pool.result.now in
    let el : e < length plan.pools.items = omega (arith, c.requires.here, is.pools_sized) in
    let mine : p ≡ slice_index plan.pools.items e = c.index-pool.ensures ∙ get_or_default plan.pools.items e p 0 el in
    let n = c.change.new.self in
    let counts : AreCounts plan.pools.items (set c.deref-2.result.now e c.args.next) n.pool_holders.items n.holders n.failures n.open_edges
    = subst (λ l. AreCounts l (set c.deref-2.result.now e c.args.next) n.pool_holders.items n.holders n.failures n.open_edges) c.deref.ensures.value c.change.ensures.counts in
    kept_entered plan b _ e c.args.next is c.requires.kept c.requires.here refl refl refl
    (subst (λ (l : List Phase). AreCounts plan.pools.items (set l e c.args.next) n.pool_holders.items n.holders n.failures n.open_edges) c.deref-2.ensures.value counts)
    c.change.ensures.sized
    (λ q other. c.change.ensures.others q (λ r. other (r ∙ ap (λ (l : List ℕ). slice_index l e) c.deref.ensures.value)))
    (c.move_edge.ensures ∙ ap (moved b.buckets e) (its_same _ _ _ _ _ _ _ _ e c.deref-3.ensures.value c.deref-4.ensures.value c.deref-5.ensures.value c.deref-6.ensures.value))
    (c.move_pool.ensures ∙ pool_at b.pool_buckets c.move_edge.new.buckets _ _ _ _ p (slice_index plan.pools.items e) c.deref-7.ensures.value c.deref-8.ensures.value mine)
