use Rattle.std.proofs.Common.{◌∙◌, ap, refl}
use Rattle.plan_schedule.proofs.ScheduleLemmas.{its_same, moved}
use Rattle.plan_schedule.proofs.UncountedLemmas.{kept_uncounted}
use Rattle.plan_schedule.proofs.schedule.Schedule.change_uncounted.Goals as goal

pub returns-clause-kept : goal.returns-clause-kept
returns-clause-kept c =
    let b = c.args.self.now in
    let e = c.args.edge in
    kept_uncounted c.args.plan.now b _ e c.args.next c.requires.plan c.requires.kept c.requires.here c.requires.alike refl refl refl refl refl
    (c.move_edge.ensures ∙ ap (moved b.buckets e) (its_same _ _ _ _ _ _ _ _ e c.deref.ensures.value c.deref-2.ensures.value c.deref-3.ensures.value c.deref-4.ensures.value))
