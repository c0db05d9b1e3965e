use Rattle.std.proofs.Common.{◌≡◌, ◌≢◌, ◌-◌, ◌∙◌, ℕ, List, None, Some, Option, ap, get_or, get_or-set_other, length, length-set, refl, set, sym}
use Rattle.plan_schedule.proofs.ScheduleLemmas.{its_same, kept_noted, moved}
use Rattle.plan_schedule.proofs.schedule.Schedule.decrement_unfinished_waits.Goals as goal

pub returns-clause-kept : goal.returns-clause-kept
returns-clause-kept c =
    let b = c.args.self.now in
    kept_noted c.args.plan.now b _ c.args.dependent c.requires.plan c.requires.kept c.requires.here refl refl refl (length-set b.waiting.items c.args.dependent (c.index.result.now - 1)) refl
    (λ x other. get_or-set_other b.waiting.items c.args.dependent x (c.index.result.now - 1) 0 other) (λ x other. refl)
    (c.move_edge.ensures ∙ ap (moved b.buckets c.args.dependent) (its_same _ _ _ _ _ _ _ _ c.args.dependent c.deref.ensures.value c.deref-2.ensures.value c.deref-3.ensures.value c.deref-4.ensures.value))
