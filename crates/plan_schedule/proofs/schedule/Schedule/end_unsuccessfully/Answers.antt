use Rattle.std.proofs.Common.{◌≡◌, ◌≢◌, ◌<◌, ◌≤◌, ◌+◌, ◌++◌, ◌∷◌, [], ◌∙◌, ◌⊎◌, inl, inr, ℕ, List, Option, None, Some, Bool, true, false, ap, arith, get_or, get_or-set_other, get_or-set_same, length, refl, set, subst, sym, take}
use Rattle.std.specs.Prelude.{Contains, slice_index}
use Rattle.std.proofs.lemmas.Bool.{cases_eq}
use Rattle.std.proofs.lemmas.List.{get_or_default, take_all, take_more}
use Rattle.std.proofs.lemmas.List.Elements.{All-get_or, Contains-get_or, Contains-push_cases}
use Rattle.plan_schedule.specs.BucketContents.{bucket_len}
use Rattle.plan_schedule.specs.declared.phase.Phase.{Phase}
use Rattle.plan_schedule.specs.declared.phase.Phase.TheVariants.{Unbegun, Runnable, AtTake, Waiting, Succeeded, Failed, Abandoned, NotWanted}
use Rattle.plan_schedule.specs.Phases.{is_unsuccessful, has_succeeded, phase_at}
use Rattle.plan_schedule.specs.Scheduling.{IsFailedWait, edges_of, count_unsucceeded, dependents_of, waits_of}
use Rattle.plan_schedule.specs.BucketRules.{failed_wait_at}
use Rattle.plan_schedule.proofs.WaitLemmas.{failed_wait_apart, failed_wait_here, in_bucket_len, bucket_len_in, unsucceeded_same}
use Rattle.plan_schedule.proofs.schedule.Schedule.end_unsuccessfully.Goals as goal

ill_not_well : (x : Phase) → is_unsuccessful x ≡ true → has_succeeded x ≡ false
ill_not_well Unbegun h = refl
ill_not_well (Runnable b) h = refl
ill_not_well (AtTake b) h = refl
ill_not_well (Waiting b) h = refl
ill_not_well Succeeded h = absurd (cc)
ill_not_well Failed h = refl
ill_not_well Abandoned h = refl
ill_not_well NotWanted h = refl

pub loop-dependent-init : goal.loop-dependent-init
loop-dependent-init c =
    let plan = c.args.plan.now in
    let e = c.args.edge in
    let el : e < length plan.dependents.items = omega (arith, c.requires.here, c.requires.plan.dependents_sized) in
    record {
      kept = c.enter.ensures.kept;
      phases = c.enter.ensures.phases;
      waiting = c.enter.ensures.waiting;
      dependents = c.as_slice-dependents.ensures ∙ (c.index.ensures ∙ get_or_default plan.dependents.items e c.index.result.now [] el);
      failed_wait = λ x h. inr (ap (λ (l : List (Option ℕ)). failed_wait_at l x) c.enter.ensures.failed_wait, λ (k, lt, q). absurd (omega (arith, lt)));
    }

-- the failed wait that an edge is known to have
abbrev Blamed : List (Option ℕ) → List (Option ℕ) → List ℕ → ℕ → ℕ → ℕ → Type 0
Blamed now old dependents i e x = ((failed_wait_at now x ≡ Some e) × Contains dependents x) ⊎ ((failed_wait_at now x ≡ failed_wait_at old x) × (Contains (take i dependents) x → ⊥))

failed_waits_are_next : (was old : List (Option ℕ)) (dependents : List ℕ) (i e x : ℕ) → i < length dependents → slice_index dependents i < length was → Blamed was old dependents i e x → Blamed (set was (slice_index dependents i) (Some e)) old dependents (i + 1) e x
failed_waits_are_next was old dependents i e x lt ul is =
    let u = slice_index dependents i in
    elim (cases_eq x u) [
      | inl same ↦ inl (ap (failed_wait_at (set was u (Some e))) same ∙ get_or-set_same was u (Some e) None ul, subst (Contains dependents) (sym same) (Contains-get_or dependents i 0 lt))
      | inr other ↦
          let stay : failed_wait_at (set was u (Some e)) x ≡ failed_wait_at was x = get_or-set_other was u x (Some e) None other in
          elim is [
            | inl a ↦ inl (stay ∙ a.0, a.1)
            | inr a ↦ inr (
              stay ∙ a.0,
              λ k. elim (Contains-push_cases (take i dependents) u x (subst (λ (l : List ℕ). Contains l x) (take_more dependents i 0 lt) k)) [
                | inl m ↦ a.1 m
                | inr q ↦ other (sym q)
              ],
            )
          ]
    ]

pub loop-dependent-preserved : goal.loop-dependent-preserved
loop-dependent-preserved c =
    let dependents = c.as_slice-dependents.result.now in
    let i = c.loop-dependent.dependent-index in
    let s = c.loop-dependent.self in
    let inv = c.loop-dependent.invariant in
    let lt : i < length dependents = c.loop-dependent-test.true in
    let is = c.requires.plan in
    let ul : slice_index dependents i < edges_of c.args.plan.now = All-get_or (λ x. x < edges_of c.args.plan.now) dependents i 0 lt (λ k d g. subst (λ (l : List ℕ). get_or l k d < edges_of c.args.plan.now) (sym inv.dependents) (is.dependents_in c.args.edge k d (subst (λ (l : List ℕ). k < length l) inv.dependents g))) in
    let bl : slice_index dependents i < length s.failed_wait.items = omega (arith, ul, inv.kept.failed_wait_sized) in
    record {
      kept = c.note_failed_wait.ensures.kept;
      phases = c.note_failed_wait.ensures.phases ∙ inv.phases;
      waiting = c.note_failed_wait.ensures.waiting ∙ inv.waiting;
      dependents = inv.dependents;
      failed_wait = λ x h. subst (λ (l : List (Option ℕ)). Blamed l c.args.self.now.failed_wait.items dependents (i + 1) c.args.edge x) (sym c.note_failed_wait.ensures.failed_wait)
          (failed_waits_are_next s.failed_wait.items c.args.self.now.failed_wait.items dependents i c.args.edge x lt bl (inv.failed_wait x h));
    }

pub returns-clause-phases : goal.returns-clause-phases
returns-clause-phases c = c.loop-dependent.invariant.phases

pub returns-clause-schedule : goal.returns-clause-schedule
returns-clause-schedule c =
    let b = c.args.self.now in
    let n = c.loop-dependent.self in
    let inv = c.loop-dependent.invariant in
    let old = c.requires.schedule in
    let plan = c.args.plan.now in
    let is = c.requires.plan in
    let e = c.args.edge in
    let next = c.args.next in
    let dependents = c.as_slice-dependents.result.now in
    let h : e < length b.phases.items = omega (arith, c.requires.here, old.kept.phases_sized) in
    let all : take c.loop-dependent.dependent-index dependents ≡ dependents = take_all c.loop-dependent.dependent-index dependents c.loop-dependent-test.false in
    let well : has_succeeded (phase_at b.phases.items e) ≡ has_succeeded next = c.requires.well ∙ sym (ill_not_well next c.requires.next) in
    record {
      kept = inv.kept;
      waiting = λ x lt. ap (λ (l : List ℕ). slice_index l x) inv.waiting ∙ (old.waiting x lt
          ∙ (sym (unsucceeded_same b.phases.items e next (waits_of plan x) h well) ∙ ap (λ (l : List Phase). count_unsucceeded l (waits_of plan x)) (sym inv.phases)));
      failed_waits_are = λ x lt.
          let turned : bucket_len x (dependents_of plan e) ≡ bucket_len e (waits_of plan x) = is.turned x e lt c.requires.here in
          let dependents_are : bucket_len x dependents ≡ bucket_len x (dependents_of plan e) = ap (bucket_len x) inv.dependents in
          subst (λ (l : List Phase). IsFailedWait l (waits_of plan x) (failed_wait_at n.failed_wait.items x)) (sym inv.phases) (elim (inv.failed_wait x lt) [
            | inl a ↦
                let some : 0 < bucket_len x dependents = bucket_len_in dependents x a.1 in
                subst (IsFailedWait (set b.phases.items e next) (waits_of plan x)) (sym a.0)
                (failed_wait_here b.phases.items e next (waits_of plan x) h c.requires.next (in_bucket_len (waits_of plan x) e (omega (arith, some, turned, dependents_are))))
            | inr a ↦ subst (IsFailedWait (set b.phases.items e next) (waits_of plan x)) (sym a.0)
                (failed_wait_apart b.phases.items e next (waits_of plan x) (failed_wait_at b.failed_wait.items x)
                (λ k. let some : 0 < bucket_len e (waits_of plan x) = bucket_len_in (waits_of plan x) e k in
                a.1 (subst (λ (l : List ℕ). Contains l x) (sym all) (in_bucket_len dependents x (omega (arith, some, turned, dependents_are)))))
                (old.failed_waits_are x lt))
          ]);
    }
