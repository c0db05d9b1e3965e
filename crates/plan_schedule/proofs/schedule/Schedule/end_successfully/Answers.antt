use Rattle.std.proofs.Common.{◌≡◌, ◌≢◌, ◌<◌, ◌≤◌, ◌+◌, ◌-◌, ◌∙◌, ◌⊎◌, inl, inr, ℕ, List, Option, None, ap, arith, get_or, get_or-set_other, get_or-set_same, false, length, refl, set, subst, sym, take}
use Rattle.std.specs.Prelude.{All, slice_index}
use Rattle.std.proofs.lemmas.Bool.{cases_eq}
use Rattle.std.proofs.lemmas.List.{take_all}
use Rattle.std.proofs.lemmas.List.Elements.{All-get_or}
use Rattle.plan_schedule.specs.BucketContents.{bucket_len}
use Rattle.plan_schedule.specs.declared.phase.Phase.{Phase}
use Rattle.plan_schedule.specs.declared.phase.Phase.TheVariants.{Succeeded}
use Rattle.plan_schedule.specs.declared.plan.Plan.{Plan}
use Rattle.plan_schedule.specs.declared.schedule.Schedule.{Schedule}
use Rattle.plan_schedule.specs.Phases.{has_succeeded, phase_at}
use Rattle.plan_schedule.specs.Scheduling.{IsSchedule, IsFailedWait, IsPlan, edges_of, count_unsucceeded, dependents_of, waits_of}
use Rattle.plan_schedule.proofs.WaitLemmas.{failed_wait_kept, bucket_len_next, bucket_len_past, bucket_len_take, bucket_len_unwell, unsucceeded_after}
use Rattle.plan_schedule.proofs.schedule.Schedule.end_successfully.Goals as goal

-- an edge still waits for the one that ended
some_left : (plan : Plan) (b : Schedule) (waiting dependents : List ℕ) (i e u : ℕ) → IsPlan plan → IsSchedule plan b → e < edges_of plan → has_succeeded (phase_at b.phases.items e) ≡ false → dependents ≡ dependents_of plan e → i < length dependents
    → slice_index dependents i ≡ u → u < edges_of plan → slice_index waiting u + bucket_len u (take i dependents) ≡ slice_index b.waiting.items u → 0 < slice_index waiting u
some_left plan b waiting dependents i e u is old el well same lt at ul here =
    let h : e < length b.phases.items = omega (arith, el, old.kept.phases_sized) in
    let was : slice_index b.waiting.items u ≡ count_unsucceeded b.phases.items (waits_of plan u) = old.waiting u ul in
    let more : bucket_len e (waits_of plan u) ≤ count_unsucceeded b.phases.items (waits_of plan u) = bucket_len_unwell b.phases.items e (waits_of plan u) h well in
    let turned : bucket_len u (dependents_of plan e) ≡ bucket_len e (waits_of plan u) = is.turned u e ul el in
    let dependents_are : bucket_len u dependents ≡ bucket_len u (dependents_of plan e) = ap (bucket_len u) same in
    let next : bucket_len u (take (i + 1) dependents) ≡ bucket_len u (take i dependents) + 1 = bucket_len_next u dependents i lt at in
    let part : bucket_len u (take (i + 1) dependents) ≤ bucket_len u dependents = bucket_len_take u dependents (i + 1) in
    omega (arith, here, was, more, turned, dependents_are, next, part)

in_edges : (plan : Plan) (dependents : List ℕ) (i e : ℕ) → IsPlan plan → dependents ≡ dependents_of plan e → i < length dependents → slice_index dependents i < edges_of plan
in_edges plan dependents i e is same lt =
    let all : All (λ x. x < edges_of plan) dependents = subst (λ (l : List ℕ). All (λ x. x < edges_of plan) l) (sym same) (is.dependents_in e) in
    All-get_or (λ x. x < edges_of plan) dependents i 0 lt all

pub decrement_unfinished_waits-requires-clause-some : goal.decrement_unfinished_waits-requires-clause-some
decrement_unfinished_waits-requires-clause-some c =
    let plan = c.args.plan.now in
    let dependents = c.as_slice-dependents.result.now in
    let i = c.loop-dependent.dependent-index in
    let inv = c.loop-dependent.invariant in
    let lt : i < length dependents = c.loop-dependent-test.true in
    let ul : slice_index dependents i < edges_of plan = in_edges plan dependents i c.args.edge c.requires.plan inv.dependents lt in
    some_left plan c.args.self.now c.loop-dependent.self.waiting.items dependents i c.args.edge (slice_index dependents i) c.requires.plan c.requires.schedule c.requires.here c.requires.well inv.dependents lt refl ul (inv.waiting (slice_index dependents i) ul)

pub loop-dependent-preserved : goal.loop-dependent-preserved
loop-dependent-preserved c =
    let dependents = c.as_slice-dependents.result.now in
    let i = c.loop-dependent.dependent-index in
    let u = slice_index dependents i in
    let s = c.loop-dependent.self in
    let n = c.decrement_unfinished_waits.new.self in
    let inv = c.loop-dependent.invariant in
    let lt : i < length dependents = c.loop-dependent-test.true in
    let ul : u < edges_of c.args.plan.now = in_edges c.args.plan.now dependents i c.args.edge c.requires.plan inv.dependents lt in
    let wl : u < length s.waiting.items = omega (arith, ul, inv.kept.waiting_sized) in
    record {
      kept = c.decrement_unfinished_waits.ensures.kept;
      phases = c.decrement_unfinished_waits.ensures.phases ∙ inv.phases;
      failed_wait = c.decrement_unfinished_waits.ensures.failed_wait ∙ inv.failed_wait;
      dependents = inv.dependents;
      waiting = λ x h.
          let old : slice_index s.waiting.items x + bucket_len x (take i dependents) ≡ slice_index c.args.self.now.waiting.items x = inv.waiting x h in
          let new : slice_index n.waiting.items x ≡ slice_index (set s.waiting.items u (slice_index s.waiting.items u - 1)) x = ap (λ (l : List ℕ). slice_index l x) c.decrement_unfinished_waits.ensures.waiting in
          elim (cases_eq x u) [
            | inl same ↦
                let at : slice_index (set s.waiting.items u (slice_index s.waiting.items u - 1)) x ≡ slice_index s.waiting.items u - 1
                = ap (slice_index (set s.waiting.items u (slice_index s.waiting.items u - 1))) same ∙ get_or-set_same s.waiting.items u (slice_index s.waiting.items u - 1) 0 wl in
                let next : bucket_len x (take (i + 1) dependents) ≡ bucket_len x (take i dependents) + 1 = bucket_len_next x dependents i lt (sym same) in
                let was : slice_index s.waiting.items x ≡ slice_index s.waiting.items u = ap (slice_index s.waiting.items) same in
                let some : 0 < slice_index s.waiting.items u = some_left c.args.plan.now c.args.self.now s.waiting.items dependents i c.args.edge u c.requires.plan c.requires.schedule c.requires.here c.requires.well inv.dependents lt refl ul (inv.waiting u ul) in
                omega (arith, old, new, at, next, was, some)
            | inr other ↦
                let at : slice_index (set s.waiting.items u (slice_index s.waiting.items u - 1)) x ≡ slice_index s.waiting.items x = get_or-set_other s.waiting.items u x (slice_index s.waiting.items u - 1) 0 other in
                let next : bucket_len x (take (i + 1) dependents) ≡ bucket_len x (take i dependents) = bucket_len_past x dependents i lt (λ q. other (sym q)) in
                omega (arith, old, new, at, next)
          ];
    }

pub returns-clause-schedule : goal.returns-clause-schedule
returns-clause-schedule c =
    let b = c.args.self.now in
    let n = c.loop-dependent.self in
    let inv = c.loop-dependent.invariant in
    let old = c.requires.schedule in
    let plan = c.args.plan.now in
    let is = c.requires.plan in
    let e = c.args.edge in
    let dependents = c.as_slice-dependents.result.now in
    let h : e < length b.phases.items = omega (arith, c.requires.here, old.kept.phases_sized) in
    let all : take c.loop-dependent.dependent-index dependents ≡ dependents = take_all c.loop-dependent.dependent-index dependents c.loop-dependent-test.false in
    record {
      kept = inv.kept;
      waiting = λ x lt.
          let left : slice_index n.waiting.items x + bucket_len x (take c.loop-dependent.dependent-index dependents) ≡ slice_index b.waiting.items x = inv.waiting x lt in
          let whole : bucket_len x (take c.loop-dependent.dependent-index dependents) ≡ bucket_len x (dependents_of plan e) = ap (bucket_len x) (all ∙ inv.dependents) in
          let turned : bucket_len x (dependents_of plan e) ≡ bucket_len e (waits_of plan x) = is.turned x e lt c.requires.here in
          let was : slice_index b.waiting.items x ≡ count_unsucceeded b.phases.items (waits_of plan x) = old.waiting x lt in
          let after : count_unsucceeded (set b.phases.items e Succeeded) (waits_of plan x) + bucket_len e (waits_of plan x) ≡ count_unsucceeded b.phases.items (waits_of plan x) = unsucceeded_after b.phases.items e Succeeded (waits_of plan x) h c.requires.well refl in
          let as_now : count_unsucceeded n.phases.items (waits_of plan x) ≡ count_unsucceeded (set b.phases.items e Succeeded) (waits_of plan x) = ap (λ (l : List Phase). count_unsucceeded l (waits_of plan x)) inv.phases in
          omega (arith, left, whole, turned, was, after, as_now);
      failed_waits_are = λ x lt. subst (λ (l : List Phase). IsFailedWait l (waits_of plan x) (get_or n.failed_wait.items x None)) (sym inv.phases)
          (subst (λ (l : List (Option ℕ)). IsFailedWait (set b.phases.items e Succeeded) (waits_of plan x) (get_or l x None)) (sym inv.failed_wait)
          (failed_wait_kept b.phases.items e Succeeded (waits_of plan x) (get_or b.failed_wait.items x None) h c.requires.ill (old.failed_waits_are x lt)));
    }
