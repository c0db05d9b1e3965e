-- Runs that are one event longer, and runs from the opening state.
use Rattle.std.proofs.Common.{◌≡◌, ◌≢◌, ℕ, zero, suc, ◌+◌, ◌<◌, List, [], ◌∷◌, ◌++◌, length, take, Result, Ok, Err, Some, refl, sym, ap, ◌∙◌, subst, arith, inl, inr, false, true}
use Rattle.std.specs.Prelude.{◌⊎◌, IfOk, OnOk, slice_get}
use Rattle.plan_image.specs.declared.image.Parts.{Parts}
use Rattle.plan_verify.specs.WellShaped.{IsWellShaped}
use Rattle.plan_machine.specs.Limits.{Limits}
use Rattle.plan_machine.specs.declared.event.Event.{Event}
use Rattle.plan_machine.specs.declared.event.Mark.{Mark}
use Rattle.plan_machine.specs.declared.run.refused.Refused.{Refused}
use Rattle.plan_machine.specs.declared.run.refused.Refused.TheVariants as refused
use Rattle.plan_machine.specs.RunState.{RunState}
use Rattle.plan_machine.specs.Step.{Next, NotEnabled, step}
use Rattle.plan_machine.specs.Depfile.{depfile}
use Rattle.plan_machine.specs.Runs.{Opens, Runs, Reached}
use Rattle.plan_machine.specs.Applying.{Applied}
use Rattle.plan_machine.specs.Replaying.{IsReplayFault, IsStop, RunsBefore, RunsTo, StopsFrom, Went}
use Rattle.plan_machine.specs.Wanted.{any_outside}
use Rattle.plan_machine.proofs.StateLemmas.{runs_more}

pub went : (p : Parts) (old new : RunState) (event : Event) (told : Mark) (marks after : List Mark) → Applied p old event (Ok told) new → after ≡ marks ++ told ∷ [] → Went p old event marks new after
went p old new event told marks after applied kept = record { told = told; did = applied.0; limits = applied.1; kept = kept }

pub not_enabled : (p : Parts) (old new : RunState) (event : Event) (r : Refused) → Applied p old event (Err r) new → r ≡ refused.NotEnabled → step depfile p old.limits old.now event ≡ NotEnabled
not_enabled p old new event refused.NotEnabled applied is = applied.0
not_enabled p old new event refused.Memory applied is = absurd cc
not_enabled p old new event refused.BadTarget applied is = absurd applied

pub not_outside : (p : Parts) (old new : RunState) (event : Event) (r : Refused) → Applied p old event (Err r) new → r ≢ refused.BadTarget
not_outside p old new event refused.NotEnabled applied is = absurd cc
not_outside p old new event refused.Memory applied is = absurd cc
not_outside p old new event refused.BadTarget applied is = applied

pub runs_none : (p : Parts) (g : RunState) (marks : List Mark) → marks ≡ [] → RunsTo p g [] marks g
runs_none p g marks none = subst (λ (m : List Mark). RunsTo p g [] m g) (sym none) (record { run = refl; limits = refl })

take_more : (l : List Event) (i : ℕ) (x : Event) → slice_get l i ≡ Some x → take (i + 1) l ≡ take i l ++ x ∷ []
take_more l i x at = let one : i + 1 ≡ suc i = omega arith in rw one (by l i at)
  where
    by : (l : List Event) (i : ℕ) → slice_get l i ≡ Some x → take (suc i) l ≡ take i l ++ x ∷ []
    by [] i at = absurd cc
    by (y ∷ l) zero at = let same : y ≡ x = cc in ap (λ (z : Event). z ∷ []) same
    by (y ∷ l) (suc i) at = ap (λ (z : List Event). y ∷ z) (by l i at)

pub runs_next : (p : Parts) (old mid new : RunState) (events : List Event) (i : ℕ) (event : Event) (marks after : List Mark) → slice_get events i ≡ Some event → RunsTo p old (take i events) marks mid → Went p mid event marks new after
    → RunsTo p old (take (i + 1) events) after new
runs_next p old mid new events i event marks after at r w =
    subst (λ (l : List Event). RunsTo p old l after new) (sym (take_more events i event at))
    (subst (λ (m : List Mark). RunsTo p old (take i events ++ event ∷ []) m new) (sym w.kept)
    (record {
      run = runs_more p old.limits old.now mid.now new.now (take i events) marks event w.told r.run (subst (λ (l : Limits). step depfile p l mid.now event ≡ Next new.now w.told) r.limits w.did);
      limits = w.limits ∙ r.limits;
    }))

pub stops : (p : Parts) (old mid : RunState) (events : List Event) (i : ℕ) (event : Event) (marks : List Mark) (r : Refused) → slice_get events i ≡ Some event → RunsTo p old (take i events) marks mid → i < length events
    → (r ≡ refused.NotEnabled → step depfile p mid.limits mid.now event ≡ NotEnabled) → r ≢ refused.BadTarget → IsStop p old.limits old.now events i r
stops p old mid events i event marks refused.NotEnabled at run lt why inside =
    record { marks = marks; before = mid.now; run = run.run; event = event; there = at; refused = subst (λ (l : Limits). step depfile p l mid.now event ≡ NotEnabled) run.limits (why refl) }
stops p old mid events i event marks refused.Memory at run lt why inside = record { within = omega (arith, lt); marks = marks; before = mid.now; run = run.run }
stops p old mid events i event marks refused.BadTarget at run lt why inside = absurd (inside refl)

pub on_ok_more : {A E : Type 0} (P : A → Type 0) (Q : Type 0) (r : Result A E) → ((x : A) → P x → Q) → IfOk r P → OnOk r Q
on_ok_more P Q (Ok x) more h = more x h
on_ok_more P Q (Err e) more h = tt

-- ---- from the opening

module _ (p : Parts) (shaped : IsWellShaped p) (limits : Limits) (targets : List ℕ) (events : List Event) (start : RunState) (opens : Opens p targets start.now) (same : start.limits ≡ limits) where
  pub whole : (marks : List Mark) (end : RunState) → RunsTo p start events marks end → Reached depfile p limits targets events marks end.now
  whole marks end r = record { start = start.now; opens = opens; run = subst (λ (l : Limits). Runs depfile p l start.now events marks end.now) same r.run }

  pub fault : any_outside p targets ≡ false → (n : ℕ) (r : Refused) → IsStop p start.limits start.now events n r → IsReplayFault p limits targets events n r
  fault inside n refused.NotEnabled stop = (start.now, opens, subst (λ (l : Limits). StopsFrom p l start.now events n) same stop)
  fault inside n refused.Memory stop = (inside, inr (start.now, opens, subst (λ (l : Limits). RunsBefore p l start.now events n) same stop))
  fault inside n refused.BadTarget stop = absurd stop

-- the opening is refused before any event
pub open_fault : (p : Parts) (limits : Limits) (targets : List ℕ) (events : List Event) (r : Refused)
    → ((r ≡ refused.Memory) × (any_outside p targets ≡ false)) ⊎ ((r ≡ refused.BadTarget) × (any_outside p targets ≡ true)) → IsReplayFault p limits targets events 0 r
open_fault p limits targets events r (inl h) = subst (IsReplayFault p limits targets events 0) (sym h.0) (h.1, inl refl)
open_fault p limits targets events r (inr h) = subst (IsReplayFault p limits targets events 0) (sym h.0) (refl, h.1)
