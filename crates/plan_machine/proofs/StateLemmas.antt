-- The facts about a reached state for the code of an event; the next state is reached too.
use Rattle.std.proofs.Common.{◌≡◌, ℕ, zero, suc, ◌<◌, Bool, true, false, List, [], ◌∷◌, ◌++◌, length, Option, Some, None, refl, sym, ap, ◌∙◌, subst, inl, inr}
use Rattle.std.specs.Prelude.{◌||◌, ◌&&◌, not, slice_get, slice_set, Ok, IfSome, IsSome}
use Rattle.std.specs.List.{list_all}
use Rattle.std.proofs.lemmas.Bool.{cases_eq}
use Rattle.std.proofs.lemmas.Option.{slice_get_within}
use Rattle.plan_image.specs.declared.image.Parts.{Parts}
use Rattle.plan_image.specs.Code.{code}
use Rattle.plan_verify.specs.declared.kinds.Shape.{Shape}
use Rattle.plan_verify.specs.Members.{is_member}
use Rattle.plan_verify.specs.Tables.{waits_of}
use Rattle.plan_verify.specs.Turn.{Slots, Request, Local, begun, Did, Turn, Goes, Sets, Asks, Ends, Fails, Wrong as Errs, Meaning, turn, heard, Reply as Answer}
use Rattle.plan_verify.specs.WellShaped.{IsWellShaped}
use Rattle.plan_verify.specs.Sound.{IsSafe, asking}
use Rattle.plan_verify.specs.Seam.{QuestionsIgnoreSlots}
use Rattle.plan_schedule.specs.declared.plan.Plan.{Plan}
use Rattle.plan_schedule.specs.declared.schedule.Schedule.{Schedule}
use Rattle.plan_machine.specs.Limits.{Limits}
use Rattle.plan_machine.specs.declared.event.Event.{Event}
use Rattle.plan_machine.specs.declared.event.Event.TheVariants.{Start, Skip, Stop, Step, Reply as Hear}
use Rattle.plan_machine.specs.declared.event.Mark.{Mark}
use Rattle.plan_machine.specs.declared.event.Outcome.TheVariants.{Failed, Skipped, Stopped}
use Rattle.plan_machine.specs.State.{Status, Unbegun, Active, Over, State, has_succeeded, is_unsuccessful, is_over, passes, stands}
use Rattle.plan_machine.specs.Places.{is_spent, is_free, at_take}
use Rattle.plan_machine.specs.Step.{Stepped, Next, Wrong, NotEnabled, stepped, answered, ended, settles, hears_by, starts, skips, stops, steps, hears, answer_of, step}
use Rattle.plan_machine.specs.RunState.{RunState}
use Rattle.plan_machine.specs.Runs.{Runs, Reached, Opens}
use Rattle.plan_machine.specs.Standing.{IsUnderWay, Stands}
use Rattle.plan_machine.specs.Depfile.{depfile}
use Rattle.plan_machine.specs.Working.{Works}
use Rattle.plan_machine.specs.Applying.{Applied, CanTurn}
use Rattle.plan_machine.specs.Hearing.{CanHear}
use Rattle.plan_machine.specs.Edges.{edge_of}
use Rattle.plan_machine.specs.Total.{commands_among, is_wanted, total_of}
use Rattle.plan_machine.specs.Kept.{Running, AreKept, IsBehind, IsStateOf, Changed}
use Rattle.plan_machine.proofs.ListLemmas.{get_other, get_same, is_some_of, when_either}
use Rattle.plan_machine.specs.TurnLaws.{TurnLaws}
use Rattle.plan_machine.proofs.StandingLemmas.{turn_safe}
use Rattle.plan_machine.proofs.OpensLemmas.{reached_stands}

pub state_stands : TurnLaws → (p : Parts) → IsWellShaped p → (r : Running) → IsStateOf p r → Stands p r.run_state.now
state_stands laws p shaped r is = reached_stands laws depfile p shaped r.run_state.limits is.targets is.events is.marks r.run_state.now is.reached

safe_works : (p : Parts) (e : ℕ) (shapes : List Shape) (slots : Slots) (l : Local) (t : Turn) → IsSafe p e shapes slots l t → Works t
safe_works p e shapes slots l (Goes did m) safe = tt
safe_works p e shapes slots l (Sets k v m) safe = tt
safe_works p e shapes slots l (Asks q) safe = tt
safe_works p e shapes slots l Ends safe = tt
safe_works p e shapes slots l (Fails cause) safe = tt
safe_works p e shapes slots l (Errs flaw) safe = safe

place_within : (p : Parts) (s : State) (e : ℕ) (l : Local) → IsUnderWay p s e l → l.place < length (code p e)
place_within p s e l u = let i = is_some_of (slice_get (code p e) l.place) u.typed.inside in slice_get_within (code p e) l.place i.0 i.1

-- a running edge makes a turn that isn't wrong
pub can_turn : TurnLaws → (p : Parts) → IsWellShaped p → (limits : Limits) (s : State) → Stands p s → (e : ℕ) (l : Local) → slice_get s.edges e ≡ Some (Active l) → CanTurn p s.slots e l
can_turn laws p shaped limits s sound e l now =
    let u = sound.active e l now in
    record {
      works = safe_works p e u.shapes s.slots l (turn p e s.slots l) (turn_safe laws depfile p shaped limits s sound e l u);
      place = place_within p s e l u;
      table = sound.typed.table;
    }

-- the effect of a reply isn't wrong
pub can_hear : TurnLaws → QuestionsIgnoreSlots → (p : Parts) (s : State) → Stands p s → (e : ℕ) (r : Answer) (l : Local) → slice_get s.edges e ≡ Some (Active l) → CanHear p e r l
can_hear laws ignore p s sound e r l now =
    let u = sound.active e l now in
    record {
      works = by u (heard depfile p e l r) (laws.replies_safe p e u.shapes u.all s.slots l depfile r u.typed);
      place = place_within p s e l u;
      asks = λ loud. subst (λ (o : Option Request). IsSome o) (ignore p e s.slots [] l) (u.typed.awaits loud);
    }
  where
    by : (u : IsUnderWay p s e l) (o : Option Turn) → IfSome o (IsSafe p e u.shapes s.slots l) → IfSome o Works
    by u None h = tt
    by u (Some t) h = safe_works p e u.shapes s.slots l t h

-- ---- a run, one event longer

pub runs_more : (p : Parts) (limits : Limits) (s mid end : State) (events : List Event) (marks : List Mark) (event : Event) (told : Mark)
    → Runs depfile p limits s events marks mid → step depfile p limits mid event ≡ Next end told → Runs depfile p limits s (events ++ event ∷ []) (marks ++ told ∷ []) end
runs_more p limits s mid end [] [] event told run is = (end, subst (λ (t : State). step depfile p limits t event ≡ Next end told) (sym run) is, refl)
runs_more p limits s mid end (x ∷ events) (m ∷ marks) event told run is = (run.0, run.1, runs_more p limits run.0 mid end events marks event told run.2 is)
runs_more p limits s mid end [] (m ∷ marks) event told run is = absurd run
runs_more p limits s mid end (x ∷ events) [] event told run is = absurd run

-- ---- an event changes only its edge

module _ (meaning : Meaning) (p : Parts) (limits : Limits) (s : State) where
  abbrev Changes : ℕ → Stepped → Type 0
  Changes e (Next mid told) = Changed s mid e
  Changes e (Wrong flaw) = Unit {0}
  Changes e NotEnabled = Unit {0}

  ended_wanted : (ran : Bool) → is_wanted (Over (ended ran)) ≡ true
  ended_wanted true = refl
  ended_wanted false = refl

  settles_changes : (e : ℕ) (l : Local) (told : Did → Mark) (t : Turn) → slice_get s.edges e ≡ Some (Active l) → Changes e (settles s e l told t)
  settles_changes e l told (Goes did m) now = record { before = Active l; after = Active m; now = now; was_open = refl; still_wanted = refl; left = refl }
  settles_changes e l told (Sets k v m) now = record { before = Active l; after = Active m; now = now; was_open = refl; still_wanted = refl; left = refl }
  settles_changes e l told (Asks q) now = record { before = Active l; after = Active (asking l); now = now; was_open = refl; still_wanted = refl; left = refl }
  settles_changes e l told Ends now = record { before = Active l; after = Over (ended l.ran); now = now; was_open = refl; still_wanted = ended_wanted l.ran; left = refl }
  settles_changes e l told (Fails cause) now = record { before = Active l; after = Over (Failed cause); now = now; was_open = refl; still_wanted = refl; left = refl }
  settles_changes e l told (Errs flaw) now = tt

  starts_changes : (e : ℕ) (o : Option Status) → slice_get s.edges e ≡ o → Changes e (starts p s e o)
  starts_changes e (Some Unbegun) now =
      when_either (Changes e) (list_all (stands has_succeeded s) (waits_of p e)) _ _ (λ h. record { before = Unbegun; after = Active begun; now = now; was_open = refl; still_wanted = refl; left = refl }) (λ h. tt)
  starts_changes e None now = tt
  starts_changes e (Some (Active l)) now = tt
  starts_changes e (Some (Over outcome)) now = tt

  skips_changes : (e w : ℕ) (o : Option Status) → slice_get s.edges e ≡ o → Changes e (skips p s e w o)
  skips_changes e w (Some Unbegun) now =
      when_either (Changes e) (is_member w (waits_of p e) && stands is_unsuccessful s w) _ _ (λ h. record { before = Unbegun; after = Over (Skipped w); now = now; was_open = refl; still_wanted = refl; left = refl }) (λ h. tt)
  skips_changes e w None now = tt
  skips_changes e w (Some (Active l)) now = tt
  skips_changes e w (Some (Over outcome)) now = tt

  stops_changes : (e : ℕ) (o : Option Status) → slice_get s.edges e ≡ o → Changes e (stops p limits s e o)
  stops_changes e (Some Unbegun) now = when_either (Changes e) (is_spent limits s) _ _ (λ h. record { before = Unbegun; after = Over Stopped; now = now; was_open = refl; still_wanted = refl; left = refl }) (λ h. tt)
  stops_changes e (Some (Active l)) now =
      when_either (Changes e) (is_spent limits s && at_take p e l) _ _ (λ h. record { before = Active l; after = Over Stopped; now = now; was_open = refl; still_wanted = refl; left = refl }) (λ h. tt)
  stops_changes e None now = tt
  stops_changes e (Some (Over outcome)) now = tt

  steps_changes : (e : ℕ) (o : Option Status) → slice_get s.edges e ≡ o → Changes e (steps p limits s e o)
  steps_changes e (Some (Active l)) now =
      when_either (Changes e) (l.asked || (at_take p e l && not (is_free p limits s e))) _ _ (λ h. tt) (λ h. settles_changes e l (stepped e) (turn p e s.slots l) now)
  steps_changes e None now = tt
  steps_changes e (Some Unbegun) now = tt
  steps_changes e (Some (Over outcome)) now = tt

  hears_changes : (e : ℕ) (r : Answer) (o : Option Status) → slice_get s.edges e ≡ o → Changes e (hears meaning p s e r o)
  hears_changes e r (Some (Active l)) now = by (heard meaning p e l r)
    where
      by : (o : Option Turn) → Changes e (hears_by s e l o)
      by None = tt
      by (Some t) = settles_changes e l (answered e) t now
  hears_changes e r None now = tt
  hears_changes e r (Some Unbegun) now = tt
  hears_changes e r (Some (Over outcome)) now = tt

  step_changes : (event : Event) → Changes (edge_of event) (step meaning p limits s event)
  unfolding step
  step_changes (Start e) = starts_changes e (slice_get s.edges e) refl
  step_changes (Skip e w) = skips_changes e w (slice_get s.edges e) refl
  step_changes (Stop e) = stops_changes e (slice_get s.edges e) refl
  step_changes (Step e) = steps_changes e (slice_get s.edges e) refl
  step_changes (Hear e r) = hears_changes e (answer_of r) (slice_get s.edges e) refl

  pub changed : (mid : State) (event : Event) (told : Mark) → step meaning p limits s event ≡ Next mid told → Changed s mid (edge_of event)
  changed mid event told is = let it : Changes (edge_of event) (Next mid told) = subst (Changes (edge_of event)) is (step_changes event) in it

-- ---- commands that a run may have

same_commands : (p : Parts) (s new : State) → ((e : ℕ) → stands is_wanted new e ≡ stands is_wanted s e) → (n : ℕ) → commands_among p new n ≡ commands_among p s n
same_commands p s new same zero = refl
same_commands p s new same (suc n) = rw (same n, same_commands p s new same n) refl

open_wanted : (st : Status) → is_over st ≡ false → is_wanted st ≡ true
open_wanted Unbegun h = refl
open_wanted (Active l) h = refl
open_wanted (Over outcome) h = absurd cc

pub same_total : (p : Parts) (s new : State) (e : ℕ) → Changed s new e → total_of p new ≡ total_of p s
same_total p s new e c = same_commands p s new each (length p.edges)
  where
    within : e < length s.edges
    within = slice_get_within s.edges e c.before c.now

    each : (k : ℕ) → stands is_wanted new k ≡ stands is_wanted s k
    each k = elim (cases_eq e k) [
      | inl same ↦
          ap (λ (l : List Status). passes is_wanted (slice_get l k)) c.left
          ∙ ap (λ (n : ℕ). passes is_wanted (slice_get (slice_set s.edges e c.after) n)) (sym same) ∙ ap (passes is_wanted) (get_same s.edges e c.after within)
          ∙ c.still_wanted ∙ sym (open_wanted c.before c.was_open) ∙ sym (ap (passes is_wanted) c.now) ∙ ap (λ (n : ℕ). stands is_wanted s n) same
      | inr ne ↦ ap (λ (l : List Status). passes is_wanted (slice_get l k)) c.left ∙ ap (passes is_wanted) (get_other s.edges e k c.after ne)
    ]

-- an applied event leads to a reached state
pub still_reached : (p : Parts) (old new : RunState) (targets : List ℕ) (events : List Event) (marks : List Mark) (event : Event) (told : Mark)
    → Reached depfile p old.limits targets events marks old.now → Applied p old event (Ok told) new
    → Reached depfile p new.limits targets (events ++ event ∷ []) (marks ++ told ∷ []) new.now
still_reached p old new targets events marks event told reached applied =
    subst (λ (limits : Limits). Reached depfile p limits targets (events ++ event ∷ []) (marks ++ told ∷ []) new.now) (sym applied.1)
    (record { start = reached.start; opens = reached.opens; run = runs_more p old.limits reached.start old.now new.now events marks event told reached.run applied.0 })

-- the schedule agrees with the state before an applied event
pub left_behind : (p : Parts) (old new : Running) (event : Event) (told : Mark) (e : ℕ) → AreKept p old.run_state.now old.plan old.schedule → Applied p old.run_state event (Ok told) new.run_state
    → new.plan ≡ old.plan → new.schedule ≡ old.schedule → e ≡ edge_of event → IsBehind p new e
left_behind p old new event told e kept applied plan schedule is =
    record {
      old = old.run_state.now;
      kept = subst (λ (x : Plan). AreKept p old.run_state.now x new.schedule) (sym plan) (subst (λ (x : Schedule). AreKept p old.run_state.now old.plan x) (sym schedule) kept);
      changed = subst (Changed old.run_state.now new.run_state.now) (sym is) (changed depfile p old.run_state.limits old.run_state.now new.run_state.now event told applied.0);
    }

-- an applied event leads to a state of the image, after the schedule is updated
pub next_state : (p : Parts) (old mid new : Running) (event : Event) (told : Mark) → IsStateOf p old → Applied p old.run_state event (Ok told) mid.run_state → new.run_state ≡ mid.run_state → new.total ≡ old.total
    → AreKept p new.run_state.now new.plan new.schedule → IsStateOf p new
next_state p old mid new event told is applied same total kept =
    record {
      targets = is.targets;
      events = is.events ++ event ∷ [];
      marks = is.marks ++ told ∷ [];
      reached = subst (λ (g : RunState). Reached depfile p g.limits is.targets (is.events ++ event ∷ []) (is.marks ++ told ∷ []) g.now) (sym same)
          (still_reached p old.run_state mid.run_state is.targets is.events is.marks event told is.reached applied);
      kept = kept;
      counted = total ∙ is.counted
          ∙ sym (ap (λ (g : RunState). total_of p g.now) same ∙ same_total p old.run_state.now mid.run_state.now (edge_of event) (changed depfile p old.run_state.limits old.run_state.now mid.run_state.now event told applied.0));
    }

pub first_state : (p : Parts) (targets : List ℕ) (r : Running) → Opens p targets r.run_state.now → AreKept p r.run_state.now r.plan r.schedule → r.total ≡ total_of p r.run_state.now → IsStateOf p r
first_state p targets r opens kept counted = record { targets = targets; events = []; marks = []; reached = record { start = r.run_state.now; opens = opens; run = refl }; kept = kept; counted = counted }
