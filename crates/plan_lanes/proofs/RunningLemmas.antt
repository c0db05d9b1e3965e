-- Edges whose commands run hold places. Serves src/running.rt.
use Rattle.std.proofs.Common.{◌≡◌, ◌≢◌, ◌≤◌, ◌<◌, ◌+◌, ℕ, zero, suc, Bool, true, false, not, eqb, List, [], ◌∷◌, length, drop, map, take, Option, Some, None, refl, sym, ap, ◌∙◌, subst, arith}
use Rattle.std.specs.Prelude.{◌&&◌, ◌||◌, ◌==◌, IfSome, Result, Ok, Err, if◌then◌else◌, nat_lt, nat_le, slice_get, slice_set}
use Rattle.std.specs.List.{list_all}
use Rattle.std.proofs.lemmas.Bool.{eq-eqb, eqb-true}
use Rattle.plan_image.specs.declared.body.Instr.{Instr}
use Rattle.plan_image.specs.declared.body.Instr.TheVariants as op
use Rattle.plan_image.specs.declared.image.Edge.{Edge}
use Rattle.plan_image.specs.declared.image.Pool.{Pool}
use Rattle.plan_image.specs.declared.image.Slot.{Slot}
use Rattle.plan_image.specs.declared.image.Parts.{Parts}
use Rattle.plan_image.specs.Code.{code}
use Rattle.plan_verify.specs.declared.value.Value.{Value}
use Rattle.plan_verify.specs.declared.value.Value.TheVariants.{Stamp, Flag, Text, Paths, Swept}
use Rattle.plan_verify.specs.Members.{is_member}
use Rattle.plan_verify.specs.Sound.{asking}
use Rattle.plan_verify.specs.Tables.{first_output, outputs_of, own_slots, path_of, paths_of, pool_of, pool_outside, waits_of}
use Rattle.plan_verify.specs.Turn as turns
use Rattle.plan_verify.specs.Turn.{Slots, Local, Request, Stat, Recall, Run, Deps, Keep, Did, Moved, Took, Released, Turn, Goes, Sets, Asks, Ends, Fails, Wrong, Meaning, Calculated, On, TooLong, Off, Reply as Answer, StampIs, Entry, Nothing, Exit, Signal, NotStarted, Bytes, Kept, Fault, turn, heard}
use Rattle.plan_verify.specs.WellShaped.{IsWellShaped}
use Rattle.plan_machine.specs.Limits.{Limits}
use Rattle.plan_machine.specs.declared.event.Event.{Event}
use Rattle.plan_machine.specs.declared.event.Event.TheVariants.{Start, Skip, Stop, Step, Reply as Hear}
use Rattle.plan_machine.specs.declared.event.Mark.{Mark}
use Rattle.plan_machine.specs.declared.event.Mark.TheVariants as mark
use Rattle.plan_machine.specs.declared.event.Outcome.TheVariants.{Failed, Skipped, Stopped}
use Rattle.plan_machine.specs.Edges.{edge_of}
use Rattle.plan_machine.specs.Orderly.{IsOrderly, MarksAreOrderly, holding, holding_of, holds_after, holds_by, holds_then}
use Rattle.plan_machine.specs.Places.{at_take, is_free, is_pool, is_spent}
use Rattle.plan_machine.specs.Requests.{asked_at, asked_by}
use Rattle.plan_machine.specs.Runs.{Opens, Reached, Runs, at_first}
use Rattle.plan_machine.specs.State.{Status, Unbegun, Active, Over, State, is_holder, is_unsuccessful, has_succeeded, passes, stands}
use Rattle.plan_machine.specs.Step.{Stepped, Next, NotEnabled, answer_of, answered, ended, hears, hears_by, settles, skips, starts, step, stepped, steps, stops}
use Rattle.plan_machine.specs.Step.{Wrong as GoesWrong}
use Rattle.plan_lanes.specs.Running.{CommandsKeepToPlaces, KeepsToPlaces, awaits_run, running, running_of}
use Rattle.plan_lanes.proofs.ListLemmas.{get_other, when_either}

-- either branch, by the test
when_so : {A : Type 0} (P : A → Type 0) (b : Bool) (x y : A) → (b ≡ true → P x) → (b ≡ false → P y) → P (if b then x else y)
when_so P true x y yes_x no_y = yes_x refl
when_so P false x y yes_x no_y = no_y refl

-- ---- what a turn says of the place that its edge holds

abbrev Places : Local → Turn → Type 0
Places l (Goes Moved m) = m.holding ≡ l.holding
Places l (Goes Took m) = Unit {0}
Places l (Goes Released m) = m.holding ≡ false
Places l (Sets k v m) = m.holding ≡ l.holding
Places l (Asks (Run command outputs)) = l.holding ≡ true
Places l (Asks (Stat path)) = Unit {0}
Places l (Asks (Recall output)) = Unit {0}
Places l (Asks (Deps path)) = Unit {0}
Places l (Asks (Keep output command basis paths)) = Unit {0}
Places l Ends = Unit {0}
Places l (Fails cause) = Unit {0}
Places l (Wrong flaw) = Unit {0}

module _ (p : Parts) (e : ℕ) (slots : Slots) (l : Local) where
  abbrev N : Turn → Type 0
  N = Places l

  goes_so : (to : ℕ) (stack : List Value) → N (turns.goes l to stack)
  goes_so to stack = when_either N (nat_lt 64 (length stack)) _ _ tt refl

  jumps_so : (len to : ℕ) (stack : List Value) → N (turns.jumps l len to stack)
  jumps_so len to stack = when_either N (nat_le to l.place) _ _ tt (when_either N (nat_le len to) _ _ tt (goes_so to stack))

  calculated_so : (c : Calculated) → N (turns.calculated l c)
  calculated_so (On stack) = goes_so (l.place + 1) stack
  calculated_so TooLong = tt
  calculated_so (Off flaw) = tt

  stats_so : (o : Option (List ℕ)) → N (turns.asks_of o Stat)
  stats_so (Some path) = tt
  stats_so None = tt

  recalls_so : (o : Option (List ℕ)) → N (turns.asks_of o Recall)
  recalls_so (Some path) = tt
  recalls_so None = tt

  ends_so : N (turns.ends p e slots l)
  ends_so = when_either N l.holding _ _ tt (when_either N (not (list_all (turns.is_set slots) (own_slots p e))) _ _ tt (when_either N (nat_lt 0 (length l.stack)) _ _ tt tt))

  loads_so : (o : Option (Option Value)) → N (turns.loads l o)
  loads_so (Some (Some v)) = goes_so (l.place + 1) (v ∷ l.stack)
  loads_so (Some None) = tt
  loads_so None = tt

  stores_so : (s : ℕ) (o : Option Slot) (stack : List Value) → N (turns.stores l e s o stack)
  stores_so s None stack = tt
  stores_so s (Some slot) [] = tt
  stores_so s (Some slot) (v ∷ below) = when_either N (slot.owner == e) _ _ refl tt

  writes_so : (o : Option (List ℕ)) → N (turns.writes l o)
  writes_so (Some t) = goes_so (l.place + 1) (Text t ∷ l.stack)
  writes_so None = tt

  sweeps_so : (all : List (List ℕ)) (below : List Value) (o : Option (List ℕ)) → N (turns.sweeps l all below o)
  sweeps_so all below (Some path) = tt
  sweeps_so all below None = goes_so (l.place + 1) (Swept all ∷ below)

  sweep_so : (stack : List Value) → N (turns.sweep l stack)
  sweep_so (Paths swept all ∷ Flag b ∷ Stamp n ∷ below) = sweeps_so all (Flag b ∷ Stamp n ∷ below) (slice_get all swept)
  sweep_so _ = tt

  branches_so : (len to : ℕ) (stack : List Value) → N (turns.branches l len to stack)
  branches_so len to (Flag b ∷ below) = when_either N b _ _ (jumps_so len to below) (goes_so (l.place + 1) below)
  branches_so len to _ = tt

  runs_so : l.holding ≡ true → (o : Option (List (List ℕ))) (stack : List Value) → N (turns.runs o stack)
  runs_so held (Some outputs) (Text command ∷ below) = held
  runs_so held (Some outputs) _ = tt
  runs_so held None stack = tt

  reads_so : (stack : List Value) → N (turns.reads stack)
  reads_so (Text path ∷ below) = tt
  reads_so _ = tt

  keeps_so : (o : Option (List ℕ)) (stack : List Value) → N (turns.keeps o stack)
  keeps_so (Some output) (Swept paths ∷ Stamp basis ∷ Text command ∷ below) = tt
  keeps_so (Some output) _ = tt
  keeps_so None stack = tt

  act_so : (i : Instr) → N (turns.act p e slots l i)
  act_so op.End = ends_so
  act_so (op.Stat f) = stats_so (path_of p f)
  act_so (op.Need f) = stats_so (path_of p f)
  act_so (op.Load s) = loads_so (slice_get slots s)
  act_so (op.Store s) = stores_so s (slice_get p.slots s) l.stack
  act_so (op.Text t) = writes_so (slice_get p.texts t)
  act_so op.Recall = recalls_so (first_output p e)
  act_so op.Sweep = sweep_so l.stack
  act_so (op.Jump d) = jumps_so (length (code p e)) d l.stack
  act_so (op.JumpIf d) = branches_so (length (code p e)) d l.stack
  act_so op.Take = when_either N l.holding _ _ tt (when_either N (pool_outside p e) _ _ tt tt)
  act_so op.Release = when_either N l.holding _ _ refl tt
  act_so op.Run = when_so N l.holding _ _ (λ held. runs_so held (paths_of p (outputs_of p e)) l.stack) (λ free. tt)
  act_so op.Deps = reads_so l.stack
  act_so op.Keep = keeps_so (first_output p e) l.stack
  act_so i = calculated_so (turns.calculate i l.stack)

  act_at_so : (o : Option Instr) → N (turns.act_at p e slots l o)
  act_at_so (Some i) = act_so i
  act_at_so None = tt

  turn_so : N (turn p e slots l)
  unfolding turn
  turn_so = act_at_so (slice_get (code p e) l.place)

-- a reply leaves the place
abbrev Keeps : Local → Turn → Type 0
Keeps l (Goes did m) = m.holding ≡ l.holding
Keeps l (Sets k v m) = m.holding ≡ l.holding
Keeps l (Asks q) = Unit {0}
Keeps l Ends = Unit {0}
Keeps l (Fails cause) = Unit {0}
Keeps l (Wrong flaw) = Unit {0}

module _ (l : Local) where
  goes_kept : (k : Local) (to : ℕ) (stack : List Value) → k.holding ≡ l.holding → Keeps l (turns.goes k to stack)
  goes_kept k to stack same = when_either (Keeps l) (nat_lt 64 (length stack)) _ _ tt same

  found_kept : (o : Result (List (List ℕ)) (ℕ × ℕ)) → Keeps l (turns.found l o)
  found_kept (Ok paths) = goes_kept l (l.place + 1) (Paths 0 paths ∷ drop 1 l.stack) refl
  found_kept (Err fault) = tt

  replied_kept : (meaning : Meaning) (i : Instr) (r : Answer) → IfSome (turns.replied meaning l i r) (Keeps l)
  replied_kept meaning (op.Stat f) (StampIs n) = goes_kept l (l.place + 1) (Stamp n ∷ l.stack) refl
  replied_kept meaning (op.Stat f) Fault = tt
  replied_kept meaning (op.Need f) (StampIs zero) = tt
  replied_kept meaning (op.Need f) (StampIs (suc n)) = goes_kept l (l.place + 1) (Stamp (suc n) ∷ l.stack) refl
  replied_kept meaning (op.Need f) Fault = tt
  replied_kept meaning op.Recall (Entry command basis paths) = goes_kept l (l.place + 1) (Flag true ∷ Text command ∷ Stamp basis ∷ Paths 0 paths ∷ l.stack) refl
  replied_kept meaning op.Recall Nothing = goes_kept l (l.place + 1) (Flag false ∷ Text [] ∷ Stamp 0 ∷ Paths 0 [] ∷ l.stack) refl
  replied_kept meaning op.Recall Fault = tt
  replied_kept meaning op.Sweep (StampIs n) = goes_kept l l.place (turns.merged n l.stack) refl
  replied_kept meaning op.Sweep Fault = tt
  replied_kept meaning op.Run (Exit zero) = goes_kept (turns.ran l) (l.place + 1) (drop 1 l.stack) refl
  replied_kept meaning op.Run (Exit (suc n)) = tt
  replied_kept meaning op.Run Signal = tt
  replied_kept meaning op.Run NotStarted = tt
  replied_kept meaning op.Deps (Bytes bytes) = found_kept (meaning bytes)
  replied_kept meaning op.Deps Nothing = goes_kept l (l.place + 1) (Paths 0 [] ∷ drop 1 l.stack) refl
  replied_kept meaning op.Deps Fault = tt
  replied_kept meaning op.Keep Kept = goes_kept l (l.place + 1) (drop 3 l.stack) refl
  replied_kept meaning op.Keep Fault = tt
  replied_kept meaning i r = tt

  replied_at_kept : (meaning : Meaning) (o : Option Instr) (r : Answer) → IfSome (turns.replied_at meaning l o r) (Keeps l)
  replied_at_kept meaning (Some i) r = replied_kept meaning i r
  replied_at_kept meaning None r = tt

  heard_kept : (meaning : Meaning) (p : Parts) (e : ℕ) (r : Answer) → IfSome (heard meaning p e l r) (Keeps l)
  unfolding heard
  heard_kept meaning p e r = when_either (λ (o : Option Turn). IfSome o (Keeps l)) l.asked _ _ (replied_at_kept meaning (slice_get (code p e) l.place) r) tt

-- ---- an edge that asked to run its command holds a place

asked_held : (p : Parts) (e : ℕ) (slots : Slots) (o : Option Status) (command : List ℕ) (outputs : List (List ℕ)) → asked_by p e slots o ≡ Some (Run command outputs) → passes is_holder o ≡ true
asked_held p e slots None command outputs is = absurd cc
asked_held p e slots (Some Unbegun) command outputs is = absurd cc
asked_held p e slots (Some (Over outcome)) command outputs is = absurd cc
asked_held p e slots (Some (Active l)) command outputs is = by l.asked is
  where
    by_turn : (t : Turn) → Places l t → turns.request_of t ≡ Some (Run command outputs) → l.holding ≡ true
    by_turn (Asks (Run c o)) held h = held
    by_turn (Asks (Stat path)) held h = absurd cc
    by_turn (Asks (Recall output)) held h = absurd cc
    by_turn (Asks (Deps path)) held h = absurd cc
    by_turn (Asks (Keep output c basis paths)) held h = absurd cc
    by_turn (Goes did m) held h = absurd cc
    by_turn (Sets k v m) held h = absurd cc
    by_turn Ends held h = absurd cc
    by_turn (Fails cause) held h = absurd cc
    by_turn (Wrong flaw) held h = absurd cc

    by : (b : Bool) → (if b then turns.question p e slots l else None) ≡ Some (Run command outputs) → l.holding ≡ true
    by true h = by_turn (turn p e slots l) (turn_so p e slots l) h
    by false h = absurd cc

-- ---- what an event says of places

-- The state of one edge changes. If it then holds a place, the mark says so, or it held one before. The mark says
-- nothing of other edges.
record Carries (s mid : State) (e : ℕ) (told : Mark) : Type 0 where
  pub status : Status
  pub left : mid.edges ≡ slice_set s.edges e status
  pub others : (f : ℕ) → f ≢ e → (held : Bool) → holds_then f held told ≡ held
  pub here : (held : Bool) → (stands is_holder s e ≡ true → held ≡ true) → is_holder status ≡ true → holds_then e held told ≡ true

abbrev Carrying : State → ℕ → Stepped → Type 0
Carrying s e (Next mid told) = Carries s mid e told
Carrying s e (GoesWrong flaw) = Unit {0}
Carrying s e NotEnabled = Unit {0}

other_place : (f e : ℕ) (x y : Bool) → f ≢ e → (if e == f then x else y) ≡ y
other_place f e x y apart = by (eqb e f) refl
  where
    by : (b : Bool) → eqb e f ≡ b → (if b then x else y) ≡ y
    by true is = absurd (apart (sym (eqb-true e f is)))
    by false is = refl

same_place : (e : ℕ) (y : Bool) → (if e == e then true else y) ≡ true
same_place e y = ap (λ (b : Bool). if b then true else y) (eq-eqb e e refl)

module _ (meaning : Meaning) (p : Parts) (limits : Limits) (s : State) (e : ℕ) where
  -- if the edge was and is under way, and holds a place if and only if it did before
  stays : (l m : Local) (mid : State) (told : Mark) → slice_get s.edges e ≡ Some (Active l) → mid.edges ≡ slice_set s.edges e (Active m) → m.holding ≡ l.holding → ((f : ℕ) (held : Bool) → holds_then f held told ≡ held) → Carries s mid e told
  stays l m mid told at left same still =
      record {
        status = Active m;
        left = left;
        others = λ f apart held. still f held;
        here = λ held so h. still e held ∙ so (ap (passes is_holder) at ∙ (sym same ∙ h));
      }

  -- if it holds none
  leaves : (status : Status) (mid : State) (told : Mark) → mid.edges ≡ slice_set s.edges e status → is_holder status ≡ false → ((f : ℕ) → f ≢ e → (held : Bool) → holds_then f held told ≡ held) → Carries s mid e told
  leaves status mid told left free others = record { status = status; left = left; others = others; here = λ held so h. absurd (let clash : false ≡ true = sym free ∙ h in cc) }

  starts_carry : (o : Option Status) → Carrying s e (starts p s e o)
  starts_carry (Some Unbegun) = when_either (Carrying s e) (list_all (stands has_succeeded s) (waits_of p e)) _ _ (leaves (Active turns.begun) _ (mark.Started e) refl refl (λ f apart held. refl)) tt
  starts_carry None = tt
  starts_carry (Some (Active l)) = tt
  starts_carry (Some (Over outcome)) = tt

  skips_carry : (w : ℕ) (o : Option Status) → Carrying s e (skips p s e w o)
  skips_carry w (Some Unbegun) = when_either (Carrying s e) (is_member w (waits_of p e) && stands is_unsuccessful s w) _ _ (leaves (Over (Skipped w)) _ (mark.Skipped e w) refl refl (λ f apart held. refl)) tt
  skips_carry w None = tt
  skips_carry w (Some (Active l)) = tt
  skips_carry w (Some (Over outcome)) = tt

  stops_carry : (o : Option Status) → Carrying s e (stops p limits s e o)
  stops_carry (Some Unbegun) = when_either (Carrying s e) (is_spent limits s) _ _ (leaves (Over Stopped) _ (mark.Stopped e) refl refl (λ f apart held. refl)) tt
  stops_carry (Some (Active l)) = when_either (Carrying s e) (is_spent limits s && at_take p e l) _ _ (leaves (Over Stopped) _ (mark.Stopped e) refl refl (λ f apart held. refl)) tt
  stops_carry None = tt
  stops_carry (Some (Over outcome)) = tt

  steps_settle : (l : Local) (t : Turn) → slice_get s.edges e ≡ Some (Active l) → Places l t → Carrying s e (settles s e l (stepped e) t)
  steps_settle l (Goes Moved m) at so = stays l m _ (mark.Moved e) at refl so (λ f held. refl)
  steps_settle l (Goes Took m) at so =
      record { status = Active m; left = refl; others = λ f apart held. other_place f e true held apart; here = λ held so h. same_place e held }
  steps_settle l (Goes Released m) at so = leaves (Active m) _ (mark.Released e) refl so (λ f apart held. other_place f e false held apart)
  steps_settle l (Sets k v m) at so = stays l m _ (mark.Moved e) at refl so (λ f held. refl)
  steps_settle l (Asks q) at so = stays l (asking l) _ (mark.Asked e) at refl refl (λ f held. refl)
  steps_settle l Ends at so = leaves (Over (ended l.ran)) _ (mark.Ended e l.ran) refl refl (λ f apart held. refl)
  steps_settle l (Fails cause) at so = leaves (Over (Failed cause)) _ (mark.Failed e cause) refl refl (λ f apart held. other_place f e false held apart)
  steps_settle l (Wrong flaw) at so = tt

  steps_carry : (o : Option Status) → slice_get s.edges e ≡ o → Carrying s e (steps p limits s e o)
  steps_carry (Some (Active l)) at = when_either (Carrying s e) (l.asked || (at_take p e l && not (is_free p limits s e))) _ _ tt (steps_settle l (turn p e s.slots l) at (turn_so p e s.slots l))
  steps_carry None at = tt
  steps_carry (Some Unbegun) at = tt
  steps_carry (Some (Over outcome)) at = tt

  hears_settle : (l : Local) (t : Turn) → slice_get s.edges e ≡ Some (Active l) → Keeps l t → Carrying s e (settles s e l (answered e) t)
  hears_settle l (Goes did m) at kept = stays l m _ (mark.Answered e) at refl kept (λ f held. refl)
  hears_settle l (Sets k v m) at kept = stays l m _ (mark.Answered e) at refl kept (λ f held. refl)
  hears_settle l (Asks q) at kept = stays l (asking l) _ (mark.Asked e) at refl refl (λ f held. refl)
  hears_settle l Ends at kept = leaves (Over (ended l.ran)) _ (mark.Ended e l.ran) refl refl (λ f apart held. refl)
  hears_settle l (Fails cause) at kept = leaves (Over (Failed cause)) _ (mark.Failed e cause) refl refl (λ f apart held. other_place f e false held apart)
  hears_settle l (Wrong flaw) at kept = tt

  hears_by_carry : (l : Local) (o : Option Turn) → slice_get s.edges e ≡ Some (Active l) → IfSome o (Keeps l) → Carrying s e (hears_by s e l o)
  hears_by_carry l None at kept = tt
  hears_by_carry l (Some t) at kept = hears_settle l t at kept

  hears_carry : (r : Answer) (o : Option Status) → slice_get s.edges e ≡ o → Carrying s e (hears meaning p s e r o)
  hears_carry r (Some (Active l)) at = hears_by_carry l (heard meaning p e l r) at (heard_kept l meaning p e r)
  hears_carry r None at = tt
  hears_carry r (Some Unbegun) at = tt
  hears_carry r (Some (Over outcome)) at = tt

step_carries : (meaning : Meaning) (p : Parts) (limits : Limits) (s : State) (event : Event) → Carrying s (edge_of event) (step meaning p limits s event)
unfolding step
step_carries meaning p limits s (Start e) = starts_carry meaning p limits s e (slice_get s.edges e)
step_carries meaning p limits s (Skip e w) = skips_carry meaning p limits s e w (slice_get s.edges e)
step_carries meaning p limits s (Stop e) = stops_carry meaning p limits s e (slice_get s.edges e)
step_carries meaning p limits s (Step e) = steps_carry meaning p limits s e (slice_get s.edges e) refl
step_carries meaning p limits s (Hear e r) = hears_carry meaning p limits s e (answer_of r) (slice_get s.edges e) refl

set_held : (xs : List Status) (e : ℕ) (status : Status) → passes is_holder (slice_get (slice_set xs e status) e) ≡ true → is_holder status ≡ true
set_held [] e status h = absurd cc
set_held (x ∷ xs) zero status h = h
set_held (x ∷ xs) (suc e) status h = set_held xs e status h

-- the marks say of each edge that holds a place that it does
step_holds : (meaning : Meaning) (p : Parts) (limits : Limits) (s mid : State) (event : Event) (told : Mark) → step meaning p limits s event ≡ Next mid told
    → (f : ℕ) (held : Bool) → (stands is_holder s f ≡ true → held ≡ true) → stands is_holder mid f ≡ true → holds_then f held told ≡ true
step_holds meaning p limits s mid event told is f held so now = by (eqb f (edge_of event)) refl
  where
    carries : Carries s mid (edge_of event) told
    carries = let it : Carrying s (edge_of event) (Next mid told) = subst (Carrying s (edge_of event)) is (step_carries meaning p limits s event) in it

    there : passes is_holder (slice_get (slice_set s.edges (edge_of event) carries.status) f) ≡ true
    there = ap (λ (xs : List Status). passes is_holder (slice_get xs f)) (sym carries.left) ∙ now

    by : (b : Bool) → eqb f (edge_of event) ≡ b → holds_then f held told ≡ true
    by true test =
        let same : f ≡ edge_of event = eqb-true f (edge_of event) test in
        let here : is_holder carries.status ≡ true = set_held s.edges (edge_of event) carries.status (subst (λ (g : ℕ). passes is_holder (slice_get (slice_set s.edges (edge_of event) carries.status) g) ≡ true) same there) in
        subst (λ (g : ℕ). holds_then g held told ≡ true) (sym same) (carries.here held (subst (λ (g : ℕ). stands is_holder s g ≡ true → held ≡ true) same so) here)
    by false test =
        let apart : f ≢ edge_of event = λ same. (let clash : eqb f (edge_of event) ≡ true = eq-eqb f (edge_of event) same in let mixed : true ≡ false = sym clash ∙ test in cc) in
        carries.others f apart held ∙ so (ap (passes is_holder) (sym (get_other s.edges carries.status (edge_of event) f apart)) ∙ there)

runs_hold : (meaning : Meaning) (p : Parts) (limits : Limits) (s t : State) (events : List Event) (marks : List Mark) → Runs meaning p limits s events marks t
    → (f : ℕ) (held : Bool) → (stands is_holder s f ≡ true → held ≡ true) → stands is_holder t f ≡ true → holds_after f held marks ≡ true
runs_hold meaning p limits s t [] [] run f held so now = so (subst (λ (u : State). stands is_holder u f ≡ true) (sym run) now)
runs_hold meaning p limits s t (x ∷ xs) (m ∷ ms) run f held so now = runs_hold meaning p limits run.0 t xs ms run.2 f (holds_then f held m) (step_holds meaning p limits s run.0 x m run.1 f held so) now
runs_hold meaning p limits s t [] (m ∷ ms) run f held so now = absurd run
runs_hold meaning p limits s t (x ∷ xs) [] run f held so now = absurd run

-- at the opening no edge holds one
none_held : (wanted : List Bool) (f : ℕ) → passes is_holder (slice_get (map at_first wanted) f) ≡ true → ⊥
none_held [] f h = cc
none_held (true ∷ wanted) zero h = cc
none_held (false ∷ wanted) zero h = cc
none_held (b ∷ wanted) (suc f) h = none_held wanted f h

reached_hold : (meaning : Meaning) (p : Parts) (limits : Limits) (targets : List ℕ) (events : List Event) (marks : List Mark) (s : State) → Reached meaning p limits targets events marks s
    → (f : ℕ) → stands is_holder s f ≡ true → holds_by marks f ≡ true
reached_hold meaning p limits targets events marks s reached f now =
    runs_hold meaning p limits reached.start s events marks reached.run f false
    (λ h. absurd (none_held reached.opens.wanted f (ap (λ (xs : List Status). passes is_holder (slice_get xs f)) (sym reached.opens.edges) ∙ h))) now

-- ---- how many

no_more : (a b : Bool) → (a ≡ true → b ≡ true) → (if a then 1 else 0) ≤ (if b then 1 else 0)
no_more true b so = subst (λ (x : Bool). 1 ≤ (if x then 1 else 0)) (sym (so refl)) (omega arith)
no_more false b so = omega arith

and_so : (a b c : Bool) → (b ≡ true → c ≡ true) → (a && b) ≡ true → (a && c) ≡ true
and_so true b c so h = so h
and_so false b c so h = h

module _ (p : Parts) (s : State) (marks : List Mark) (hold : (f : ℕ) → awaits_run (asked_at p s f) ≡ true → holds_by marks f ≡ true) where
  running_held : (e : ℕ) (edges : List Edge) → running p s e edges ≤ holding marks e edges
  running_held e [] = omega arith
  running_held e (x ∷ xs) =
      let rest = running_held (e + 1) xs in
      let one = no_more (awaits_run (asked_at p s e)) (holds_by marks e) (hold e) in
      omega (arith, rest, one)

  running_held_of : (pool e : ℕ) (edges : List Edge) → running_of p pool s e edges ≤ holding_of p pool marks e edges
  running_held_of pool e [] = omega arith
  running_held_of pool e (x ∷ xs) =
      let rest = running_held_of pool (e + 1) xs in
      let one = no_more (is_pool pool (pool_of p e) && awaits_run (asked_at p s e)) (is_pool pool (pool_of p e) && holds_by marks e) (and_so (is_pool pool (pool_of p e)) (awaits_run (asked_at p s e)) (holds_by marks e) (hold e)) in
      omega (arith, rest, one)

whole : (xs : List Mark) → take (length xs) xs ≡ xs
whole [] = refl
whole (x ∷ xs) = ap (λ (l : List Mark). x ∷ l) (whole xs)

-- what awaits the reply to a run is a run
run_of : (o : Option Request) → awaits_run o ≡ true → (command : List ℕ) × (outputs : List (List ℕ)) × (o ≡ Some (Run command outputs))
run_of (Some (Run command outputs)) h = (command, outputs, refl)
run_of (Some (Stat path)) h = absurd cc
run_of (Some (Recall output)) h = absurd cc
run_of (Some (Deps path)) h = absurd cc
run_of (Some (Keep output command basis paths)) h = absurd cc
run_of None h = absurd cc

pub commands_keep_to_places : MarksAreOrderly → CommandsKeepToPlaces
commands_keep_to_places orderly meaning p shaped limits targets events marks s reached =
    record {
      holds = holds;
      in_jobs = omega (arith, running_held p s marks held 0 p.edges, subst (λ (ms : List Mark). holding ms 0 p.edges ≤ limits.jobs) (whole marks) (are.in_jobs (length marks)));
      in_depth = λ pool row at deep. omega (arith, running_held_of p s marks held pool 0 p.edges, subst (λ (ms : List Mark). holding_of p pool ms 0 p.edges ≤ row.depth) (whole marks) (are.in_depth (length marks) pool row at deep));
    }
  where
    are : IsOrderly p limits marks
    are = orderly meaning p shaped limits targets events marks s reached

    holds : (e : ℕ) (command : List ℕ) (outputs : List (List ℕ)) → asked_at p s e ≡ Some (Run command outputs) → stands is_holder s e ≡ true
    holds e command outputs is = asked_held p e s.slots (slice_get s.edges e) command outputs is

    held : (f : ℕ) → awaits_run (asked_at p s f) ≡ true → holds_by marks f ≡ true
    held f h = let run = run_of (asked_at p s f) h in reached_hold meaning p limits targets events marks s reached f (holds f run.0 run.1 run.2)
