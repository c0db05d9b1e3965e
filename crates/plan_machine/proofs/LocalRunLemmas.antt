-- The effect of a local run: a local step is an event, and events of one edge change only that edge.
use Rattle.std.proofs.Common.{◌≡◌, ℕ, zero, suc, Bool, true, false, List, [], ◌∷◌, ◌++◌, Option, Some, refl, sym, ap, ◌∙◌, subst, arith}
use Rattle.std.specs.Prelude.{Ok, ◌&&◌, not, ◌==◌, slice_get, slice_set}
use Rattle.plan_image.specs.declared.image.Parts.{Parts}
use Rattle.plan_image.specs.declared.body.Instr.{Instr}
use Rattle.plan_image.specs.declared.body.Instr.TheVariants as op
use Rattle.plan_image.specs.Code.{code}
use Rattle.plan_verify.specs.Turn.{Local, Slots}
use Rattle.plan_verify.specs.WellShaped.{IsWellShaped}
use Rattle.plan_schedule.specs.declared.plan.Plan.{Plan}
use Rattle.plan_schedule.specs.declared.schedule.Schedule.{Schedule}
use Rattle.plan_machine.specs.Limits.{Limits}
use Rattle.plan_machine.specs.declared.event.Event.{Event}
use Rattle.plan_machine.specs.declared.event.Event.TheVariants.{Step}
use Rattle.plan_machine.specs.declared.event.Mark.{Mark}
use Rattle.plan_machine.specs.declared.event.Mark.TheVariants as mark
use Rattle.plan_machine.specs.declared.run.local_runs.LocalRun.{LocalRun}
use Rattle.plan_machine.specs.declared.edge.turns.Turned.{Turned}
use Rattle.plan_machine.specs.declared.edge.turns.Turned.TheVariants as turned
use Rattle.plan_machine.specs.State.{Status, Active, State}
use Rattle.plan_machine.specs.Step.{Next, step}
use Rattle.plan_machine.specs.RunState.{RunState}
use Rattle.plan_machine.specs.Places.{at_take, is_take}
use Rattle.plan_machine.specs.Runs.{Runs, Reached}
use Rattle.plan_machine.specs.Replaying.{RunsTo}
use Rattle.plan_machine.specs.Depfile.{depfile}
use Rattle.plan_machine.specs.Edges.{edge_of}
use Rattle.plan_machine.specs.Applying.{Applied, CanTurn, HasTurned, Settles, may_step_by}
use Rattle.plan_machine.specs.Kept.{Running, AreKept, IsBehind, IsStateOf, Changed}
use Rattle.plan_machine.specs.Total.{total_of}
use Rattle.plan_machine.specs.LocalRuns.{CanStepLocally, HasRunLocally, HasRunLocallyOn, HasMadeLocalStep, IsLocalStep, StepsLocallyBy, StepsLocallyTo, asks_by, events_by, is_still, is_local_step, marks_by, moves_of, local_run_events, local_run_marks, steps_of, local_step_mark}
use Rattle.std.proofs.lemmas.Bool.{eqb-true}
use Rattle.std.proofs.lemmas.Option.{slice_get_within}
use Rattle.plan_machine.proofs.Applies.{set_again, step_is}
use Rattle.plan_machine.proofs.ListLemmas.{and_both, get_same, set_here}
use Rattle.plan_machine.specs.TurnLaws.{TurnLaws}
use Rattle.plan_machine.proofs.OpensLemmas.{reached_stands}
use Rattle.plan_machine.proofs.StateLemmas.{can_turn, changed, runs_more, same_total}

-- ---- one step

-- an edge whose next step is a local one isn't at Take
pub elsewhere_so : (p : Parts) (e : ℕ) (l : Local) (i : Instr) → Some i ≡ slice_get (code p e) l.place → is_local_step i ≡ true → at_take p e l ≡ false
elsewhere_so p e l i at local_step = ap is_take (sym at) ∙ by i local_step
  where
    by : (i : Instr) → is_local_step i ≡ true → is_take (Some i) ≡ false
    by op.Take h = absurd cc
    by _ h = refl

module _ (p : Parts) (e : ℕ) (old new : RunState) (r : Turned) (h : HasRunLocally p old e r new) where
  turned_so : HasTurned p old e r new
  turned_so = record { before = h.before; after = h.after; now = h.now; slots = h.slots; made = h.stepped_locally.made; left = h.left }

  may : true ≡ may_step_by p old.limits old.now e (slice_get old.now.edges e)
  may = subst (λ (o : Option Status). true ≡ may_step_by p old.limits old.now e o) (sym h.now) (rw (h.stepped_locally.silent, h.stepped_locally.elsewhere) refl)

  settles_so : (q : Turned) → IsLocalStep q → Settles new e q (local_step_mark e (asks_by q)) new
  settles_so turned.Moved s = (refl, refl)
  settles_so turned.Stored s = (refl, refl)
  settles_so turned.Asked s = (refl, refl)
  settles_so turned.Took s = absurd s
  settles_so turned.Released s = absurd s
  settles_so turned.Ended s = absurd s
  settles_so (turned.Failed cause) s = absurd s

  pub local_step_applied : (asked : Bool) → asked ≡ asks_by r → Applied p old (Step e) (Ok (local_step_mark e asked)) new
  local_step_applied asked is = rw is (step_is p e old new new r (local_step_mark e (asks_by r)) turned_so true may refl (settles_so r h.stepped_locally.local_step))

-- ---- one more step

module _ (p : Parts) (old mid new : RunState) (e n : ℕ) (before : RunsTo p old (steps_of e n) (moves_of e n) mid) where
  more : (told : Mark) → Applied p mid (Step e) (Ok told) new → RunsTo p old (steps_of e n ++ Step e ∷ []) (moves_of e n ++ told ∷ []) new
  more told applied =
      record {
        run = runs_more p old.limits old.now mid.now new.now (steps_of e n) (moves_of e n) (Step e) told before.run
            (subst (λ (l : Limits). step depfile p l mid.now (Step e) ≡ Next new.now told) before.limits applied.0);
        limits = applied.1 ∙ before.limits;
      }

-- ---- runs, one after the other

pub runs_join : (p : Parts) (limits : Limits) (s mid end : State) (xs ys : List Event) (ms ns : List Mark)
    → Runs depfile p limits s xs ms mid → Runs depfile p limits mid ys ns end → Runs depfile p limits s (xs ++ ys) (ms ++ ns) end
runs_join p limits s mid end [] ys [] ns one two = subst (λ (t : State). Runs depfile p limits t ys ns end) (sym one) two
runs_join p limits s mid end (x ∷ xs) ys (m ∷ ms) ns one two = (one.0, one.1, runs_join p limits one.0 mid end xs ys ms ns one.2 two)
runs_join p limits s mid end [] ys (m ∷ ms) ns one two = absurd one
runs_join p limits s mid end (x ∷ xs) ys [] ns one two = absurd one

reached_on : (p : Parts) (limits : Limits) (targets : List ℕ) (events xs : List Event) (marks ms : List Mark) (s t : State)
    → Reached depfile p limits targets events marks s → Runs depfile p limits s xs ms t → Reached depfile p limits targets (events ++ xs) (marks ++ ms) t
reached_on p limits targets events xs marks ms s t reached run =
    record { start = reached.start; opens = reached.opens; run = runs_join p limits reached.start s t events xs marks ms reached.run run }

-- after any run, a running edge makes a turn that isn't wrong
pub run_turns : TurnLaws → (p : Parts) → IsWellShaped p → (r : Running) → IsStateOf p r → (xs : List Event) (ms : List Mark) (s : State) → Runs depfile p r.run_state.limits r.run_state.now xs ms s
    → (e : ℕ) (l : Local) → slice_get s.edges e ≡ Some (Active l) → CanTurn p s.slots e l
run_turns laws p shaped r is xs ms s run e l at =
    can_turn laws p shaped r.run_state.limits s
    (reached_stands laws depfile p shaped r.run_state.limits is.targets (is.events ++ xs) (is.marks ++ ms) s
    (reached_on p r.run_state.limits is.targets is.events xs is.marks ms r.run_state.now s is.reached run)) e l at

-- ---- events of one edge

abbrev pub AllOf : ℕ → List Event → Type 0
AllOf e [] = Unit {0}
AllOf e (x ∷ xs) = (edge_of x ≡ e) × AllOf e xs

all_more : (e : ℕ) (xs : List Event) → AllOf e xs → AllOf e (xs ++ Step e ∷ [])
all_more e [] all = (refl, tt)
all_more e (x ∷ xs) all = (all.0, all_more e xs all.1)

all_steps : (e n : ℕ) → AllOf e (steps_of e n)
all_steps e zero = tt
all_steps e (suc n) = all_more e (steps_of e n) (all_steps e n)

pub all_local_run : (e : ℕ) (r : LocalRun) → AllOf e (local_run_events e r)
all_local_run e r = by r.asked
  where
    by : (a : Bool) → AllOf e (events_by e r.steps a)
    by true = all_steps e (suc r.steps)
    by false = all_steps e r.steps

module _ (p : Parts) (limits : Limits) (e : ℕ) where
  one_changes : (s mid : State) (x : Event) (told : Mark) → edge_of x ≡ e → step depfile p limits s x ≡ Next mid told → Changed s mid e
  one_changes s mid x told is next = subst (Changed s mid) is (changed depfile p limits s mid x told next)

  twice : (s mid end : State) → Changed s mid e → Changed mid end e → Changed s end e
  twice s mid end one two =
      record {
        before = one.before;
        after = two.after;
        now = one.now;
        was_open = one.was_open;
        still_wanted = two.still_wanted;
        left = two.left ∙ ap (λ (l : List Status). slice_set l e two.after) one.left ∙ set_again s.edges e one.after two.after;
      }

  -- they change only this edge
  pub all_change : (s end : State) (x : Event) (xs : List Event) (ms : List Mark) → AllOf e (x ∷ xs) → Runs depfile p limits s (x ∷ xs) ms end → Changed s end e
  all_change s end x xs [] all run = absurd run
  all_change s end x [] (m ∷ []) all run = subst (λ (t : State). Changed s t e) run.2 (one_changes s run.0 x m all.0 run.1)
  all_change s end x [] (m ∷ (n ∷ ms)) all run = absurd run.2
  all_change s end x (y ∷ ys) (m ∷ ms) all run = twice s run.0 end (one_changes s run.0 x m all.0 run.1) (all_change run.0 end y ys ms all.1 run.2)

  some_change : (s end : State) (xs : List Event) (ms : List Mark) → (xs ≡ [] → ⊥) → AllOf e xs → Runs depfile p limits s xs ms end → Changed s end e
  some_change s end [] ms some all run = absurd (some refl)
  some_change s end (x ∷ xs) ms some all run = all_change s end x xs ms all run

not_none : (xs : List Event) (x : Event) → xs ++ x ∷ [] ≡ [] → ⊥
not_none [] x h = cc
not_none (y ∷ ys) x h = cc

local_run_some : (e : ℕ) (r : LocalRun) → is_still r ≡ false → local_run_events e r ≡ [] → ⊥
local_run_some e r moved = by r.steps r.asked moved
  where
    by : (n : ℕ) (a : Bool) → ((n == 0) && not a) ≡ false → events_by e n a ≡ [] → ⊥
    by n true h = not_none (steps_of e n) (Step e)
    by zero false h = absurd cc
    by (suc n) false h = not_none (steps_of e n) (Step e)

-- ---- the schedule

-- the schedule agrees with the state before a run of one edge
run_behind : (p : Parts) (old new : Running) (e : ℕ) → AreKept p old.run_state.now old.plan old.schedule → Changed old.run_state.now new.run_state.now e → new.plan ≡ old.plan → new.schedule ≡ old.schedule → IsBehind p new e
run_behind p old new e kept change plan schedule =
    record {
      old = old.run_state.now;
      kept = subst (λ (x : Plan). AreKept p old.run_state.now x new.schedule) (sym plan) (subst (λ (x : Schedule). AreKept p old.run_state.now old.plan x) (sym schedule) kept);
      changed = change;
    }

-- a local run that made steps
pub local_run_behind : (p : Parts) (old new : Running) (e : ℕ) (r : LocalRun) → AreKept p old.run_state.now old.plan old.schedule → RunsTo p old.run_state (local_run_events e r) (local_run_marks e r) new.run_state → is_still r ≡ false
    → new.plan ≡ old.plan → new.schedule ≡ old.schedule → IsBehind p new e
local_run_behind p old new e r kept run moved plan schedule =
    run_behind p old new e kept (some_change p old.run_state.limits e old.run_state.now new.run_state.now (local_run_events e r) (local_run_marks e r) (local_run_some e r moved) (all_local_run e r) run.run) plan schedule

-- an event, followed by a local run
pub follow_run : (p : Parts) (old mid new : RunState) (x : Event) (told : Mark) (xs : List Event) (ms : List Mark) → Applied p old x (Ok told) mid → RunsTo p mid xs ms new → RunsTo p old (x ∷ xs) (told ∷ ms) new
follow_run p old mid new x told xs ms applied run =
    record { run = (mid.now, applied.0, subst (λ (l : Limits). Runs depfile p l mid.now xs ms new.now) applied.1 run.run); limits = run.limits ∙ applied.1 }

pub follow_behind : (p : Parts) (old new : Running) (e : ℕ) (x : Event) (xs : List Event) (ms : List Mark) → AreKept p old.run_state.now old.plan old.schedule → RunsTo p old.run_state (x ∷ xs) ms new.run_state
    → edge_of x ≡ e → AllOf e xs → new.plan ≡ old.plan → new.schedule ≡ old.schedule → IsBehind p new e
follow_behind p old new e x xs ms kept run is all plan schedule =
    run_behind p old new e kept (all_change p old.run_state.limits e old.run_state.now new.run_state.now x xs ms (is, all) run.run) plan schedule

-- ---- states of the image

module _ (p : Parts) (old new : Running) (is : IsStateOf p old) (xs : List Event) (ms : List Mark) (run : RunsTo p old.run_state xs ms new.run_state) where
  pub state_of_run : total_of p new.run_state.now ≡ total_of p old.run_state.now → new.total ≡ old.total → AreKept p new.run_state.now new.plan new.schedule → IsStateOf p new
  state_of_run same total kept =
      record {
        targets = is.targets;
        events = is.events ++ xs;
        marks = is.marks ++ ms;
        reached = subst (λ (l : Limits). Reached depfile p l is.targets (is.events ++ xs) (is.marks ++ ms) new.run_state.now) (sym run.limits)
            (reached_on p old.run_state.limits is.targets is.events xs is.marks ms old.run_state.now new.run_state.now is.reached run.run);
        kept = kept;
        counted = total ∙ is.counted ∙ sym same;
      }

  pub changed_state : (e : ℕ) → Changed old.run_state.now new.run_state.now e → new.total ≡ old.total → AreKept p new.run_state.now new.plan new.schedule → IsStateOf p new
  changed_state e change total kept = state_of_run (same_total p old.run_state.now new.run_state.now e change) total kept

pub local_run_state : (p : Parts) (old new : Running) (e : ℕ) (r : LocalRun) → IsStateOf p old → RunsTo p old.run_state (local_run_events e r) (local_run_marks e r) new.run_state → is_still r ≡ false → new.total ≡ old.total
    → AreKept p new.run_state.now new.plan new.schedule → IsStateOf p new
local_run_state p old new e r is run moved total kept =
    changed_state p old new is (local_run_events e r) (local_run_marks e r) run e
    (some_change p old.run_state.limits e old.run_state.now new.run_state.now (local_run_events e r) (local_run_marks e r) (local_run_some e r moved) (all_local_run e r) run.run) total kept

pub follow_state : (p : Parts) (old new : Running) (e : ℕ) (x : Event) (xs : List Event) (ms : List Mark) → IsStateOf p old → RunsTo p old.run_state (x ∷ xs) ms new.run_state → edge_of x ≡ e → AllOf e xs → new.total ≡ old.total
    → AreKept p new.run_state.now new.plan new.schedule → IsStateOf p new
follow_state p old new e x xs ms is run of all total kept =
    changed_state p old new is (x ∷ xs) ms run e (all_change p old.run_state.limits e old.run_state.now new.run_state.now x xs ms (of, all) run.run) total kept

-- a local run without a step
pub still_state : (p : Parts) (old new : Running) (e : ℕ) (r : LocalRun) → IsStateOf p old → RunsTo p old.run_state (local_run_events e r) (local_run_marks e r) new.run_state → is_still r ≡ true → new.total ≡ old.total
    → new.plan ≡ old.plan → new.schedule ≡ old.schedule → IsStateOf p new
still_state p old new e r is run still total plan schedule = by r.steps r.asked still run
  where
    kept_so : old.run_state.now ≡ new.run_state.now → AreKept p new.run_state.now new.plan new.schedule
    kept_so same =
        subst (λ (s : State). AreKept p s new.plan new.schedule) same
        (subst (λ (x : Plan). AreKept p old.run_state.now x new.schedule) (sym plan) (subst (λ (x : Schedule). AreKept p old.run_state.now old.plan x) (sym schedule) is.kept))

    not_still : (n : ℕ) (a : Bool) → ((suc n == 0) && not a) ≡ true → ⊥
    not_still n a h = absurd (omega (arith, eqb-true (suc n) 0 (and_both (suc n == 0) (not a) h).0))

    by : (n : ℕ) (a : Bool) → ((n == 0) && not a) ≡ true → RunsTo p old.run_state (events_by e n a) (marks_by e n a) new.run_state → IsStateOf p new
    by zero false h none = state_of_run p old new is [] [] none (sym (ap (total_of p) none.run)) total (kept_so none.run)
    by zero true h none = absurd (let clash : false ≡ true = h in cc)
    by (suc n) a h none = absurd (not_still n a h)

-- ---- many steps of one edge

module _ (p : Parts) (e : ℕ) where
  -- the machine in which this edge has this status
  abbrev standing : RunState → Local → Slots → RunState
  standing g l slots = record { limits = g.limits; now = record { edges = slice_set g.now.edges e (Active l); slots = slots } }

  module _ (old : RunState) (l : Local) (now : slice_get old.now.edges e ≡ Some (Active l)) where
    there : (m : Local) (slots : Slots) → slice_get (standing old m slots).now.edges e ≡ Some (Active m)
    there m slots = get_same old.now.edges e (Active m) (slice_get_within old.now.edges e (Active l) now)

    step_so : (m n : Local) (between after : Slots) (r : Turned) (asked : Bool) → HasMadeLocalStep p e r m n between after → asked ≡ asks_by r
        → Applied p (standing old m between) (Step e) (Ok (local_step_mark e asked)) (standing old n after)
    step_so m n between after r asked stepped_locally is =
        let h : HasRunLocally p (standing old m between) e r (standing old n after) =
        record {
          before = m;
          after = n;
          now = there m between;
          slots = after;
          stepped_locally = stepped_locally;
          left = ap (λ (xs : List Status). record { limits = old.limits; now = record { edges = xs; slots = after } }) (sym (set_again old.now.edges e (Active m) (Active n)));
        } in
        local_step_applied p e (standing old m between) (standing old n after) r h asked is

    pub stepped_locally_runs : (n : ℕ) (m : Local) (after : Slots) → StepsLocallyTo p e n l old.now.slots m after → RunsTo p old (steps_of e n) (moves_of e n) (standing old m after)
    stepped_locally_runs zero m after to =
        let same : old.now ≡ (standing old m after).now =
        ap (λ (xs : List Status). record { edges = xs; slots = old.now.slots }) (sym (set_here old.now.edges e (Active l) now))
        ∙ ap (λ (k : Local). record { edges = slice_set old.now.edges e (Active k); slots = old.now.slots }) (sym to.0)
        ∙ ap (λ (k : Slots). record { edges = slice_set old.now.edges e (Active m); slots = k }) (sym to.1) in
        record { run = same; limits = refl }
    stepped_locally_runs (suc n) m after to =
        more p old (standing old to.0 to.1) (standing old m after) e n (stepped_locally_runs n to.0 to.1 to.3) (mark.Moved e) (step_so to.0 m to.1 after to.2 false to.4 (sym to.5))

    pub stepped_locally_by_runs : (n : ℕ) (asked : Bool) (m : Local) (after : Slots) → StepsLocallyBy p e n asked l old.now.slots m after → RunsTo p old (events_by e n asked) (marks_by e n asked) (standing old m after)
    stepped_locally_by_runs n false m after by = stepped_locally_runs n m after by
    stepped_locally_by_runs n true m after by =
        more p old (standing old by.0 by.1) (standing old m after) e n (stepped_locally_runs n by.0 by.1 by.3) (mark.Asked e) (step_so by.0 m by.1 after by.2 true by.4 (sym by.5))

    -- an edge can make local steps if it makes a turn after any run of its steps
    pub can_local_step : ((n : ℕ) (s : State) → Runs depfile p old.limits old.now (steps_of e n) (moves_of e n) s → (m : Local) → slice_get s.edges e ≡ Some (Active m) → CanTurn p s.slots e m)
        → CanStepLocally p e l old.now.slots
    can_local_step turns = record { turns = λ n m after to. turns n (standing old m after).now (stepped_locally_runs n m after to).run m (there m after) }

pub ran_locally_runs : (p : Parts) (e : ℕ) (old new : RunState) (r : LocalRun) → HasRunLocallyOn p old e r new → RunsTo p old (local_run_events e r) (local_run_marks e r) new
ran_locally_runs p e old new r h =
    subst (λ (g : RunState). RunsTo p old (local_run_events e r) (local_run_marks e r) g) (sym h.left) (stepped_locally_by_runs p e old h.before h.now r.steps r.asked h.after h.slots h.stepped_locally)
