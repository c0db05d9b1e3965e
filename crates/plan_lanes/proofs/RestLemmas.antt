-- An edge that goes on without a question awaits no reply.
use Rattle.std.proofs.Common.{◌≡◌, ◌≢◌, ◌+◌, ℕ, zero, suc, Bool, true, false, not, List, [], ◌∷◌, ◌++◌, Option, Some, None, length, refl, sym, ap, ◌∙◌, subst}
use Rattle.std.specs.Prelude.{◌&&◌, ◌||◌, ◌==◌, if◌then◌else◌, drop, nat_le, nat_lt, slice_get, slice_set, Result, Ok, Err}
use Rattle.std.specs.List.{list_all}
use Rattle.std.proofs.lemmas.Option.{slice_get_within}
use Rattle.plan_image.specs.declared.image.Parts.{Parts}
use Rattle.plan_image.specs.declared.body.Instr.{Instr}
use Rattle.plan_image.specs.declared.body.Instr.TheVariants as op
use Rattle.plan_image.specs.declared.image.Slot.{Slot}
use Rattle.plan_image.specs.Code.{code}
use Rattle.plan_verify.specs.declared.value.Value.{Value}
use Rattle.plan_verify.specs.declared.value.Value.TheVariants.{Stamp, Flag, Text, Paths, Swept}
use Rattle.plan_verify.specs.Tables.{own_slots, pool_outside}
use Rattle.plan_verify.specs.Turn as turns
use Rattle.plan_verify.specs.Turn.{Slots, Local, Request, Did, Turn, Goes, Sets, Asks, Ends, Fails, Wrong, Meaning, Calculated, On, TooLong, Off, Reply as Answer, StampIs, Entry, Nothing, Exit, Signal, NotStarted, Bytes, Kept, Fault, turn, heard}
use Rattle.plan_machine.specs.Depfile.{depfile}
use Rattle.plan_machine.specs.Limits.{Limits}
use Rattle.plan_machine.specs.Places.{at_take, is_free}
use Rattle.plan_machine.specs.declared.event.Outcome.TheVariants.{Failed}
use Rattle.plan_machine.specs.declared.event.Event.{Event}
use Rattle.plan_machine.specs.declared.event.Event.TheVariants.{Step, Reply as Hear}
use Rattle.plan_machine.specs.declared.event.Mark.{Mark}
use Rattle.plan_machine.specs.declared.event.Mark.TheVariants as mark
use Rattle.plan_machine.specs.declared.event.reply.Reply.{Reply}
use Rattle.plan_machine.specs.declared.run.local_runs.LocalRun.{LocalRun}
use Rattle.plan_machine.specs.Requests.{asked_at, asked_by}
use Rattle.plan_machine.specs.Runs.{Runs}
use Rattle.plan_machine.specs.LocalRuns.{events_by, marks_by, moves_of, local_run_events, local_run_marks, steps_of}
use Rattle.plan_machine.specs.State.{Status, Unbegun, Active, Over, State}
use Rattle.plan_machine.specs.Step.{Next, NotEnabled, answer_of, answered, ended, hears, hears_by, settles, step, stepped, steps}
use Rattle.plan_lanes.specs.Progress.{Opened, Progress}
use Rattle.plan_lanes.specs.LocalRuns.{Follows}
use Rattle.plan_lanes.proofs.ListLemmas.{get_set, when_either}

-- ---- turns

-- A turn after which an edge awaits no reply. If the turn asks, A holds.
abbrev Quiet : Type 0 → Turn → Type 0
Quiet A (Goes did m) = m.asked ≡ false
Quiet A (Sets k v m) = m.asked ≡ false
Quiet A (Asks q) = A
Quiet A Ends = Unit {0}
Quiet A (Fails cause) = Unit {0}
Quiet A (Wrong flaw) = Unit {0}

module _ (A : Type 0) where
  goes_quiet : (l : Local) (to : ℕ) (stack : List Value) → Quiet A (turns.goes l to stack)
  goes_quiet l to stack = when_either (Quiet A) (nat_lt 64 (length stack)) _ _ tt refl

  found_quiet : (l : Local) (r : Result (List (List ℕ)) (ℕ × ℕ)) → Quiet A (turns.found l r)
  found_quiet l (Ok paths) = goes_quiet l (l.place + 1) (Paths 0 paths ∷ drop 1 l.stack)
  found_quiet l (Err fault) = tt

  abbrev quietly : Option Turn → Type 0
  quietly (Some t) = Quiet A t
  quietly None = Unit {0}

  replied_quiet : (meaning : Meaning) (l : Local) (i : Instr) (r : Answer) → quietly (turns.replied meaning l i r)
  replied_quiet meaning l (op.Stat f) (StampIs n) = goes_quiet l (l.place + 1) (Stamp n ∷ l.stack)
  replied_quiet meaning l (op.Need f) (StampIs zero) = tt
  replied_quiet meaning l (op.Need f) (StampIs (suc n)) = goes_quiet l (l.place + 1) (Stamp (suc n) ∷ l.stack)
  replied_quiet meaning l op.Recall (Entry command basis paths) = goes_quiet l (l.place + 1) (Flag true ∷ Text command ∷ Stamp basis ∷ Paths 0 paths ∷ l.stack)
  replied_quiet meaning l op.Recall Nothing = goes_quiet l (l.place + 1) (Flag false ∷ Text [] ∷ Stamp 0 ∷ Paths 0 [] ∷ l.stack)
  replied_quiet meaning l op.Sweep (StampIs n) = goes_quiet l l.place (turns.merged n l.stack)
  replied_quiet meaning l op.Run (Exit zero) = goes_quiet (turns.ran l) (l.place + 1) (drop 1 l.stack)
  replied_quiet meaning l op.Run (Exit (suc n)) = tt
  replied_quiet meaning l op.Deps (Bytes bytes) = found_quiet l (meaning bytes)
  replied_quiet meaning l op.Deps Nothing = goes_quiet l (l.place + 1) (Paths 0 [] ∷ drop 1 l.stack)
  replied_quiet meaning l op.Keep Kept = goes_quiet l (l.place + 1) (drop 3 l.stack)
  replied_quiet meaning l i r = tt

  replied_at_quiet : (meaning : Meaning) (l : Local) (o : Option Instr) (r : Answer) → quietly (turns.replied_at meaning l o r)
  replied_at_quiet meaning l (Some i) r = replied_quiet meaning l i r
  replied_at_quiet meaning l None r = tt

  heard_quiet : (meaning : Meaning) (p : Parts) (e : ℕ) (l : Local) (r : Answer) → quietly (heard meaning p e l r)
  unfolding heard
  heard_quiet meaning p e l r = when_either quietly l.asked _ _ (replied_at_quiet meaning l (slice_get (code p e) l.place) r) tt

-- an edge that asks nothing goes on quietly
abbrev AsksOr : Turn → Type 0
AsksOr = Quiet (Unit {0})

jumps_quiet : (l : Local) (len to : ℕ) (stack : List Value) → AsksOr (turns.jumps l len to stack)
jumps_quiet l len to stack = when_either AsksOr (nat_le to l.place) _ _ tt (when_either AsksOr (nat_le len to) _ _ tt (goes_quiet (Unit {0}) l to stack))

calculated_quiet : (l : Local) (c : Calculated) → AsksOr (turns.calculated l c)
calculated_quiet l (On stack) = goes_quiet (Unit {0}) l (l.place + 1) stack
calculated_quiet l TooLong = tt
calculated_quiet l (Off flaw) = tt

asks_quiet : (o : Option (List ℕ)) (request : List ℕ → Request) → AsksOr (turns.asks_of o request)
asks_quiet (Some path) request = tt
asks_quiet None request = tt

ends_quiet : (p : Parts) (e : ℕ) (slots : Slots) (l : Local) → AsksOr (turns.ends p e slots l)
ends_quiet p e slots l = when_either AsksOr l.holding _ _ tt (when_either AsksOr (not (list_all (turns.is_set slots) (own_slots p e))) _ _ tt (when_either AsksOr (nat_lt 0 (length l.stack)) _ _ tt tt))

loads_quiet : (l : Local) (o : Option (Option Value)) → AsksOr (turns.loads l o)
loads_quiet l (Some (Some v)) = goes_quiet (Unit {0}) l (l.place + 1) (v ∷ l.stack)
loads_quiet l (Some None) = tt
loads_quiet l None = tt

stores_quiet : (l : Local) (e s : ℕ) (o : Option Slot) (stack : List Value) → AsksOr (turns.stores l e s o stack)
stores_quiet l e s None stack = tt
stores_quiet l e s (Some slot) [] = tt
stores_quiet l e s (Some slot) (v ∷ below) = when_either AsksOr (slot.owner == e) _ _ refl tt

writes_quiet : (l : Local) (o : Option (List ℕ)) → AsksOr (turns.writes l o)
writes_quiet l (Some t) = goes_quiet (Unit {0}) l (l.place + 1) (Text t ∷ l.stack)
writes_quiet l None = tt

sweeps_quiet : (l : Local) (all : List (List ℕ)) (below : List Value) (o : Option (List ℕ)) → AsksOr (turns.sweeps l all below o)
sweeps_quiet l all below (Some path) = tt
sweeps_quiet l all below None = goes_quiet (Unit {0}) l (l.place + 1) (Swept all ∷ below)

sweep_quiet : (l : Local) (stack : List Value) → AsksOr (turns.sweep l stack)
sweep_quiet l (Paths swept all ∷ Flag b ∷ Stamp n ∷ below) = sweeps_quiet l all (Flag b ∷ Stamp n ∷ below) (slice_get all swept)
sweep_quiet l _ = tt

branches_quiet : (l : Local) (len to : ℕ) (stack : List Value) → AsksOr (turns.branches l len to stack)
branches_quiet l len to (Flag b ∷ below) = when_either AsksOr b _ _ (jumps_quiet l len to below) (goes_quiet (Unit {0}) l (l.place + 1) below)
branches_quiet l len to _ = tt

runs_quiet : (o : Option (List (List ℕ))) (stack : List Value) → AsksOr (turns.runs o stack)
runs_quiet (Some outputs) (Text command ∷ below) = tt
runs_quiet (Some outputs) _ = tt
runs_quiet None stack = tt

reads_quiet : (stack : List Value) → AsksOr (turns.reads stack)
reads_quiet (Text path ∷ below) = tt
reads_quiet _ = tt

keeps_quiet : (o : Option (List ℕ)) (stack : List Value) → AsksOr (turns.keeps o stack)
keeps_quiet (Some output) (Swept paths ∷ Stamp basis ∷ Text command ∷ below) = tt
keeps_quiet (Some output) _ = tt
keeps_quiet None stack = tt

act_quiet : (p : Parts) (e : ℕ) (slots : Slots) (l : Local) (i : Instr) → AsksOr (turns.act p e slots l i)
act_quiet p e slots l op.End = ends_quiet p e slots l
act_quiet p e slots l (op.Stat f) = asks_quiet _ _
act_quiet p e slots l (op.Need f) = asks_quiet _ _
act_quiet p e slots l (op.Load s) = loads_quiet l (slice_get slots s)
act_quiet p e slots l (op.Store s) = stores_quiet l e s (slice_get p.slots s) l.stack
act_quiet p e slots l (op.Text t) = writes_quiet l (slice_get p.texts t)
act_quiet p e slots l op.Recall = asks_quiet _ _
act_quiet p e slots l op.Sweep = sweep_quiet l l.stack
act_quiet p e slots l (op.Jump d) = jumps_quiet l (length (code p e)) d l.stack
act_quiet p e slots l (op.JumpIf d) = branches_quiet l (length (code p e)) d l.stack
act_quiet p e slots l op.Take = when_either AsksOr l.holding _ _ tt (when_either AsksOr (pool_outside p e) _ _ tt refl)
act_quiet p e slots l op.Release = when_either AsksOr l.holding _ _ refl tt
act_quiet p e slots l op.Run = when_either AsksOr l.holding _ _ (runs_quiet _ l.stack) tt
act_quiet p e slots l op.Deps = reads_quiet l.stack
act_quiet p e slots l op.Keep = keeps_quiet _ l.stack
act_quiet p e slots l i = calculated_quiet l (turns.calculate i l.stack)

act_at_quiet : (p : Parts) (e : ℕ) (slots : Slots) (l : Local) (o : Option Instr) → AsksOr (turns.act_at p e slots l o)
act_at_quiet p e slots l (Some i) = act_quiet p e slots l i
act_at_quiet p e slots l None = tt

turn_quiet : (p : Parts) (e : ℕ) (slots : Slots) (l : Local) → AsksOr (turn p e slots l)
unfolding turn
turn_quiet p e slots l = act_at_quiet p e slots l (slice_get (code p e) l.place)

-- ---- what an event leaves of its edge

pub next_is : (t u : State) (m n : Mark) → Next t m ≡ Next u n → (t ≡ u) × (m ≡ n)
next_is t u m n is = (cc, cc)

module _ (p : Parts) (s : State) (e : ℕ) (l : Local) (active : slice_get s.edges e ≡ Some (Active l)) where
  quiet_asks : (slots : Slots) (m : Local) → m.asked ≡ false → asked_by p e slots (Some (Active m)) ≡ None
  quiet_asks slots m quiet = ap (λ (b : Bool). if b then turns.question p e slots m else None) quiet

  rests_at : (slots : Slots) (status : Status) (mid : State) → record { edges = slice_set s.edges e status; slots = slots } ≡ mid → asked_by p e slots (Some status) ≡ None → asked_at p mid e ≡ None
  rests_at slots status mid same none =
      subst (λ (x : State). asked_at p x e ≡ None) same (ap (asked_by p e slots) (get_set s.edges status e (slice_get_within s.edges e (Active l) active)) ∙ none)

  -- if it goes on, and didn't ask
  settled : (A : Type 0) (told : Did → Mark) (t : Turn) (mid : State) (m : Mark) → Quiet A t → (A → m ≢ mark.Asked e) → settles s e l told t ≡ Next mid m → asked_at p mid e ≡ None
  settled A told (Goes did k) mid m quiet none is = rests_at s.slots (Active k) mid (next_is _ _ _ _ is).0 (quiet_asks s.slots k quiet)
  settled A told (Sets j v k) mid m quiet none is = rests_at (slice_set s.slots j (Some v)) (Active k) mid (next_is _ _ _ _ is).0 (quiet_asks (slice_set s.slots j (Some v)) k quiet)
  settled A told (Asks q) mid m quiet none is = absurd (none quiet (sym (next_is _ _ _ _ is).1))
  settled A told Ends mid m quiet none is = rests_at s.slots (Over (ended l.ran)) mid (next_is _ _ _ _ is).0 refl
  settled A told (Fails cause) mid m quiet none is = rests_at s.slots (Over (Failed cause)) mid (next_is _ _ _ _ is).0 refl
  settled A told (Wrong flaw) mid m quiet none is = absurd cc

module _ (p : Parts) (limits : Limits) (s mid : State) (e : ℕ) (told : Mark) where
  steps_rest : (o : Option Status) → slice_get s.edges e ≡ o → steps p limits s e o ≡ Next mid told → told ≢ mark.Asked e → asked_at p mid e ≡ None
  steps_rest None at is none = absurd cc
  steps_rest (Some Unbegun) at is none = absurd cc
  steps_rest (Some (Over outcome)) at is none = absurd cc
  steps_rest (Some (Active l)) at is none = by (l.asked || (at_take p e l && not (is_free p limits s e))) is
    where
      by : (b : Bool) → (if b then NotEnabled else settles s e l (stepped e) (turn p e s.slots l)) ≡ Next mid told → asked_at p mid e ≡ None
      by true h = absurd cc
      by false h = settled p s e l at (Unit {0}) (stepped e) (turn p e s.slots l) mid told (turn_quiet p e s.slots l) (λ u. none) h

  step_rests : step depfile p limits s (Step e) ≡ Next mid told → told ≢ mark.Asked e → asked_at p mid e ≡ None
  unfolding step
  step_rests is none = steps_rest (slice_get s.edges e) refl is none

  heard_rests : (l : Local) (o : Option Turn) → slice_get s.edges e ≡ Some (Active l) → quietly ⊥ o → hears_by s e l o ≡ Next mid told → asked_at p mid e ≡ None
  heard_rests l None at quiet is = absurd cc
  heard_rests l (Some t) at quiet is = settled p s e l at ⊥ (answered e) t mid told quiet (λ no. absurd no) is

  hears_rest : (r : Answer) (o : Option Status) → slice_get s.edges e ≡ o → hears depfile p s e r o ≡ Next mid told → asked_at p mid e ≡ None
  hears_rest r None at is = absurd cc
  hears_rest r (Some Unbegun) at is = absurd cc
  hears_rest r (Some (Over outcome)) at is = absurd cc
  hears_rest r (Some (Active l)) at is = heard_rests l (heard depfile p e l r) at (heard_quiet ⊥ depfile p e l r) is

  hear_rests : (reply : Reply) → step depfile p limits s (Hear e reply) ≡ Next mid told → asked_at p mid e ≡ None
  unfolding step
  hear_rests reply is = hears_rest (answer_of reply) (slice_get s.edges e) refl is

-- ---- runs

-- the last event of a run
pub last_step : (p : Parts) (limits : Limits) (s t : State) (xs : List Event) (ms : List Mark) (x : Event) (m : Mark) → Runs depfile p limits s (xs ++ x ∷ []) (ms ++ m ∷ []) t → (mid : State) × (step depfile p limits mid x ≡ Next t m)
last_step p limits s t [] [] x m run = (s, run.1 ∙ ap (λ (u : State). Next u m) run.2)
last_step p limits s t (y ∷ ys) (n ∷ ms) x m run = last_step p limits run.0 t ys ms x m run.2
last_step p limits s t [] (n ∷ []) x m run = absurd run.2
last_step p limits s t [] (n ∷ k ∷ ms) x m run = absurd run.2
last_step p limits s t (y ∷ []) [] x m run = absurd run.2
last_step p limits s t (y ∷ z ∷ ys) [] x m run = absurd run.2

-- a reply was applied to an edge, which then made a local run without a question
local_run_rests : (p : Parts) (limits : Limits) (s t : State) (e : ℕ) (reply : Reply) (told : Mark) (r : LocalRun) → r.asked ≡ false → Runs depfile p limits s (Hear e reply ∷ local_run_events e r) (told ∷ local_run_marks e r) t → asked_at p t e ≡ None
local_run_rests p limits s t e reply told r quiet run = by r.steps r.asked quiet run
  where
    by : (n : ℕ) (a : Bool) → a ≡ false → Runs depfile p limits s (Hear e reply ∷ events_by e n a) (told ∷ marks_by e n a) t → asked_at p t e ≡ None
    by n true h one = absurd cc
    by zero false h one = subst (λ (u : State). asked_at p u e ≡ None) one.2 (hear_rests p limits s one.0 e told reply one.1)
    by (suc n) false h one =
        let last = last_step p limits s t (Hear e reply ∷ steps_of e n) (told ∷ moves_of e n) (Step e) (mark.Moved e) one in
        step_rests p limits last.0 t e (mark.Moved e) last.1 (λ is. cc)

pub follows_rests : (old new : Progress) (e : ℕ) (reply : Reply) (r : LocalRun) → Follows old new e reply r → r.asked ≡ false → asked_at new.opened.parts new.state e ≡ None
follows_rests old new e reply r follows quiet =
    let applies = follows.1 in
    subst (λ (o : Opened). asked_at o.parts new.state e ≡ None) (sym applies.opened) (local_run_rests old.opened.parts old.opened.limits old.state new.state e reply follows.0 r quiet applies.run)
