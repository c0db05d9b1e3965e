-- What a board keeps, many events of one edge later.
use Rattle.std.proofs.Common.{◌≡◌, ◌<◌, ◌+◌, ◌-◌, ℕ, zero, suc, Bool, true, false, List, [], ◌∷◌, ◌++◌, Some, length, length-append, refl, sym, ap, ◌∙◌, subst, arith}
use Rattle.std.specs.Prelude.{◌==◌, ◌&&◌, not, IfOk, OnErr, Result, Ok, Err, drop, get_or, slice_get, slice_set}
use Rattle.std.proofs.lemmas.Bool.{eqb-true}
use Rattle.std.proofs.lemmas.List.{append-nil, append_assoc, get_or-drop}
use Rattle.plan_image.specs.declared.image.Parts.{Parts}
use Rattle.plan_machine.specs.declared.event.Event.{Event}
use Rattle.plan_machine.specs.declared.event.Event.TheVariants.{Step, Reply as Hear}
use Rattle.plan_machine.specs.declared.event.Mark.{Mark}
use Rattle.plan_machine.specs.declared.run.refused.Refused.{Refused}
use Rattle.plan_verify.specs.Turn.{Local, Request, Stat}
use Rattle.plan_machine.specs.declared.event.reply.Reply.{Reply}
use Rattle.plan_machine.specs.declared.event.reply.Reply.TheVariants as reply
use Rattle.plan_machine.specs.Requests.{asked_at}
use Rattle.plan_machine.specs.declared.run.local_runs.LocalRun.{LocalRun}
use Rattle.plan_machine.specs.Depfile.{depfile}
use Rattle.plan_machine.specs.Edges.{edge_of}
use Rattle.plan_machine.specs.RunState.{RunState}
use Rattle.plan_machine.specs.Kept.{Running, IsStateOf}
use Rattle.plan_machine.specs.Limits.{Limits}
use Rattle.plan_machine.specs.NeverStuck.{is_own}
use Rattle.plan_machine.specs.Replaying.{RunsTo}
use Rattle.plan_machine.specs.Runs.{Runs}
use Rattle.plan_machine.specs.LocalRuns.{events_by, is_still, marks_by, local_run_events, local_run_marks, steps_of}
use Rattle.plan_machine.specs.State.{Active, State}
use Rattle.plan_machine.specs.Sweeping.{IsSweptAt, IsSweptRow, row_events, row_marks, sweep_events, sweep_marks}
use Rattle.plan_machine.specs.Total.{total_of}
use Rattle.plan_lanes.specs.declared.board.Advance.{Advance}
use Rattle.plan_lanes.specs.declared.board.Advance.TheVariants.{Moved, Job, Wait, Ended}
use Rattle.plan_lanes.specs.Advances.{Advances}
use Rattle.plan_lanes.specs.Boards.{Applies, AreNumbers, IsKept, IsNumbered, IsOpen, MayJournal}
use Rattle.plan_lanes.specs.Journals.{IsLastOf, Rule}
use Rattle.plan_lanes.specs.Progress.{Opened, Progress, opened_with, progress, run_state_of}
use Rattle.plan_lanes.specs.LocalRuns.{AppliesAll, GoesOn}
use Rattle.plan_lanes.specs.StampRows.{HaveStamps}
use Rattle.plan_lanes.specs.ObservableMarks.{observable}
use Rattle.plan_lanes.proofs.BoardLemmas.{IsRecorded, kept_of, later_by, recorded_more, recorded_of}
use Rattle.plan_lanes.proofs.ListLemmas.{both_on}
use Rattle.plan_lanes.proofs.RunLemmas.{total_stays}
use Rattle.plan_lanes.proofs.StepLemmas.{asked_active, own_may_journal}
use Rattle.plan_lanes.proofs.ObservableLemmas.{row_leaves, observable_append}

-- ---- steps of an edge

abbrev pub AreSteps : ℕ → List Event → Type 0
AreSteps e [] = Unit {0}
AreSteps e (x ∷ xs) = (x ≡ Step e) × AreSteps e xs

steps_more : (e : ℕ) (xs : List Event) → AreSteps e xs → AreSteps e (xs ++ Step e ∷ [])
steps_more e [] all = (refl, tt)
steps_more e (x ∷ xs) all = (all.0, steps_more e xs all.1)

are_steps : (e n : ℕ) → AreSteps e (steps_of e n)
are_steps e zero = tt
are_steps e (suc n) = steps_more e (steps_of e n) (are_steps e n)

pub local_run_steps : (e : ℕ) (r : LocalRun) → AreSteps e (local_run_events e r)
local_run_steps e r = by r.asked
  where
    by : (a : Bool) → AreSteps e (events_by e r.steps a)
    by true = are_steps e (suc r.steps)
    by false = are_steps e r.steps

-- ---- many events more

set_again : (xs : List ℕ) (i x y : ℕ) → slice_set (slice_set xs i x) i y ≡ slice_set xs i y
set_again [] i x y = refl
set_again (z ∷ xs) zero x y = refl
set_again (z ∷ xs) (suc i) x y = ap (λ (l : List ℕ). z ∷ l) (set_again xs i x y)

-- a board many events later
abbrev pub after_all : Progress → List Event → List Mark → State → Progress
after_all b events told t = record { opened = b.opened; state = t; journal = b.journal ++ events; marks = b.marks ++ observable told }

last_place : (xs ys : List Event) (x : Event) → length xs ≡ length (xs ++ x ∷ []) - 1
last_place xs ys x = omega (arith, length-append xs (x ∷ []))

step_may : (rule : Rule) (b : Progress) (e : ℕ) (x : Event) → x ≡ Step e → MayJournal rule b x
step_may rule b e x is = own_may_journal rule b x (subst (λ (y : Event). is_own y ≡ true) (sym is) refl)

module _ (rule : Rule) (e : ℕ) where
  -- an event of the edge, and then steps of it
  pub recorded_all : (numbers : List ℕ) (b : Progress) (x : Event) (xs : List Event) (ms : List Mark) (t : State) → IsRecorded rule numbers b → edge_of x ≡ e → MayJournal rule b x → AreSteps e xs
      → Runs depfile b.opened.parts b.opened.limits b.state (x ∷ xs) ms t → IsRecorded rule (slice_set numbers e (length (b.journal ++ x ∷ xs) - 1)) (after_all b (x ∷ xs) ms t)
  recorded_all numbers b x xs [] t kept is may all run = absurd run
  recorded_all numbers b x [] (m ∷ []) t kept is may all run =
      let one = recorded_more rule numbers b x m run.0 kept may run.1 in
      let last : length b.journal ≡ length (b.journal ++ x ∷ []) - 1 = last_place b.journal [] x in
      subst (λ (n : ℕ). IsRecorded rule (slice_set numbers e n) (after_all b (x ∷ []) (m ∷ []) t)) last
      (subst (λ (f : ℕ). IsRecorded rule (slice_set numbers f (length b.journal)) (after_all b (x ∷ []) (m ∷ []) t)) is
      (subst (λ (s : State). IsRecorded rule (slice_set numbers (edge_of x) (length b.journal)) (after_all b (x ∷ []) (m ∷ []) s)) run.2 one))
  recorded_all numbers b x [] (m ∷ (n ∷ ms)) t kept is may all run = absurd run.2
  recorded_all numbers b x (y ∷ ys) (m ∷ ms) t kept is may all run =
      let mid : Progress = later_by b x m run.0 in
      let one : IsRecorded rule (slice_set numbers e (length b.journal)) mid =
      subst (λ (f : ℕ). IsRecorded rule (slice_set numbers f (length b.journal)) mid) is (recorded_more rule numbers b x m run.0 kept may run.1) in
      let rest = recorded_all (slice_set numbers e (length b.journal)) mid y ys ms t one (subst (λ (z : Event). edge_of z ≡ e) (sym all.0) refl) (step_may rule mid e y all.0) all.1 run.2 in
      let events : (b.journal ++ x ∷ []) ++ y ∷ ys ≡ b.journal ++ x ∷ y ∷ ys = append_assoc b.journal (x ∷ []) (y ∷ ys) in
      let marks : (b.marks ++ observable (m ∷ [])) ++ observable ms ≡ b.marks ++ observable (m ∷ ms) =
      append_assoc b.marks (observable (m ∷ [])) (observable ms) ∙ ap (λ (l : List Mark). b.marks ++ l) (sym (observable_append (m ∷ []) ms)) in
      let joined : IsRecorded rule (slice_set (slice_set numbers e (length b.journal)) e (length (b.journal ++ x ∷ y ∷ ys) - 1)) (after_all b (x ∷ y ∷ ys) (m ∷ ms) t)
      = subst (λ (l : List Event). IsRecorded rule (slice_set (slice_set numbers e (length b.journal)) e (length l - 1)) (record { opened = b.opened; state = t; journal = l; marks = b.marks ++ observable (m ∷ ms) })) events
      (subst (λ (l : List Mark). IsRecorded rule (slice_set (slice_set numbers e (length b.journal)) e (length ((b.journal ++ x ∷ []) ++ y ∷ ys) - 1))
      (record { opened = b.opened; state = t; journal = (b.journal ++ x ∷ []) ++ y ∷ ys; marks = l })) marks rest) in
      subst (λ (ns : List ℕ). IsRecorded rule ns (after_all b (x ∷ y ∷ ys) (m ∷ ms) t)) (set_again numbers e (length b.journal) (length (b.journal ++ x ∷ y ∷ ys) - 1)) joined

  -- a board with its schedule
  pub kept_all : (numbers : List ℕ) (r next : Running) (b : Progress) (x : Event) (xs : List Event) (ms : List Mark) → IsKept rule numbers r b → r.run_state ≡ record { limits = b.opened.limits; now = b.state }
      → edge_of x ≡ e → MayJournal rule b x → AreSteps e xs → RunsTo b.opened.parts r.run_state (x ∷ xs) ms next.run_state → IsStateOf b.opened.parts next
      → IsKept rule (slice_set numbers e (length (b.journal ++ x ∷ xs) - 1)) next (progress b.opened.parts b.opened.targets next.run_state (b.journal ++ x ∷ xs) (b.marks ++ observable ms))
  kept_all numbers r next b x xs ms kept run_state is may all run state =
      let runs : Runs depfile b.opened.parts b.opened.limits b.state (x ∷ xs) ms next.run_state.now = subst (λ (g : RunState). Runs depfile b.opened.parts g.limits g.now (x ∷ xs) ms next.run_state.now) run_state run.run in
      kept_of rule (slice_set numbers e (length (b.journal ++ x ∷ xs) - 1)) next b (b.journal ++ x ∷ xs) (b.marks ++ observable ms) kept.inside
      (recorded_all numbers b x xs ms next.run_state.now (recorded_of rule numbers r b kept run_state) is may all runs)
      (run.limits ∙ ap (λ (g : RunState). g.limits) run_state) state

-- ---- what a board with these fields keeps and did

steps_cons : (e n : ℕ) → steps_of e (suc n) ≡ Step e ∷ steps_of e n
steps_cons e zero = refl
steps_cons e (suc n) = ap (λ (l : List Event). l ++ Step e ∷ []) (steps_cons e n)

-- a local run with steps begins with a step
pub local_run_cons : (e : ℕ) (r : LocalRun) → is_still r ≡ false → (n : ℕ) × (local_run_events e r ≡ Step e ∷ steps_of e n)
local_run_cons e r moved = by r.steps r.asked moved
  where
    by : (n : ℕ) (a : Bool) → ((n == 0) && not a) ≡ false → (k : ℕ) × (events_by e n a ≡ Step e ∷ steps_of e k)
    by n true h = (n, steps_cons e n)
    by zero false h = absurd cc
    by (suc n) false h = (n, steps_cons e n)

pub local_run_long : (e : ℕ) (r : LocalRun) → is_still r ≡ false → 0 < length (local_run_events e r)
local_run_long e r moved =
    let first = local_run_cons e r moved in
    let same : length (local_run_events e r) ≡ suc (length (steps_of e first.0)) = ap (λ (l : List Event). length l) first.1 in
    omega (arith, same)

-- a local run without steps has no event
local_run_none : (e : ℕ) (r : LocalRun) → is_still r ≡ true → (local_run_events e r ≡ []) × (local_run_marks e r ≡ [])
local_run_none e r still = by r.steps r.asked (eqb-true r.steps 0 (both still).0) (off r.asked (both still).1)
  where
    both : is_still r ≡ true → ((r.steps == 0) ≡ true) × (not r.asked ≡ true)
    both h = both_on (r.steps == 0) (not r.asked) h

    off : (a : Bool) → not a ≡ true → a ≡ false
    off true h = absurd cc
    off false h = refl

    by : (n : ℕ) (a : Bool) → n ≡ 0 → a ≡ false → (events_by e n a ≡ []) × (marks_by e n a ≡ [])
    by zero false h k = (refl, refl)
    by zero true h k = absurd cc
    by (suc n) a h k = absurd (omega (arith, h))

abbrev run_state_by : Limits → State → RunState
run_state_by limits now = record { limits = limits; now = now }

still_same : (p : Parts) (old new : RunState) (e : ℕ) (r : LocalRun) → is_still r ≡ true → RunsTo p old (local_run_events e r) (local_run_marks e r) new → new ≡ old
still_same p old new e r still run =
    let none = local_run_none e r still in
    let here : Runs depfile p old.limits old.now [] [] new.now =
    subst (λ (l : List Mark). Runs depfile p old.limits old.now [] l new.now) none.1 (subst (λ (l : List Event). Runs depfile p old.limits old.now l (local_run_marks e r) new.now) none.0 run.run) in
    let stays : old.now ≡ new.now = here in
    ap (λ (l : Limits). run_state_by l new.now) run.limits ∙ ap (λ (t : State). run_state_by old.limits t) (sym stays)

module _ (rule : Rule) (numbers : List ℕ) (p : Parts) (targets : List ℕ) (r next : Running) (journal : List Event) (marks : List Mark) (e : ℕ) (local_run : LocalRun)
    (kept : IsKept rule numbers r (progress p targets r.run_state journal marks)) (state : IsStateOf p next) where
  -- if the local run had no step
  pub kept_still : RunsTo p r.run_state (local_run_events e local_run) (local_run_marks e local_run) next.run_state → is_still local_run ≡ true → IsKept rule numbers next (progress p targets next.run_state journal marks)
  kept_still run still =
      let k : IsKept rule numbers r (progress p targets next.run_state journal marks) =
      subst (λ (g : RunState). IsKept rule numbers r (progress p targets g journal marks)) (sym (still_same p r.run_state next.run_state e local_run still run)) kept in
      record { inside = k.inside; journaled = k.journaled; numbered = k.numbered; all = k.all; state = state }

  module _ (after : List ℕ) (longer : List Event) (more : List Mark) (put : after ≡ slice_set numbers e (length longer - 1)) where
    joined : (x : Event) (xs : List Event) (ms : List Mark) → longer ≡ journal ++ x ∷ xs → more ≡ marks ++ observable ms → edge_of x ≡ e → MayJournal rule (progress p targets r.run_state journal marks) x → AreSteps e xs
        → RunsTo p r.run_state (x ∷ xs) ms next.run_state → IsKept rule after next (progress p targets next.run_state longer more)
    joined x xs ms events told is may all run =
        let whole = kept_all rule e numbers r next (progress p targets r.run_state journal marks) x xs ms kept refl is may all run state in
        subst (λ (ns : List ℕ). IsKept rule ns next (progress p targets next.run_state longer more)) (sym put)
        (subst (λ (l : List Mark). IsKept rule (slice_set numbers e (length longer - 1)) next (progress p targets next.run_state longer l)) (sym told)
        (subst (λ (l : List Event). IsKept rule (slice_set numbers e (length l - 1)) next (progress p targets next.run_state l (marks ++ observable ms))) (sym events) whole))

    -- if steps were made
    pub kept_local_run : longer ≡ journal ++ local_run_events e local_run → more ≡ marks ++ observable (local_run_marks e local_run) → RunsTo p r.run_state (local_run_events e local_run) (local_run_marks e local_run) next.run_state → is_still local_run ≡ false
        → IsKept rule after next (progress p targets next.run_state longer more)
    kept_local_run events told run moved =
        let first = local_run_cons e local_run moved in
        joined (Step e) (steps_of e first.0) (local_run_marks e local_run) (events ∙ ap (λ (l : List Event). journal ++ l) first.1) told refl
        (step_may rule (progress p targets r.run_state journal marks) e (Step e) refl) (are_steps e first.0)
        (subst (λ (l : List Event). RunsTo p r.run_state l (local_run_marks e local_run) next.run_state) first.1 run)

    -- after a reply
    pub kept_followed : (reply : Reply) (told : Mark) → longer ≡ journal ++ Hear e reply ∷ local_run_events e local_run → more ≡ marks ++ observable (told ∷ local_run_marks e local_run) → MayJournal rule (progress p targets r.run_state journal marks) (Hear e reply)
        → RunsTo p r.run_state (Hear e reply ∷ local_run_events e local_run) (told ∷ local_run_marks e local_run) next.run_state → IsKept rule after next (progress p targets next.run_state longer more)
    kept_followed reply told events also may run = joined (Hear e reply) (local_run_events e local_run) (told ∷ local_run_marks e local_run) events also refl may (local_run_steps e local_run) run

-- what a board did whose fields were these
pub all_so : (p : Parts) (targets : List ℕ) (r next : RunState) (journal longer : List Event) (marks more : List Mark) (b : Progress) (xs : List Event) (ms : List Mark) → progress p targets r journal marks ≡ b
    → RunsTo p r xs ms next → longer ≡ journal ++ xs → more ≡ marks ++ observable ms → AppliesAll b (progress p targets next longer more) xs ms
all_so p targets r next journal longer marks more b xs ms same run events told =
    subst (λ (w : Progress). AppliesAll w (progress p targets next longer more) xs ms) same
    (record {
      opened = ap (λ (l : Limits). opened_with p l targets) run.limits;
      run = run.run;
      journal = events;
      marks = told;
    })

pub still_so : (p : Parts) (targets : List ℕ) (r next : RunState) (journal : List Event) (marks : List Mark) (b : Progress) (e : ℕ) (local_run : LocalRun) → progress p targets r journal marks ≡ b
    → RunsTo p r (local_run_events e local_run) (local_run_marks e local_run) next → is_still local_run ≡ true → AppliesAll b (progress p targets next journal marks) (local_run_events e local_run) (local_run_marks e local_run)
still_so p targets r next journal marks b e local_run same run still =
    let none = local_run_none e local_run still in
    all_so p targets r next journal journal marks marks b (local_run_events e local_run) (local_run_marks e local_run) same run
    (sym (append-nil journal) ∙ ap (λ (l : List Event). journal ++ l) (sym none.0)) (sym (append-nil marks) ∙ ap (λ (l : List Mark). marks ++ observable l) (sym none.1))

-- one item after a list, and a list after that
pub one_and_all : {X : Type 0} (a b c xs : List X) (x : X) → b ≡ a ++ x ∷ [] → c ≡ b ++ xs → c ≡ a ++ x ∷ xs
one_and_all a b c xs x one all = all ∙ ap (λ l. l ++ xs) one ∙ append_assoc a (x ∷ []) xs

-- ---- a row of a sweep

-- the stamp of a path that an edge asked for may be journaled if the rule allows it under every number
stamp_may : (rule : Rule) (b : Progress) (e stamp : ℕ) (path : List ℕ) → ((number : ℕ) → rule number (Stat path) (reply.Stamp stamp)) → asked_at b.opened.parts b.state e ≡ Some (Stat path)
    → MayJournal rule b (Hear e (reply.Stamp stamp))
stamp_may rule b e stamp path allows asked f r q n is at last =
    let same_edge : e ≡ f = cc in
    let same_reply : reply.Stamp stamp ≡ r = cc in
    let both : Some (Stat path) ≡ Some q = sym asked ∙ ap (asked_at b.opened.parts b.state) same_edge ∙ at in
    let same_question : Stat path ≡ q = cc in
    subst (λ (x : Request). rule n x r) same_question (subst (λ (x : Reply). rule n (Stat path) x) same_reply (allows n))

module _ (rule : Rule) (e : ℕ) where
  -- a board some stamps of a row later
  recorded_row : (numbers : List ℕ) (b : Progress) (paths : List (List ℕ)) (stamps : List ℕ) (new : RunState) → IsRecorded rule numbers b → HaveStamps rule paths stamps → 0 < length stamps
      → IsSweptRow b.opened.parts (run_state_of b) e paths stamps new
      → IsRecorded rule (slice_set numbers e (length (b.journal ++ row_events e stamps) - 1)) (after_all b (row_events e stamps) (row_marks e stamps) new.now)
  recorded_row numbers b paths [] new kept have some row = absurd (omega (arith, some))
  recorded_row numbers b [] (stamp ∷ stamps) new kept have some row = absurd row
  recorded_row numbers b (path ∷ paths) (stamp ∷ []) new kept have some row =
      let one = recorded_all rule e numbers b (Hear e (reply.Stamp stamp)) (Step e ∷ []) (sweep_marks e) row.0.now kept refl (stamp_may rule b e stamp path have.0 row.1) (refl, tt) row.2.run in
      subst (λ (g : RunState). IsRecorded rule (slice_set numbers e (length (b.journal ++ sweep_events e stamp) - 1)) (after_all b (sweep_events e stamp) (sweep_marks e) g.now)) (sym row.4) one
  recorded_row numbers b (path ∷ paths) (stamp ∷ (next ∷ stamps)) new kept have some row =
      let xs : List Event = sweep_events e stamp in
      let ms : List Mark = sweep_marks e in
      let ys : List Event = row_events e (next ∷ stamps) in
      let ns : List Mark = row_marks e (next ∷ stamps) in
      let number : ℕ = length (b.journal ++ xs) - 1 in
      let mid : Progress = after_all b xs ms row.0.now in
      let one : IsRecorded rule (slice_set numbers e number) mid = recorded_all rule e numbers b (Hear e (reply.Stamp stamp)) (Step e ∷ []) ms row.0.now kept refl (stamp_may rule b e stamp path have.0 row.1) (refl, tt) row.2.run in
      let limits : row.0 ≡ run_state_by b.opened.limits row.0.now = ap (λ (l : Limits). run_state_by l row.0.now) row.2.limits in
      let left : IsSweptRow b.opened.parts (run_state_of mid) e paths (next ∷ stamps) new = subst (λ (g : RunState). IsSweptRow b.opened.parts g e paths (next ∷ stamps) new) limits row.4 in
      let rest = recorded_row (slice_set numbers e number) mid paths (next ∷ stamps) new one have.1 (omega arith) left in
      let events : (b.journal ++ xs) ++ ys ≡ b.journal ++ (xs ++ ys) = append_assoc b.journal xs ys in
      let marks : (b.marks ++ observable ms) ++ observable ns ≡ b.marks ++ observable (ms ++ ns) = append_assoc b.marks (observable ms) (observable ns) ∙ ap (λ (l : List Mark). b.marks ++ l) (sym (observable_append ms ns)) in
      let whole : List Event = b.journal ++ (xs ++ ys) in
      let joined : IsRecorded rule (slice_set (slice_set numbers e number) e (length whole - 1)) (after_all b (xs ++ ys) (ms ++ ns) new.now)
      = subst (λ (l : List Event). IsRecorded rule (slice_set (slice_set numbers e number) e (length l - 1)) (record { opened = b.opened; state = new.now; journal = l; marks = b.marks ++ observable (ms ++ ns) })) events
      (subst (λ (l : List Mark). IsRecorded rule (slice_set (slice_set numbers e number) e (length ((b.journal ++ xs) ++ ys) - 1)) (record { opened = b.opened; state = new.now; journal = (b.journal ++ xs) ++ ys; marks = l })) marks rest) in
      subst (λ (l : List ℕ). IsRecorded rule l (after_all b (xs ++ ys) (ms ++ ns) new.now)) (set_again numbers e number (length whole - 1)) joined

  -- and with its schedule
  pub kept_row : (numbers : List ℕ) (r next : Running) (p : Parts) (targets : List ℕ) (journal longer : List Event) (marks : List Mark) (paths : List (List ℕ)) (stamps : List ℕ) (after : List ℕ)
      → IsKept rule numbers r (progress p targets r.run_state journal marks) → HaveStamps rule paths stamps → 0 < length stamps → IsSweptRow p r.run_state e paths stamps next.run_state
      → RunsTo p r.run_state (row_events e stamps) (row_marks e stamps) next.run_state → IsStateOf p next → longer ≡ journal ++ row_events e stamps → after ≡ slice_set numbers e (length longer - 1)
      → IsKept rule after next (progress p targets next.run_state longer marks)
  kept_row numbers r next p targets journal longer marks paths stamps after kept have some row runs state events put =
      let b : Progress = progress p targets r.run_state journal marks in
      let whole : List Event = journal ++ row_events e stamps in
      let recorded = recorded_row numbers b paths stamps next.run_state (recorded_of rule numbers r b kept refl) have some row in
      let all : IsKept rule (slice_set numbers e (length whole - 1)) next (progress p targets next.run_state whole (marks ++ observable (row_marks e stamps))) =
      kept_of rule (slice_set numbers e (length whole - 1)) next b whole (marks ++ observable (row_marks e stamps)) kept.inside recorded runs.limits state in
      subst (λ (l : List ℕ). IsKept rule l next (progress p targets next.run_state longer marks)) (sym put)
      (subst (λ (l : List Mark). IsKept rule (slice_set numbers e (length longer - 1)) next (progress p targets next.run_state longer l)) (sym (row_leaves marks e stamps))
      (subst (λ (l : List Event). IsKept rule (slice_set numbers e (length l - 1)) next (progress p targets next.run_state l (marks ++ observable (row_marks e stamps)))) (sym events) all))

-- what the edge asked before
row_first : (p : Parts) (old new : RunState) (e : ℕ) (paths : List (List ℕ)) (stamps : List ℕ) → 0 < length stamps → IsSweptRow p old e paths stamps new → asked_at p old.now e ≡ Some (Stat (get_or paths 0 []))
row_first p old new e paths [] some row = absurd (omega (arith, some))
row_first p old new e [] (stamp ∷ stamps) some row = absurd row
row_first p old new e (path ∷ paths) (stamp ∷ stamps) some row = row.1

pub row_open : (v b : Progress) (e number : ℕ) (paths : List (List ℕ)) (from : ℕ) (stamps : List ℕ) (new : RunState) → v ≡ b → 0 < length stamps → IsSweptRow v.opened.parts (run_state_of v) e (drop from paths) stamps new → IsNumbered b e number
    → IsOpen b e number (Stat (get_or paths from []))
row_open v b e number paths from stamps new same some row numbered =
    let swept : IsSweptRow b.opened.parts (run_state_of b) e (drop from paths) stamps new = subst (λ (w : Progress). IsSweptRow w.opened.parts (run_state_of w) e (drop from paths) stamps new) same row in
    let here : from + 0 ≡ from = omega arith in
    let path : get_or (drop from paths) 0 [] ≡ get_or paths from [] = get_or-drop from paths 0 [] ∙ ap (λ (n : ℕ). get_or paths n []) here in
    let asked : asked_at b.opened.parts b.state e ≡ Some (Stat (get_or paths from [])) = row_first b.opened.parts (run_state_of b) new e (drop from paths) stamps some swept ∙ ap (λ (p : List ℕ). Some (Stat p)) path in
    let active = asked_active b.opened.parts b.state e (Stat (get_or paths from [])) asked in
    record { asked = asked; position = numbered active.0 active.1 }

-- and that it asks again
row_asks : (p : Parts) (old new : RunState) (e : ℕ) (paths : List (List ℕ)) (stamps : List ℕ) → 0 < length stamps → IsSweptRow p old e paths stamps new → IsSweptAt p new.now e
row_asks p old new e paths [] some row = absurd (omega (arith, some))
row_asks p old new e [] (stamp ∷ stamps) some row = absurd row
row_asks p old new e (path ∷ paths) (stamp ∷ []) some row = subst (λ (g : RunState). IsSweptAt p g.now e) (sym row.4) row.3
row_asks p old new e (path ∷ paths) (stamp ∷ (next ∷ stamps)) some row = row_asks p row.0 new e paths (next ∷ stamps) (omega arith) row.4

pub row_awaits : (p : Parts) (old new : RunState) (e f : ℕ) (paths : List (List ℕ)) (stamps : List ℕ) → 0 < length stamps → IsSweptRow p old e paths stamps new → e ≡ f
    → (l : Local) × (slice_get new.now.edges f ≡ Some (Active l)) × (l.asked ≡ true)
row_awaits p old new e f paths stamps some row same =
    let at = row_asks p old new e paths stamps some row in
    subst (λ (k : ℕ). (l : Local) × (slice_get new.now.edges k ≡ Some (Active l)) × (l.asked ≡ true)) same (at.0, at.1, at.2.asked)

-- a row has events
pub row_long : (e : ℕ) (stamps : List ℕ) → 0 < length stamps → 0 < length (row_events e stamps)
row_long e [] some = absurd (omega (arith, some))
row_long e (stamp ∷ stamps) some = omega arith

-- the kept numbers are the positions of each edge's last event
pub numbered_so : (numbers : List ℕ) (b : Progress) (e number : ℕ) → AreNumbers numbers b → slice_get numbers e ≡ Some number → IsNumbered b e number
numbered_so numbers b e number are at l active =
    let known = are e l active in
    let same : known.0 ≡ number = let both : Some known.0 ≡ Some number = sym known.1 ∙ at in cc in
    subst (λ (n : ℕ). IsLastOf e n b.journal) same known.2

-- ---- how many commands are wanted

pub total_runs : (p : Parts) (limits : Limits) (s t : State) (xs : List Event) (ms : List Mark) → Runs depfile p limits s xs ms t → total_of p t ≡ total_of p s
total_runs p limits s t [] [] run = ap (total_of p) (sym run)
total_runs p limits s t (x ∷ xs) (m ∷ ms) run = total_runs p limits run.0 t xs ms run.2 ∙ total_stays depfile p limits s run.0 x m run.1
total_runs p limits s t [] (m ∷ ms) run = absurd run
total_runs p limits s t (x ∷ xs) [] run = absurd run

-- ---- one event, or none, as many

pub goes_one : (old new : Progress) (event : Event) (told : Mark) → Applies old new event told → GoesOn old new
goes_one old new event told h =
    record {
      events = event ∷ [];
      told = told ∷ [];
      applies = record { opened = h.opened; run = (new.state, h.next, refl); journal = h.journal; marks = h.marks };
    }

pub goes_none : (old new : Progress) → new ≡ old → GoesOn old new
goes_none old new same =
    record {
      events = [];
      told = [];
      applies = record {
        opened = ap (λ (b : Progress). b.opened) same;
        run = ap (λ (b : Progress). b.state) (sym same);
        journal = ap (λ (b : Progress). b.journal) same ∙ sym (append-nil old.journal);
        marks = ap (λ (b : Progress). b.marks) same ∙ sym (append-nil old.marks);
      };
    }

-- an event was applied, or refused
pub goes_result : (old new : Progress) (event : Event) (result : Result Mark Refused) → IfOk result (λ m. Applies old new event m) → OnErr result (new ≡ old) → GoesOn old new
goes_result old new event (Ok m) ok err = goes_one old new event m ok
goes_result old new event (Err refused) ok err = goes_none old new err

-- a local run without steps changed nothing
pub still_stays : (old new : Progress) (e : ℕ) (r : LocalRun) → AppliesAll old new (local_run_events e r) (local_run_marks e r) → is_still r ≡ true → new ≡ old
still_stays old new e r h still =
    let none = local_run_none e r still in
    let all : AppliesAll old new [] [] = subst (λ (l : List Mark). AppliesAll old new [] l) none.1 (subst (λ (l : List Event). AppliesAll old new l (local_run_marks e r)) none.0 h) in
    let stays : old.state ≡ new.state = all.run in
    ap (λ (o : Opened). so o new.state new.journal new.marks) all.opened
    ∙ ap (λ (s : State). so old.opened s new.journal new.marks) (sym stays)
    ∙ ap (λ (l : List Event). so old.opened old.state l new.marks) (all.journal ∙ append-nil old.journal)
    ∙ ap (λ (l : List Mark). so old.opened old.state old.journal l) (all.marks ∙ append-nil old.marks)
  where
    so : Opened → State → List Event → List Mark → Progress
    so o s events marks = record { opened = o; state = s; journal = events; marks = marks }

pub goes_advanced : (old new : Progress) (a : Advance) → Advances old new a → GoesOn old new
goes_advanced old new Moved h = goes_one old new h.0 h.1.mark h.1.applies
goes_advanced old new (Job e q p) h = goes_one old new h.0 h.1.mark h.1.applies
goes_advanced old new Wait h = goes_none old new h.0
goes_advanced old new Ended h = goes_none old new h.0

pub goes_by : (old new : Progress) (result : Result Advance Refused) → IfOk result (λ a. Advances old new a) → OnErr result (new ≡ old) → GoesOn old new
goes_by old new (Ok a) ok err = goes_advanced old new a ok
goes_by old new (Err refused) ok err = goes_none old new err
