-- What a board did that went on by several events. Serves src/board.rt and src/board/local_runs.rt.
use Rattle.std.proofs.Common.{◌≡◌, ◌+◌, ℕ, zero, suc, Bool, true, false, List, [], ◌∷◌, ◌++◌, Option, Some, None, length, length-append, refl, sym, ap, ◌∙◌, subst, arith}
use Rattle.std.specs.Prelude.{◌||◌, ◌&&◌, not, if◌then◌else◌, slice_get}
use Rattle.std.proofs.lemmas.List.{append_assoc}
use Rattle.std.proofs.lemmas.Option.{slice_get_within}
use Rattle.plan_image.specs.declared.image.Parts.{Parts}
use Rattle.plan_verify.specs.Sound.{asking as awaiting}
use Rattle.plan_verify.specs.Turn.{Local, Request, Moved, Took, Released, Turn, Goes, Sets, Asks, Ends, Fails, Wrong, turn}
use Rattle.plan_machine.specs.declared.event.Event.{Event}
use Rattle.plan_machine.specs.declared.event.Event.TheVariants.{Step, Reply as Hear}
use Rattle.plan_machine.specs.declared.event.Mark.{Mark}
use Rattle.plan_machine.specs.declared.event.Mark.TheVariants as mark
use Rattle.plan_machine.specs.declared.event.reply.Reply.{Reply}
use Rattle.plan_machine.specs.declared.run.local_runs.LocalRun.{LocalRun}
use Rattle.plan_machine.specs.Depfile.{depfile}
use Rattle.plan_machine.specs.Edges.{edge_of}
use Rattle.plan_machine.specs.Limits.{Limits}
use Rattle.plan_machine.specs.Places.{at_take, is_free}
use Rattle.plan_machine.specs.Requests.{AsksNothing, asked_at}
use Rattle.plan_machine.specs.Requests.{Asks as AsksFor}
use Rattle.plan_machine.specs.Runs.{Runs}
use Rattle.plan_machine.specs.LocalRuns.{events_by, is_still, marks_by, moves_of, local_run_events, local_run_marks, steps_of}
use Rattle.plan_machine.specs.State.{Status, Unbegun, Active, Over, State}
use Rattle.plan_machine.specs.Step.{Next, NotEnabled, settles, step, stepped, steps}
use Rattle.plan_lanes.specs.Boards.{Applies, IsOpen}
use Rattle.plan_lanes.specs.Journals.{IsLastOf}
use Rattle.plan_lanes.specs.Proceeds.{AsksLast, AwaitsReply, MovesOn, asking, asking_by}
use Rattle.plan_lanes.specs.Progress.{Progress, run_state_of}
use Rattle.plan_lanes.specs.LocalRuns.{AppliesAll, Follows, Rushes}
use Rattle.plan_lanes.proofs.JournalLemmas.{last_here, last_same}
use Rattle.plan_lanes.proofs.ListLemmas.{get_set}
use Rattle.plan_lanes.proofs.RestLemmas.{last_step, next_is}
use Rattle.plan_lanes.proofs.LocalRunLemmas.{local_run_cons}

-- ---- which edges asked

pub asking_append : (xs ys : List Mark) → asking (xs ++ ys) ≡ asking xs ++ asking ys
asking_append [] ys = refl
asking_append (x ∷ xs) ys = ap (λ (l : List ℕ). asking_by x ++ l) (asking_append xs ys) ∙ sym (append_assoc (asking_by x) (asking xs) (asking ys))

moves_silent : (e n : ℕ) → asking (moves_of e n) ≡ []
moves_silent e zero = refl
moves_silent e (suc n) = asking_append (moves_of e n) (mark.Moved e ∷ []) ∙ ap (λ (l : List ℕ). l ++ []) (moves_silent e n)

local_run_silent : (e : ℕ) (r : LocalRun) → r.asked ≡ false → asking (local_run_marks e r) ≡ []
local_run_silent e r quiet = by r.asked quiet
  where
    by : (a : Bool) → a ≡ false → asking (marks_by e r.steps a) ≡ []
    by true h = absurd cc
    by false h = moves_silent e r.steps

local_run_asks : (e : ℕ) (r : LocalRun) → r.asked ≡ true → asking (local_run_marks e r) ≡ e ∷ []
local_run_asks e r asked = by r.asked asked
  where
    by : (a : Bool) → a ≡ true → asking (marks_by e r.steps a) ≡ e ∷ []
    by true h = asking_append (moves_of e r.steps) (mark.Asked e ∷ []) ∙ ap (λ (l : List ℕ). l ++ e ∷ []) (moves_silent e r.steps)
    by false h = absurd cc

-- ---- a local run that asked nothing

pub ran_locally_moves : (old new : Progress) (e : ℕ) (r : LocalRun) → Rushes old new e r → r.asked ≡ false → is_still r ≡ false → MovesOn old new
ran_locally_moves old new e r h quiet moved =
    let first = local_run_cons e r moved in
    record {
      first = Step e;
      rest = steps_of e first.0;
      told = local_run_marks e r;
      applies = subst (λ (l : List Event). AppliesAll old new l (local_run_marks e r)) first.1 h;
      silent = local_run_silent e r quiet;
    }

-- ---- a local run that asked

-- an edge that asked awaits a reply
module _ (p : Parts) (limits : Limits) (s mid : State) (e : ℕ) where
  abbrev Awaiting : Type 0
  Awaiting = (l : Local) × (slice_get mid.edges e ≡ Some (Active l)) × (l.asked ≡ true)

  settles_asked : (l : Local) → slice_get s.edges e ≡ Some (Active l) → (t : Turn) → settles s e l (stepped e) t ≡ Next mid (mark.Asked e) → Awaiting
  settles_asked l at (Goes Moved k) is = absurd (let clash = (next_is _ _ _ _ is).1 in cc)
  settles_asked l at (Goes Took k) is = absurd (let clash = (next_is _ _ _ _ is).1 in cc)
  settles_asked l at (Goes Released k) is = absurd (let clash = (next_is _ _ _ _ is).1 in cc)
  settles_asked l at (Sets j v k) is = absurd (let clash = (next_is _ _ _ _ is).1 in cc)
  settles_asked l at (Asks q) is =
      let set : slice_get mid.edges e ≡ Some (Active (awaiting l)) =
      ap (λ (t : State). slice_get t.edges e) (sym (next_is _ _ _ _ is).0) ∙ get_set s.edges (Active (awaiting l)) e (slice_get_within s.edges e (Active l) at) in
      (awaiting l, set, refl)
  settles_asked l at Ends is = absurd (let clash = (next_is _ _ _ _ is).1 in cc)
  settles_asked l at (Fails cause) is = absurd (let clash = (next_is _ _ _ _ is).1 in cc)
  settles_asked l at (Wrong flaw) is = absurd cc

  steps_asked : (o : Option Status) → slice_get s.edges e ≡ o → steps p limits s e o ≡ Next mid (mark.Asked e) → Awaiting
  steps_asked None at is = absurd cc
  steps_asked (Some Unbegun) at is = absurd cc
  steps_asked (Some (Over outcome)) at is = absurd cc
  steps_asked (Some (Active l)) at is = by (l.asked || (at_take p e l && not (is_free p limits s e))) is
    where
      by : (b : Bool) → (if b then NotEnabled else settles s e l (stepped e) (turn p e s.slots l)) ≡ Next mid (mark.Asked e) → Awaiting
      by true h = absurd cc
      by false h = settles_asked l at (turn p e s.slots l) h

  step_asked : step depfile p limits s (Step e) ≡ Next mid (mark.Asked e) → Awaiting
  unfolding step
  step_asked is = steps_asked (slice_get s.edges e) refl is

-- the last event of a local run that asked
run_asked : (p : Parts) (limits : Limits) (s t : State) (e n : ℕ) (before : List Event) (told : List Mark) → Runs depfile p limits s (before ++ Step e ∷ []) (told ++ mark.Asked e ∷ []) t
    → (l : Local) × (slice_get t.edges e ≡ Some (Active l)) × (l.asked ≡ true)
run_asked p limits s t e n before told run =
    let last = last_step p limits s t before told (Step e) (mark.Asked e) run in
    step_asked p limits last.0 t e last.1

pub ran_locally_awaits : (old new : Progress) (e : ℕ) (r : LocalRun) → Rushes old new e r → r.asked ≡ true → AwaitsReply new e
ran_locally_awaits old new e r h asked = by r.steps r.asked asked h.run
  where
    by : (n : ℕ) (a : Bool) → a ≡ true → Runs depfile old.opened.parts old.opened.limits old.state (events_by e n a) (marks_by e n a) new.state → AwaitsReply new e
    by n true k run = run_asked old.opened.parts old.opened.limits old.state new.state e n (steps_of e n) (moves_of e n) run
    by n false k run = absurd cc

pub followed_awaits : (old new : Progress) (e : ℕ) (reply : Reply) (r : LocalRun) → Follows old new e reply r → r.asked ≡ true → AwaitsReply new e
followed_awaits old new e reply r h asked = by r.steps r.asked asked h.1.run
  where
    by : (n : ℕ) (a : Bool) → a ≡ true → Runs depfile old.opened.parts old.opened.limits old.state (Hear e reply ∷ events_by e n a) (h.0 ∷ marks_by e n a) new.state → AwaitsReply new e
    by n true k run = run_asked old.opened.parts old.opened.limits old.state new.state e n (Hear e reply ∷ steps_of e n) (h.0 ∷ moves_of e n) run
    by n false k run = absurd cc

-- the number of the last event
last_number : (journal xs : List Event) (e number : ℕ) → journal ≡ xs ++ Step e ∷ [] → IsLastOf e number journal → number + 1 ≡ length journal
last_number journal xs e number is last =
    let same : number ≡ length xs = last_same (xs ++ Step e ∷ []) e number (length xs) (subst (IsLastOf e number) is last) (last_here xs (Step e)) in
    let long : length journal ≡ length (xs ++ Step e ∷ []) = ap (λ (l : List Event). length l) is in
    omega (arith, same, long, length-append xs (Step e ∷ []))

pub ran_locally_asks : (old new : Progress) (e number : ℕ) (q : Request) (r : LocalRun) → Rushes old new e r → r.asked ≡ true → IsOpen new e number q → AsksLast old new e number q
ran_locally_asks old new e number q r h asked awaited =
    record {
      events = local_run_events e r;
      told = local_run_marks e r;
      applies = h;
      alone = local_run_asks e r asked;
      question = awaited;
      last = by r.steps r.asked asked h.journal;
    }
  where
    by : (n : ℕ) (a : Bool) → a ≡ true → new.journal ≡ old.journal ++ events_by e n a → number + 1 ≡ length new.journal
    by n true k is = last_number new.journal (old.journal ++ steps_of e n) e number (is ∙ sym (append_assoc old.journal (steps_of e n) (Step e ∷ []))) awaited.position
    by n false k is = absurd cc

-- ---- one event

alone : (told : Mark) → ((f : ℕ) → told ≡ mark.Asked f → ⊥) → asking (told ∷ []) ≡ []
alone (mark.Asked e) none = absurd (none e refl)
alone (mark.Started e) none = refl
alone (mark.Skipped e w) none = refl
alone (mark.Stopped e) none = refl
alone (mark.Took e) none = refl
alone (mark.Released e) none = refl
alone (mark.Moved e) none = refl
alone (mark.Answered e) none = refl
alone (mark.Ended e ran) none = refl
alone (mark.Failed e cause) none = refl

one_applied : (old new : Progress) (event : Event) (told : Mark) → Applies old new event told → AppliesAll old new (event ∷ []) (told ∷ [])
one_applied old new event told h = record { opened = h.opened; run = (new.state, h.next, refl); journal = h.journal; marks = h.marks }

-- one that asks nothing
pub applied_moves : (old new : Progress) (event : Event) (told : Mark) → Applies old new event told → AsksNothing old.opened.parts (run_state_of old) event → MovesOn old new
applied_moves old new event told h quiet =
    record {
      first = event;
      rest = [];
      told = told ∷ [];
      applies = one_applied old new event told h;
      silent = alone told (λ f is. quiet f new.state (h.next ∙ ap (Next new.state) is));
    }

-- one that asks
pub applied_asks : (old new : Progress) (event : Event) (told : Mark) (e number : ℕ) (q : Request) → Applies old new event told → AsksFor old.opened.parts (run_state_of old) event q → e ≡ edge_of event
    → told ≡ mark.Asked e → number ≡ length old.journal → asked_at new.opened.parts new.state e ≡ Some q → AsksLast old new e number q
applied_asks old new event told e number q h asks here is at asked =
    let long : length new.journal ≡ length (old.journal ++ event ∷ []) = ap (λ (l : List Event). length l) h.journal in
    record {
      events = event ∷ [];
      told = told ∷ [];
      applies = one_applied old new event told h;
      alone = ap (λ (m : Mark). asking (m ∷ [])) is;
      question = record {
        asked = asked;
        position =
            subst (λ (l : List Event). IsLastOf e number l) (sym h.journal)
            (subst (λ (n : ℕ). IsLastOf e n (old.journal ++ event ∷ [])) (sym at) (subst (λ (f : ℕ). IsLastOf f (length old.journal) (old.journal ++ event ∷ [])) (sym here) (last_here old.journal event)));
      };
      last = omega (arith, at, long, length-append old.journal (event ∷ []));
    }
