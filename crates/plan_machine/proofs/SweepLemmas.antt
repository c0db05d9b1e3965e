-- A sweep that goes on is a reply, followed by a step.
use Rattle.std.proofs.Common.{◌≡◌, ℕ, ◌+◌, Bool, true, false, List, [], ◌∷◌, length, Option, Some, refl, sym, ap, ◌∙◌, subst}
use Rattle.std.specs.Prelude.{◌||◌, ◌==◌, Ok, nat_lt, slice_get, if◌then◌else◌}
use Rattle.std.proofs.lemmas.Option.{slice_get_within}
use Rattle.plan_image.specs.declared.body.Instr.{Instr}
use Rattle.plan_image.specs.declared.body.Instr.TheVariants as op
use Rattle.plan_image.specs.declared.image.Parts.{Parts}
use Rattle.plan_image.specs.Code.{code}
use Rattle.plan_verify.specs.declared.value.Value.{Value}
use Rattle.plan_verify.specs.declared.value.Value.TheVariants.{Stamp, Flag, Paths}
use Rattle.plan_verify.specs.Turn.{Slots, Request, Stat, Local, Moved, Turn, Goes, Asks, Wrong, TooDeep, StampIs, goes, merged, later, sweeps, sweep, act_at, turn, request_of, question, heard}
use Rattle.plan_verify.specs.Sound.{asking}
use Rattle.plan_machine.specs.declared.event.Event.TheVariants.{Step, Reply as Hear}
use Rattle.plan_machine.specs.declared.event.reply.Reply.TheVariants as reply
use Rattle.plan_machine.specs.declared.event.Mark.TheVariants as mark
use Rattle.plan_machine.specs.declared.edge.turns.Turned.TheVariants as turned
use Rattle.plan_machine.specs.declared.edge.turns.Heard.TheVariants as hearing
use Rattle.plan_machine.specs.State.{Status, Active, State, with_status}
use Rattle.plan_machine.specs.RunState.{RunState}
use Rattle.plan_machine.specs.Depfile.{depfile}
use Rattle.plan_machine.specs.Turned.{IsMade}
use Rattle.plan_machine.specs.Hearing.{HasHeard}
use Rattle.plan_machine.specs.Applying.{Applied}
use Rattle.plan_machine.specs.Replaying.{RunsTo}
use Rattle.plan_machine.specs.Requests.{asked_by, asked_at, HasPathsAt}
use Rattle.plan_machine.specs.LocalRuns.{HasMadeLocalStep, HasRunLocally}
use Rattle.plan_machine.specs.Sweeping.{sweep_events, sweep_marks, AwaitsSwept, HasNext, HasSwept, IsNext, IsSweptAt, Sweeps, SweepsOn}
use Rattle.plan_machine.specs.Working.{IsSweeping}
use Rattle.plan_machine.proofs.ListLemmas.{get_inside, get_same, when_true}
use Rattle.plan_machine.proofs.Applies.{set_again}
use Rattle.plan_machine.proofs.AskingLemmas.{heard_is}
use Rattle.plan_machine.proofs.HearingLemmas.{hear_is}
use Rattle.plan_machine.proofs.LocalRunLemmas.{elsewhere_so, follow_run, local_step_applied}

-- ---- one edge

goes_so : (l mid : Local) (stack : List Value) → goes l l.place stack ≡ Goes Moved mid → mid ≡ record { place = l.place; stack = stack; holding = l.holding; ran = l.ran; asked = false }
goes_so l mid stack is = by (nat_lt 64 (length stack)) is
  where
    by : (b : Bool) → (if b then Wrong TooDeep else Goes Moved (record { place = l.place; stack = stack; holding = l.holding; ran = l.ran; asked = false })) ≡ Goes Moved mid
        → mid ≡ record { place = l.place; stack = stack; holding = l.holding; ran = l.ran; asked = false }
    by true h = cc
    by false h = cc

question_by : (l : Local) (path : List ℕ) (stack : List Value) → IsNext path stack → request_of (sweep l stack) ≡ Some (Stat path)
question_by l path (Paths swept all ∷ Flag b ∷ Stamp n ∷ below) next = ap (λ (o : Option (List ℕ)). request_of (sweeps l all (Flag b ∷ Stamp n ∷ below) o)) next
question_by l path _ next = absurd next

question_is : (p : Parts) (e : ℕ) (path : List ℕ) (l : Local) → Some op.Sweep ≡ slice_get (code p e) l.place → IsNext path l.stack → (slots : Slots) → question p e slots l ≡ Some (Stat path)
unfolding turn
question_is p e path l at next slots = ap (λ (o : Option Instr). request_of (act_at p e slots l o)) (sym at) ∙ question_by l path l.stack next

next_is : (path : List ℕ) (stack : List Value) → HasNext path stack → IsNext path stack
next_is path (Paths swept all ∷ Flag b ∷ Stamp n ∷ below) next = next.0
next_is path _ next = absurd next

module _ (p : Parts) (e : ℕ) (path : List ℕ) (l : Local) (s : Sweeps p e path l) where
  pub question_so : (slots : Slots) → question p e slots l ≡ Some (Stat path)
  question_so = question_is p e path l s.at (next_is path l.stack s.next)

  module _ (stamp : ℕ) (mid : Local) (is : goes l l.place (merged stamp l.stack) ≡ Goes Moved mid) where
    hears_so : heard depfile p e l (StampIs stamp) ≡ Some (Goes Moved mid)
    hears_so = heard_is p e l (StampIs stamp) (Some op.Sweep) s.asked s.at ∙ ap (λ (t : Turn). Some t) is

    asks_by : (m : Local) (stack : List Value) → HasNext path stack → (q : Request) × (sweep m (merged stamp stack) ≡ Asks q)
    asks_by m (Paths swept all ∷ Flag b ∷ Stamp n ∷ below) next =
        let one = get_inside all (swept + 1) next.1 in
        (Stat one.0, ap (sweeps m all (Flag (b || (stamp == 0)) ∷ Stamp (later n stamp) ∷ below)) one.1)
    asks_by m _ next = absurd next

    mid_is : mid ≡ record { place = l.place; stack = merged stamp l.stack; holding = l.holding; ran = l.ran; asked = false }
    mid_is = goes_so l mid (merged stamp l.stack) is

    at_mid : Some op.Sweep ≡ slice_get (code p e) mid.place
    at_mid = s.at ∙ ap (λ (m : Local). slice_get (code p e) m.place) (sym mid_is)

    made_so : (slots : Slots) → IsMade turned.Asked mid (asking mid) (turn p e slots mid)
    unfolding turn
    made_so slots =
        let asks = asks_by mid l.stack s.next in
        (asks.0, ap (act_at p e slots mid) (sym at_mid) ∙ ap (λ (m : Local). sweep mid m.stack) mid_is ∙ asks.1, refl)

    left_by : (stack : List Value) → HasNext path stack → IsSweeping (merged stamp stack)
    left_by (Paths swept all ∷ Flag b ∷ Stamp n ∷ below) next = next.1
    left_by _ next = absurd next

    later_so : AwaitsSwept p e (asking mid)
    later_so = record { asked = refl; at = at_mid; left = subst (λ (m : Local). IsSweeping m.stack) (sym mid_is) (left_by l.stack s.next) }

    pub swept_on : (new : Local) → new ≡ asking mid → HasSwept p e path stamp l new
    swept_on new same =
        record {
          sweeps = s;
          between = mid;
          hears = hears_so;
          stepped_locally = λ slots. subst (λ (n : Local). HasMadeLocalStep p e turned.Asked mid n slots slots) (sym same)
              (record { local_step = tt; silent = ap (λ (m : Local). m.asked) mid_is; elsewhere = elsewhere_so p e mid op.Sweep at_mid refl; made = (made_so slots, refl) });
          later = subst (λ (n : Local). AwaitsSwept p e n) (sym same) later_so;
        }

-- the values on the stack of an edge that sweeps
pub sweeping_has : (stack : List Value) → IsSweeping stack → HasPathsAt stack
sweeping_has (Paths swept all ∷ Flag b ∷ Stamp n ∷ below) s = (swept, all, refl)
sweeping_has _ s = absurd s

-- ---- the machine

-- the question of an edge that sweeps
pub swept_asked : (p : Parts) (s : State) (e : ℕ) (path : List ℕ) → IsSweptAt p s e → ((l : Local) → slice_get s.edges e ≡ Some (Active l) → IsNext path l.stack) → asked_at p s e ≡ Some (Stat path)
swept_asked p s e path is next =
    ap (asked_by p e s.slots) is.1
    ∙ when_true (λ (q : Option Request). q ≡ Some (Stat path)) is.0.asked _ _ is.2.asked (question_is p e path is.0 is.2.at (next is.0 is.1) s.slots)

module _ (p : Parts) (old new : RunState) (e : ℕ) (path : List ℕ) (stamp : ℕ) (h : SweepsOn p old e path stamp new) where
  pub asked_so : asked_at p old.now e ≡ Some (Stat path)
  asked_so =
      ap (asked_by p e old.now.slots) h.now
      ∙ when_true (λ (q : Option Request). q ≡ Some (Stat path)) h.before.asked _ _ h.swept.sweeps.asked (question_so p e path h.before h.swept.sweeps old.now.slots)

  pub awaits_so : IsSweptAt p new.now e
  awaits_so = (
    h.after,
    ap (λ (g : RunState). slice_get g.now.edges e) h.left ∙ get_same old.now.edges e (Active h.after) (slice_get_within old.now.edges e (Active h.before) h.now),
    h.swept.later,
  )

  pub runs_so : RunsTo p old (sweep_events e stamp) (sweep_marks e) new
  runs_so =
      let between : RunState = record { limits = old.limits; now = with_status old.now e (Active h.swept.between) } in
      let heard_so : HasHeard p old e (StampIs stamp) hearing.On between = record { before = h.before; after = h.swept.between; now = h.now; made = h.swept.hears; left = refl } in
      let one : Applied p old (Hear e (reply.Stamp stamp)) (Ok (mark.Answered e)) between = hear_is p e (StampIs stamp) old between hearing.On heard_so (reply.Stamp stamp) (Ok (mark.Answered e)) between refl (refl, refl) in
      let ran_locally : HasRunLocally p between e turned.Asked new =
      record {
        before = h.swept.between;
        after = h.after;
        now = get_same old.now.edges e (Active h.swept.between) (slice_get_within old.now.edges e (Active h.before) h.now);
        slots = old.now.slots;
        stepped_locally = h.swept.stepped_locally old.now.slots;
        left = h.left ∙ ap (λ (xs : List Status). record { limits = old.limits; now = record { edges = xs; slots = old.now.slots } }) (sym (set_again old.now.edges e (Active h.swept.between) (Active h.after)));
      } in
      let two : Applied p between (Step e) (Ok (mark.Asked e)) new = local_step_applied p e between new turned.Asked ran_locally true refl in
      follow_run p old between new (Hear e (reply.Stamp stamp)) (mark.Answered e) (Step e ∷ []) (mark.Asked e ∷ []) one (record { run = (new.now, two.0, refl); limits = two.1 })
