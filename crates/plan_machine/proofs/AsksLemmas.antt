-- The events that ask, by the table.
use Rattle.std.proofs.Common.{◌≡◌, ℕ, zero, suc, ◌+◌, Bool, true, false, not, List, [], ◌∷◌, length, Option, Some, None, refl, sym, ap, ◌∙◌, subst, inl, inr}
use Rattle.std.specs.Prelude.{◌||◌, ◌&&◌, IfNone, IfSome, Result, Ok, Err, drop, if◌then◌else◌, nat_lt, option_map, slice_get}
use Rattle.std.specs.List.{list_all}
use Rattle.std.proofs.lemmas.Bool.{cases_Bool}
use Rattle.std.proofs.lemmas.Option.{slice_get_within}
use Rattle.plan_image.specs.declared.body.Instr.{Instr}
use Rattle.plan_image.specs.declared.body.Instr.TheVariants as op
use Rattle.plan_image.specs.declared.image.Parts.{Parts}
use Rattle.plan_image.specs.Code.{code}
use Rattle.plan_verify.specs.declared.value.Value.{Value}
use Rattle.plan_verify.specs.declared.value.Value.TheVariants.{Stamp, Flag, Text, Paths, Swept}
use Rattle.plan_verify.specs.Members.{is_member}
use Rattle.plan_verify.specs.Tables.{waits_of}
use Rattle.plan_verify.specs.Turn.{Slots, Local, Request as Question, Did, Moved, Took, Released, Turn, Goes, Sets, Asks as AsksFor, Ends, Fails, Wrong as Errs, Meaning, Reply as Answer, StampIs, Entry, Nothing, Exit, Signal, NotStarted, Bytes, Kept, Fault, act, act_at, found, goes, heard, merged, question, ran, replied, replied_at, request_of, sweep, sweeps, turn}
use Rattle.plan_verify.specs.Sound.{asking}
use Rattle.plan_machine.specs.declared.event.Event.{Event}
use Rattle.plan_machine.specs.declared.event.Event.TheVariants.{Start, Skip, Stop, Step, Reply as Hear}
use Rattle.plan_machine.specs.declared.event.Mark.TheVariants as mark
use Rattle.plan_machine.specs.declared.event.Request.{Request}
use Rattle.plan_machine.specs.State.{Status, Unbegun, Active, Over, State, is_unsuccessful, has_succeeded, stands, with_status}
use Rattle.plan_machine.specs.Places.{at_take, is_free, is_spent}
use Rattle.plan_machine.specs.RunState.{RunState}
use Rattle.plan_machine.specs.Step.{Stepped, Next, answer_of, answered, hears, hears_by, settles, skips, starts, step, stepped, steps, stops}
use Rattle.plan_machine.specs.Depfile.{depfile}
use Rattle.plan_machine.specs.Applying.{may_step_by}
use Rattle.plan_machine.specs.Requests.{Asks, AsksNothing, asked_by, asks_by, is_asking, shown, step_asks}
use Rattle.plan_machine.proofs.ListLemmas.{get_same, some_is, when_either, when_false}
use Rattle.plan_machine.proofs.RequestLemmas.{goes_quiet, silent}

-- ---- an edge that asked would ask the same question again

sweep_again : (l : Local) (stack : List Value) → request_of (sweep (asking l) stack) ≡ request_of (sweep l stack)
sweep_again l (Paths swept all ∷ Flag b ∷ Stamp n ∷ below) = by (slice_get all swept)
  where
    by : (o : Option (List ℕ)) → request_of (sweeps (asking l) all (Flag b ∷ Stamp n ∷ below) o) ≡ request_of (sweeps l all (Flag b ∷ Stamp n ∷ below) o)
    by (Some path) = refl
    by None = goes_quiet (asking l) (l.place + 1) (Swept all ∷ Flag b ∷ Stamp n ∷ below) ∙ sym (goes_quiet l (l.place + 1) (Swept all ∷ Flag b ∷ Stamp n ∷ below))
sweep_again l stack = refl

act_again : (p : Parts) (e : ℕ) (slots : Slots) (l : Local) (i : Instr) → request_of (act p e slots (asking l) i) ≡ request_of (act p e slots l i)
act_again p e slots l i = elim (cases_Bool (is_asking i)) [
  | inr off ↦ sym (silent p e slots (asking l) i off) ∙ silent p e slots l i off
  | inl on ↦ by i on
]
  where
    by : (i : Instr) → is_asking i ≡ true → request_of (act p e slots (asking l) i) ≡ request_of (act p e slots l i)
    by (op.Stat f) on = refl
    by (op.Need f) on = refl
    by op.Recall on = refl
    by op.Sweep on = sweep_again l l.stack
    by op.Run on = refl
    by op.Deps on = refl
    by op.Keep on = refl
    by _ on = absurd cc

question_again : (p : Parts) (e : ℕ) (slots : Slots) (l : Local) → question p e slots (asking l) ≡ question p e slots l
unfolding turn
question_again p e slots l = by (slice_get (code p e) l.place)
  where
    by : (o : Option Instr) → request_of (act_at p e slots (asking l) o) ≡ request_of (act_at p e slots l o)
    by (Some i) = act_again p e slots l i
    by None = refl

asks_turn : (t : Turn) (q : Question) → request_of t ≡ Some q → t ≡ AsksFor q
asks_turn (AsksFor r) q is = ap AsksFor (some_is r q is)
asks_turn (Goes did m) q is = absurd cc
asks_turn (Sets k v m) q is = absurd cc
asks_turn Ends q is = absurd cc
asks_turn (Fails cause) q is = absurd cc
asks_turn (Errs flaw) q is = absurd cc

-- ---- a step that asks

module _ (p : Parts) (g : RunState) where
  step_by : (e : ℕ) (o : Option Status) (q : Question) → slice_get g.now.edges e ≡ o → (if may_step_by p g.limits g.now e o then step_asks p e g.now.slots o else None) ≡ Some q → Asks p g (Step e) q
  unfolding step
  step_by e None q at is = absurd cc
  step_by e (Some Unbegun) q at is = absurd cc
  step_by e (Some (Over outcome)) q at is = absurd cc
  step_by e (Some (Active l)) q at is =
      elim (cases_Bool (l.asked || (at_take p e l && not (is_free p g.limits g.now e)))) [
        | inl off ↦ absurd (let clash : ◌≡◌ {A = Option Question} None (Some q) = subst (λ (b : Bool). (if not b then question p e g.now.slots l else None) ≡ Some q) off is in cc)
        | inr on ↦
            let asked : question p e g.now.slots l ≡ Some q = subst (λ (b : Bool). (if not b then question p e g.now.slots l else None) ≡ Some q) on is in
            let turned = asks_turn (turn p e g.now.slots l) q asked in
            let after = with_status g.now e (Active (asking l)) in
            record {
              edge = e;
              after = after;
              next = ap (λ (o : Option Status). steps p g.limits g.now e o) at
                  ∙ when_false (λ (x : Stepped). x ≡ Next after (mark.Asked e)) (l.asked || (at_take p e l && not (is_free p g.limits g.now e))) _ _ on (ap (settles g.now e l (stepped e)) turned);
              asked = ap (asked_by p e g.now.slots) (get_same g.now.edges e (Active (asking l)) (slice_get_within g.now.edges e (Active l) at)) ∙ question_again p e g.now.slots l ∙ asked;
            }
      ]

  pub asks_next : (event : Event) (q : Question) → asks_by p g.limits g.now event ≡ Some q → Asks p g event q
  asks_next (Step e) q is = step_by e (slice_get g.now.edges e) q refl is
  asks_next (Start e) q is = absurd cc
  asks_next (Skip e w) q is = absurd cc
  asks_next (Stop e) q is = absurd cc
  asks_next (Hear e r) q is = absurd cc

  pub shown_asks : (event : Event) (o : Option Request) → option_map shown o ≡ asks_by p g.limits g.now event → IfSome o (λ r. Asks p g event (shown r))
  shown_asks event (Some r) is = asks_next event (shown r) (sym is)
  shown_asks event None is = tt

-- ---- no other event asks

abbrev Mute : Stepped → Type 0
Mute (Next s (mark.Asked e)) = ⊥
Mute _ = Unit {0}

mute_no : (x : Stepped) → Mute x → (e : ℕ) (s : State) → x ≡ Next s (mark.Asked e) → ⊥
mute_no x h e s is = let it : Mute (Next s (mark.Asked e)) = subst Mute is h in it

abbrev NotAsks : Turn → Type 0
NotAsks (AsksFor q) = ⊥
NotAsks _ = Unit {0}

goes_on : (l : Local) (to : ℕ) (stack : List Value) → NotAsks (goes l to stack)
goes_on l to stack = when_either NotAsks (nat_lt 64 (length stack)) _ _ (λ h. tt) (λ h. tt)

found_on : (l : Local) (r : Result (List (List ℕ)) (ℕ × ℕ)) → NotAsks (found l r)
found_on l (Ok paths) = goes_on l (l.place + 1) (Paths 0 paths ∷ drop 1 l.stack)
found_on l (Err fault) = tt

settles_mute : (s : State) (e : ℕ) (l : Local) (t : Turn) → NotAsks t → Mute (settles s e l (answered e) t)
settles_mute s e l (Goes did m) h = tt
settles_mute s e l (Sets k v m) h = tt
settles_mute s e l (AsksFor q) h = absurd h
settles_mute s e l Ends h = tt
settles_mute s e l (Fails cause) h = tt
settles_mute s e l (Errs flaw) h = tt

stepped_mute : (s : State) (e : ℕ) (l : Local) (t : Turn) → NotAsks t → Mute (settles s e l (stepped e) t)
stepped_mute s e l (Goes did m) h = by did
  where
    by : (did : Did) → Mute (Next (with_status s e (Active m)) (stepped e did))
    by Moved = tt
    by Took = tt
    by Released = tt
stepped_mute s e l (Sets k v m) h = tt
stepped_mute s e l (AsksFor q) h = absurd h
stepped_mute s e l Ends h = tt
stepped_mute s e l (Fails cause) h = tt
stepped_mute s e l (Errs flaw) h = tt

not_asks : (t : Turn) → request_of t ≡ None → NotAsks t
not_asks (AsksFor q) is = absurd cc
not_asks (Goes did m) is = tt
not_asks (Sets k v m) is = tt
not_asks Ends is = tt
not_asks (Fails cause) is = tt
not_asks (Errs flaw) is = tt

module _ (meaning : Meaning) (l : Local) where
  replied_on : (i : Instr) (r : Answer) → IfSome (replied meaning l i r) NotAsks
  replied_on (op.Stat f) (StampIs n) = goes_on l (l.place + 1) (Stamp n ∷ l.stack)
  replied_on (op.Stat f) Fault = tt
  replied_on (op.Need f) (StampIs zero) = tt
  replied_on (op.Need f) (StampIs (suc n)) = goes_on l (l.place + 1) (Stamp (suc n) ∷ l.stack)
  replied_on (op.Need f) Fault = tt
  replied_on op.Recall (Entry command basis paths) = goes_on l (l.place + 1) (Flag true ∷ Text command ∷ Stamp basis ∷ Paths 0 paths ∷ l.stack)
  replied_on op.Recall Nothing = goes_on l (l.place + 1) (Flag false ∷ Text [] ∷ Stamp 0 ∷ Paths 0 [] ∷ l.stack)
  replied_on op.Recall Fault = tt
  replied_on op.Sweep (StampIs n) = goes_on l l.place (merged n l.stack)
  replied_on op.Sweep Fault = tt
  replied_on op.Run (Exit zero) = goes_on (ran l) (l.place + 1) (drop 1 l.stack)
  replied_on op.Run (Exit (suc n)) = tt
  replied_on op.Run Signal = tt
  replied_on op.Run NotStarted = tt
  replied_on op.Deps (Bytes bytes) = found_on l (meaning bytes)
  replied_on op.Deps Nothing = goes_on l (l.place + 1) (Paths 0 [] ∷ drop 1 l.stack)
  replied_on op.Deps Fault = tt
  replied_on op.Keep Kept = goes_on l (l.place + 1) (drop 3 l.stack)
  replied_on op.Keep Fault = tt
  replied_on i r = tt

  heard_on : (p : Parts) (e : ℕ) (r : Answer) → IfSome (heard meaning p e l r) NotAsks
  unfolding heard
  heard_on p e r = when_either (λ (o : Option Turn). IfSome o NotAsks) l.asked _ _ (λ h. by (slice_get (code p e) l.place)) (λ h. tt)
    where
      by : (o : Option Instr) → IfSome (replied_at meaning l o r) NotAsks
      by None = tt
      by (Some i) = replied_on i r

module _ (p : Parts) (g : RunState) where
  start_mute : (e : ℕ) (o : Option Status) → Mute (starts p g.now e o)
  start_mute e (Some Unbegun) = when_either Mute (list_all (stands has_succeeded g.now) (waits_of p e)) _ _ (λ h. tt) (λ h. tt)
  start_mute e None = tt
  start_mute e (Some (Active l)) = tt
  start_mute e (Some (Over outcome)) = tt

  skip_mute : (e w : ℕ) (o : Option Status) → Mute (skips p g.now e w o)
  skip_mute e w (Some Unbegun) = when_either Mute (is_member w (waits_of p e) && stands is_unsuccessful g.now w) _ _ (λ h. tt) (λ h. tt)
  skip_mute e w None = tt
  skip_mute e w (Some (Active l)) = tt
  skip_mute e w (Some (Over outcome)) = tt

  stop_mute : (e : ℕ) (o : Option Status) → Mute (stops p g.limits g.now e o)
  stop_mute e (Some Unbegun) = when_either Mute (is_spent g.limits g.now) _ _ (λ h. tt) (λ h. tt)
  stop_mute e (Some (Active l)) = when_either Mute (is_spent g.limits g.now && at_take p e l) _ _ (λ h. tt) (λ h. tt)
  stop_mute e None = tt
  stop_mute e (Some (Over outcome)) = tt

  hear_mute : (e : ℕ) (r : Answer) (o : Option Status) → Mute (hears depfile p g.now e r o)
  hear_mute e r None = tt
  hear_mute e r (Some Unbegun) = tt
  hear_mute e r (Some (Over outcome)) = tt
  hear_mute e r (Some (Active l)) = by (heard depfile p e l r) (heard_on depfile l p e r)
    where
      by : (o : Option Turn) → IfSome o NotAsks → Mute (hears_by g.now e l o)
      by None h = tt
      by (Some t) h = settles_mute g.now e l t h

  step_mute : (e : ℕ) (o : Option Status) → None ≡ (if may_step_by p g.limits g.now e o then step_asks p e g.now.slots o else None) → Mute (steps p g.limits g.now e o)
  step_mute e None is = tt
  step_mute e (Some Unbegun) is = tt
  step_mute e (Some (Over outcome)) is = tt
  step_mute e (Some (Active l)) is =
      when_either Mute (l.asked || (at_take p e l && not (is_free p g.limits g.now e))) _ _ (λ off. tt)
      (λ on. stepped_mute g.now e l (turn p e g.now.slots l)
      (not_asks (turn p e g.now.slots l) (sym (subst (λ (b : Bool). None ≡ (if not b then question p e g.now.slots l else None)) on is))))

  mute : (event : Event) → None ≡ asks_by p g.limits g.now event → Mute (step depfile p g.limits g.now event)
  unfolding step
  mute (Start e) is = start_mute e (slice_get g.now.edges e)
  mute (Skip e w) is = skip_mute e w (slice_get g.now.edges e)
  mute (Stop e) is = stop_mute e (slice_get g.now.edges e)
  mute (Step e) is = step_mute e (slice_get g.now.edges e) is
  mute (Hear e r) is = hear_mute e (answer_of r) (slice_get g.now.edges e)

  pub shown_nothing : (event : Event) (o : Option Request) → option_map shown o ≡ asks_by p g.limits g.now event → IfNone o (AsksNothing p g event)
  shown_nothing event (Some r) is = tt
  shown_nothing event None is = λ e after next. mute_no (step depfile p g.limits g.now event) (mute event is) e after next
