-- An edge run alone stays typed.
use Rattle.std.proofs.Common.{◌≡◌, ℕ, suc, ◌<◌, true, List, length, Option, Some, refl, sym, ap, subst, ◌∙◌, arith, inl, inr}
use Rattle.std.specs.Prelude.{IfSome, slice_get, slice_set}
use Rattle.std.proofs.lemmas.Bool.{cases_eq}
use Rattle.std.proofs.lemmas.Option.{slice_get_within}
use Rattle.plan_image.specs.declared.image.Parts.{Parts}
use Rattle.plan_image.specs.Code.{code}
use Rattle.plan_verify.specs.declared.value.Value.{Value}
use Rattle.plan_verify.specs.declared.kinds.Shape.{Shape}
use Rattle.plan_verify.specs.Tables.{owns, slot_kind}
use Rattle.plan_verify.specs.Turn.{kind_of, Slots, Request, Reply, Meaning, Local, begun, Turn, Goes, Sets, Asks, Ends, Fails, Wrong, turn, question, heard}
use Rattle.plan_verify.specs.WellShaped.{at_start, AreAllShapes}
use Rattle.plan_verify.specs.Sound.{AreTyped, AreLentSet, AreOwnSet, IsTyped, IsSafe}
use Rattle.plan_verify.specs.Alone.{Stage, Runs, Ended, Failed, WentWrong, Alone, after, at_begin, RunsAlone, rests, steps, hears, IsFine, NeverWrongAlone, GoesOnAlone}
use Rattle.plan_verify.proofs.ListLemmas.{is_some_of, some_is, get_inside, get_same, get_other, set_length}
use Rattle.plan_verify.proofs.FitsLaw.{first_shape}
use Rattle.plan_verify.proofs.QuestionsLaw.{hears_what_suits}
use Rattle.plan_verify.proofs.StepsLaw.{steps_are_safe, replies_are_safe, owned_is, set_stays}

-- setting an own slot leaves the slots typed
pub still_typed : (p : Parts) (e : ℕ) (slots : Slots) (s : ℕ) (v : Value) → AreTyped p slots → owns p e s ≡ true → kind_of v ≡ slot_kind p s → AreTyped p (slice_set slots s (Some v))
still_typed p e slots s v good own kind =
    let o = owned_is e (slice_get p.slots s) own in
    let short : s < length slots = omega (arith, slice_get_within p.slots s o.0 o.1, good.table) in
    record {
      table = set_length slots s (Some v) ∙ good.table;
      kinds = λ k w at. elim (cases_eq s k) [
        | inl same ↦
            let is : Some v ≡ Some w = some_is (Some v) (Some w) (sym (get_same slots s (Some v) short) ∙ ap (slice_get (slice_set slots s (Some v))) same ∙ at) in
            sym (ap kind_of (some_is v w is)) ∙ kind ∙ ap (slot_kind p) same
        | inr ne ↦ good.kinds k w (sym (get_other slots s k (Some v) ne) ∙ at)
      ];
    }

pub still_lent : (p : Parts) (e d : ℕ) (slots : Slots) (s : ℕ) (v : Value) → AreTyped p slots → owns p e s ≡ true → AreLentSet p d slots → AreLentSet p d (slice_set slots s (Some v))
still_lent p e d slots s v good own lent k h =
    let o = owned_is e (slice_get p.slots s) own in
    let short : s < length slots = omega (arith, slice_get_within p.slots s o.0 o.1, good.table) in
    set_stays slots s k v short (inr (lent k h))

-- an edge at its first place is typed
pub begun_typed : (p : Parts) (e : ℕ) (shapes : List Shape) (slots : Slots) → AreAllShapes p e shapes → IsTyped p e shapes slots begun
begun_typed p e shapes slots all =
    record {
      shape = at_start;
      here = first_shape p e shapes all;
      inside = (let i = get_inside (code p e) 0 all.some in rw i.1 refl);
      kinds = refl;
      holding = refl;
      set = λ s h. absurd (cc);
      awaits = λ loud. absurd (cc);
    }

module _ (p : Parts) (e : ℕ) (shapes : List Shape) (all : AreAllShapes p e shapes) where
  abbrev pub IsSound : Slots → Stage → Type 0
  IsSound slots (Runs l) = IsTyped p e shapes slots l
  IsSound slots (Ended ran) = AreOwnSet p e slots
  IsSound slots (Failed cause) = Unit {0}
  IsSound slots (WentWrong flaw) = ⊥

  pub record Good (x : Alone) : Type 0 where
    pub typed : AreTyped p x.slots
    pub lent : AreLentSet p e x.slots
    pub sound : IsSound x.slots x.stage

  pub after_good : (slots : Slots) (l : Local) (t : Turn) → AreTyped p slots → AreLentSet p e slots → IsSafe p e shapes slots l t → Good (after l slots t)
  after_good slots l (Goes did m) good lent safe = record { typed = good; lent = lent; sound = safe }
  after_good slots l (Sets s v m) good lent safe = record { typed = still_typed p e slots s v good safe.0 safe.1; lent = still_lent p e e slots s v good safe.0 lent; sound = safe.2 }
  after_good slots l (Asks q) good lent safe = record { typed = good; lent = lent; sound = safe }
  after_good slots l Ends good lent safe = record { typed = good; lent = lent; sound = safe.2 }
  after_good slots l (Fails cause) good lent safe = record { typed = good; lent = lent; sound = tt }
  after_good slots l (Wrong flaw) good lent safe = absurd safe

  pub step_good : (slots : Slots) (l : Local) → Good (record { stage = Runs l; slots = slots }) → Good (after l slots (turn p e slots l))
  step_good slots l g = after_good slots l (turn p e slots l) g.typed g.lent (steps_are_safe p e shapes all slots l g.typed g.lent g.sound)

  pub hear_good : (meaning : Meaning) (slots : Slots) (l : Local) (r : Reply) (t : Turn) → heard meaning p e l r ≡ Some t → Good (record { stage = Runs l; slots = slots }) → Good (after l slots t)
  hear_good meaning slots l r t is g =
      after_good slots l t g.typed g.lent (subst (λ (o : Option Turn). IfSome o (IsSafe p e shapes slots l)) is (replies_are_safe p e shapes all slots l meaning r g.sound))

  pub run_good : (meaning : Meaning) (n : ℕ) (x y : Alone) (told : List (Request × Reply)) → Good x → RunsAlone meaning p e n x told y → Good y
  run_good meaning n x y told g rests = g
  run_good meaning (suc n) x y told g (steps {l = l} {slots = slots} quiet run) = run_good meaning n _ y told (step_good slots l g) run
  run_good meaning (suc n) x y told g (hears {l = l} {slots = slots} {r = r} {t = t} {told = rest} asked is run) = run_good meaning n _ y rest (hear_good meaning slots l r t is g) run

  pub fine_by : (slots : Slots) (stage : Stage) → IsSound slots stage → IsFine p e slots stage
  fine_by slots (Runs l) h = tt
  fine_by slots (Ended ran) h = h
  fine_by slots (Failed cause) h = tt
  fine_by slots (WentWrong flaw) h = h

pub never_wrong_alone : NeverWrongAlone
never_wrong_alone p e shaped slots good lent meaning n told x run =
    let g = run_good p e shaped.0 shaped.1 meaning n (at_begin slots) x told (record { typed = good; lent = lent; sound = begun_typed p e shaped.0 slots shaped.1 }) run in
    (g.typed, fine_by p e shaped.0 shaped.1 x.slots x.stage g.sound)

pub goes_on_alone : GoesOnAlone
goes_on_alone p e shaped slots good lent meaning n told l now run loud =
    let g = run_good p e shaped.0 shaped.1 meaning n (at_begin slots) (record { stage = Runs l; slots = now }) told (record { typed = good; lent = lent; sound = begun_typed p e shaped.0 slots shaped.1 }) run in
    let typed : IsTyped p e shaped.0 now l = g.sound in
    let q = is_some_of (question p e now l) (typed.awaits loud) in
    (q.0, q.1, λ r suit. hears_what_suits p e now l meaning q.0 r loud q.1 ∙ suit)
