-- Each event preserves the invariant of reached states, and none goes wrong.
use Rattle.std.proofs.Common.{◌≡◌, ◌≢◌, ℕ, ◌<◌, Bool, true, false, not, List, [], ◌∷◌, length, Option, Some, None, refl, sym, ap, ◌∙◌, subst, arith, inl, inr}
use Rattle.std.specs.Prelude.{◌&&◌, ◌||◌, slice_get, slice_set, IfSome}
use Rattle.std.specs.List.{list_all}
use Rattle.std.proofs.lemmas.Bool.{cases_eq}
use Rattle.std.proofs.lemmas.Option.{slice_get_within}
use Rattle.plan_image.specs.declared.image.Slot.{Slot}
use Rattle.plan_image.specs.declared.image.Parts.{Parts}
use Rattle.plan_verify.specs.declared.kinds.Shape.{Shape}
use Rattle.plan_verify.specs.Tables.{waits_of, own_slots, lent_by}
use Rattle.plan_verify.specs.Members.{is_member}
use Rattle.plan_verify.specs.Turn.{Slots, is_set, Local, begun, Flaw, Did, Turn, Goes, Sets, Asks, Ends, Fails, Wrong as Errs, Meaning, Reply as Answer, turn, heard}
use Rattle.plan_verify.specs.WellShaped.{AreAllShapes, IsWellShaped}
use Rattle.plan_verify.specs.Sound.{AreTyped, AreLentSet, AreOwnSet, IsTyped, IsSafe, asking}
use Rattle.plan_machine.proofs.ListLemmas.{get_other, set_length, when_either}
use Rattle.plan_machine.specs.Limits.{Limits}
use Rattle.plan_machine.specs.TurnLaws.{TurnLaws}
use Rattle.plan_machine.proofs.TypedLemmas.{owned_is, set_stays, still_typed, begun_typed}
use Rattle.plan_machine.specs.declared.event.Event.{Event}
use Rattle.plan_machine.specs.declared.event.Event.TheVariants.{Start, Skip, Stop, Step, Reply as Hear}
use Rattle.plan_machine.specs.declared.event.Mark.{Mark}
use Rattle.plan_machine.specs.declared.event.Mark.TheVariants as mark
use Rattle.plan_machine.specs.declared.event.Outcome.{Outcome}
use Rattle.plan_machine.specs.declared.event.Outcome.TheVariants.{Failed, Skipped, Stopped, NotWanted}
use Rattle.plan_machine.specs.State.{Status, Unbegun, Active, Over, State, has_succeeded, is_unsuccessful, passes, stands, with_status}
use Rattle.plan_machine.specs.Step.{Stepped, Next, Wrong, NotEnabled, stepped, answered, ended, settles, hears_by, starts, skips, stops, steps, hears, answer_of, step}
use Rattle.plan_machine.specs.Places.{is_spent, is_free, at_take}
use Rattle.plan_machine.specs.Runs.{Runs}
use Rattle.plan_machine.specs.Standing.{IsUnderWay, Stands}
use Rattle.plan_machine.proofs.ListLemmas.{get_cases, all_member, all_more, own_all}

-- ---- small facts

-- an edge that is waited for and succeeded has set its slots
pub lent_set : (p : Parts) (s : State) (e : ℕ) → Stands p s → ((w : ℕ) → is_member w (waits_of p e) ≡ true → stands has_succeeded s w ≡ true) → AreLentSet p e s.slots
lent_set p s e sound waited k lent = by (slice_get p.slots k) refl lent
  where
    by : (o : Option Slot) → slice_get p.slots k ≡ o → lent_by (waits_of p e) o ≡ true → is_set s.slots k ≡ true
    by None at h = absurd cc
    by (Some slot) at h = own_all p (is_set s.slots) slot.owner k slot at refl (sound.set slot.owner (waited slot.owner h))

pub stands_now : (test : Status → Bool) (s : State) (e : ℕ) (status : Status) → slice_get s.edges e ≡ Some status → test status ≡ true → stands test s e ≡ true
stands_now test s e status at h = ap (passes test) at ∙ h

pub stands_at : (test : Status → Bool) (s : State) (e : ℕ) → stands test s e ≡ true → (status : Status) × (slice_get s.edges e ≡ Some status) × (test status ≡ true)
stands_at test s e h = by (slice_get s.edges e) refl h
  where
    by : (o : Option Status) → slice_get s.edges e ≡ o → passes test o ≡ true → (status : Status) × (slice_get s.edges e ≡ Some status) × (test status ≡ true)
    by None at h = absurd cc
    by (Some status) at h = (status, at, h)

-- ---- the status of one edge changes, and slots are set

-- the obligations for the new status of an edge
abbrev pub Owed : Parts → State → ℕ → Slots → Status → Type 0
Owed p s e slots Unbegun = ⊥
Owed p s e slots (Active l) = (shapes : List Shape) × AreAllShapes p e shapes × IsTyped p e shapes slots l × ((w : ℕ) → is_member w (waits_of p e) ≡ true → stands has_succeeded s w ≡ true)
Owed p s e slots (Over outcome) = (has_succeeded (Over outcome) ≡ true → AreOwnSet p e slots) × (outcome ≢ NotWanted)

abbrev pub Grow : Slots → Slots → Type 0
Grow old new = (k : ℕ) → is_set old k ≡ true → is_set new k ≡ true

module _ (laws : TurnLaws) (p : Parts) (s : State) (e : ℕ) (old new : Status) (slots : Slots) (sound : Stands p s) (now : slice_get s.edges e ≡ Some old) (unwell : has_succeeded old ≡ false) (typed : AreTyped p slots) (grow : Grow s.slots slots) (owed : Owed p s e slots new) where
  mid : State
  mid = record { edges = slice_set s.edges e new; slots = slots }

  still_well : (w : ℕ) → stands has_succeeded s w ≡ true → stands has_succeeded mid w ≡ true
  unfolding mid
  still_well w well = elim (cases_eq e w) [
    | inl same ↦ absurd (let clash : true ≡ false = sym well ∙ (ap (stands has_succeeded s) (sym same) ∙ ap (passes has_succeeded) now) ∙ unwell in cc)
    | inr ne ↦ ap (passes has_succeeded) (get_other s.edges e w new ne) ∙ well
  ]

  active_here : (l : Local) → new ≡ Active l → IsUnderWay p mid e l
  unfolding mid
  active_here l is =
      let o : Owed p s e slots (Active l) = subst (λ (st : Status). Owed p s e slots st) is owed in
      record { shapes = o.0; all = o.1; typed = o.2; waited = λ w h. still_well w (o.3 w h) }

  active_there : (f : ℕ) (l : Local) → slice_get s.edges f ≡ Some (Active l) → IsUnderWay p mid f l
  unfolding mid
  active_there f l is =
      let u = sound.active f l is in
      record { shapes = u.shapes; all = u.all; typed = laws.stay_typed p f u.shapes s.slots slots l grow u.typed; waited = λ w h. still_well w (u.waited w h) }

  set_here : (st : Status) → Owed p s e slots st → has_succeeded st ≡ true → AreOwnSet p e slots
  set_here Unbegun o well = absurd o
  set_here (Active l) o well = absurd cc
  set_here (Over outcome) o well = o.0 well

  wanted_here : (st : Status) → Owed p s e slots st → st ≡ Over NotWanted → ⊥
  wanted_here Unbegun o h = o
  wanted_here (Active l) o h = absurd cc
  wanted_here (Over outcome) o h = o.1 (let is : outcome ≡ NotWanted = cc in is)

  begun_here : (st : Status) → Owed p s e slots st → st ≡ Unbegun → ⊥
  begun_here Unbegun o h = o
  begun_here (Active l) o h = absurd cc
  begun_here (Over outcome) o h = absurd cc

  pub changed : Stands p (record { edges = slice_set s.edges e new; slots = slots })
  unfolding mid
  changed =
      record {
        long = set_length s.edges e new ∙ sound.long;
        typed = typed;
        active = λ f l is. elim (get_cases s.edges e f new (Active l) is) [
          | inl q ↦ subst (λ (g : ℕ). IsUnderWay p mid g l) q.0 (active_here l q.1)
          | inr q ↦ active_there f l q.1
        ];
        set = λ f well.
            let h = stands_at has_succeeded mid f well in
            elim (get_cases s.edges e f new h.0 h.1) [
              | inl q ↦ subst (λ (g : ℕ). AreOwnSet p g slots) q.0 (set_here new owed (ap has_succeeded q.1 ∙ h.2))
              | inr q ↦ all_more (is_set s.slots) (is_set slots) (own_slots p f) grow (sound.set f (stands_now has_succeeded s f h.0 q.1 h.2))
            ];
        needed = λ f w is wait gone. elim (get_cases s.edges e f new Unbegun is) [
          | inl q ↦ absurd (begun_here new owed q.1)
          | inr q ↦ elim (get_cases s.edges e w new (Over NotWanted) gone) [
            | inl r ↦ absurd (wanted_here new owed r.1)
            | inr r ↦ sound.needed f w q.1 wait r.1
          ]
        ];
      }

-- ---- events

module _ (laws : TurnLaws) (meaning : Meaning) (p : Parts) (shaped : IsWellShaped p) (limits : Limits) where
  -- the allowed results of an event
  abbrev pub Safe : Stepped → Type 0
  Safe (Next s mark) = Stands p s
  Safe (Wrong flaw) = ⊥
  Safe NotEnabled = Unit {0}

  same_slots : (s : State) → Grow s.slots s.slots
  same_slots s k h = h

  module _ (s : State) (sound : Stands p s) where
    over_safe : (e : ℕ) (old : Status) (outcome : Outcome) (told : Mark) → slice_get s.edges e ≡ Some old → has_succeeded old ≡ false → has_succeeded (Over outcome) ≡ false → outcome ≢ NotWanted → Safe (Next (with_status s e (Over outcome)) told)
    over_safe e old outcome told now unwell ill wanted =
        changed laws p s e old (Over outcome) s.slots sound now unwell sound.typed (same_slots s) ((λ well. absurd (let clash : true ≡ false = sym well ∙ ill in cc)), wanted)

    ended_wanted : (ran : Bool) → ended ran ≢ NotWanted
    ended_wanted true h = absurd cc
    ended_wanted false h = absurd cc

    settles_safe : (e : ℕ) (l : Local) (told : Did → Mark) (t : Turn) → slice_get s.edges e ≡ Some (Active l) → (u : IsUnderWay p s e l) → IsSafe p e u.shapes s.slots l t → Safe (settles s e l told t)
    settles_safe e l told (Goes did m) now u safe = changed laws p s e (Active l) (Active m) s.slots sound now refl sound.typed (same_slots s) (u.shapes, u.all, safe, u.waited)
    settles_safe e l told (Sets k v m) now u safe =
        let o = owned_is e (slice_get p.slots k) safe.0 in
        let short : k < length s.slots = omega (arith, slice_get_within p.slots k o.0 o.1, sound.typed.table) in
        changed laws p s e (Active l) (Active m) (slice_set s.slots k (Some v)) sound now refl (still_typed p e s.slots k v sound.typed safe.0 safe.1)
        (λ n h. set_stays s.slots k n v short (inr h)) (u.shapes, u.all, safe.2, u.waited)
    settles_safe e l told (Asks q) now u safe = changed laws p s e (Active l) (Active (asking l)) s.slots sound now refl sound.typed (same_slots s) (u.shapes, u.all, safe, u.waited)
    settles_safe e l told Ends now u safe = changed laws p s e (Active l) (Over (ended l.ran)) s.slots sound now refl sound.typed (same_slots s) ((λ well. safe.2), ended_wanted l.ran)
    settles_safe e l told (Fails cause) now u safe = over_safe e (Active l) (Failed cause) (mark.Failed e cause) now refl refl (λ h. absurd cc)
    settles_safe e l told (Errs flaw) now u safe = absurd safe

    pub turn_safe : (e : ℕ) (l : Local) (u : IsUnderWay p s e l) → IsSafe p e u.shapes s.slots l (turn p e s.slots l)
    turn_safe e l u = laws.steps_safe p e u.shapes u.all s.slots l sound.typed (lent_set p s e sound u.waited) u.typed

    starts_safe : (e : ℕ) (o : Option Status) → slice_get s.edges e ≡ o → Safe (starts p s e o)
    starts_safe e (Some Unbegun) now =
        let edge = shaped.edges e (omega (arith, slice_get_within s.edges e Unbegun now, sound.long)) in
        when_either Safe (list_all (stands has_succeeded s) (waits_of p e)) _ _
        (λ all. changed laws p s e Unbegun (Active begun) s.slots sound now refl sound.typed (same_slots s)
        (edge.0, edge.1, begun_typed p e edge.0 s.slots edge.1, λ w h. all_member (stands has_succeeded s) (waits_of p e) w all h))
        (λ h. tt)
    starts_safe e None now = tt
    starts_safe e (Some (Active l)) now = tt
    starts_safe e (Some (Over outcome)) now = tt

    skips_safe : (e w : ℕ) (o : Option Status) → slice_get s.edges e ≡ o → Safe (skips p s e w o)
    skips_safe e w (Some Unbegun) now =
        when_either Safe (is_member w (waits_of p e) && stands is_unsuccessful s w) _ _
        (λ h. over_safe e Unbegun (Skipped w) (mark.Skipped e w) now refl refl (λ k. absurd cc)) (λ h. tt)
    skips_safe e w None now = tt
    skips_safe e w (Some (Active l)) now = tt
    skips_safe e w (Some (Over outcome)) now = tt

    stops_safe : (e : ℕ) (o : Option Status) → slice_get s.edges e ≡ o → Safe (stops p limits s e o)
    stops_safe e (Some Unbegun) now =
        when_either Safe (is_spent limits s) _ _ (λ h. over_safe e Unbegun Stopped (mark.Stopped e) now refl refl (λ k. absurd cc)) (λ h. tt)
    stops_safe e (Some (Active l)) now =
        when_either Safe (is_spent limits s && at_take p e l) _ _ (λ h. over_safe e (Active l) Stopped (mark.Stopped e) now refl refl (λ k. absurd cc)) (λ h. tt)
    stops_safe e None now = tt
    stops_safe e (Some (Over outcome)) now = tt

    steps_safe : (e : ℕ) (o : Option Status) → slice_get s.edges e ≡ o → Safe (steps p limits s e o)
    steps_safe e (Some (Active l)) now =
        let u = sound.active e l now in
        when_either Safe (l.asked || (at_take p e l && not (is_free p limits s e))) _ _ (λ h. tt)
        (λ h. settles_safe e l (stepped e) (turn p e s.slots l) now u (turn_safe e l u))
    steps_safe e None now = tt
    steps_safe e (Some Unbegun) now = tt
    steps_safe e (Some (Over outcome)) now = tt

    hears_safe : (e : ℕ) (r : Answer) (o : Option Status) → slice_get s.edges e ≡ o → Safe (hears meaning p s e r o)
    hears_safe e r (Some (Active l)) now =
        let u = sound.active e l now in
        by u (heard meaning p e l r) (laws.replies_safe p e u.shapes u.all s.slots l meaning r u.typed)
      where
        by : (u : IsUnderWay p s e l) (o : Option Turn) → IfSome o (IsSafe p e u.shapes s.slots l) → Safe (hears_by s e l o)
        by u None h = tt
        by u (Some t) h = settles_safe e l (answered e) t now u h
    hears_safe e r None now = tt
    hears_safe e r (Some Unbegun) now = tt
    hears_safe e r (Some (Over outcome)) now = tt

    pub step_safe : (event : Event) → Safe (step meaning p limits s event)
    unfolding step
    step_safe (Start e) = starts_safe e (slice_get s.edges e) refl
    step_safe (Skip e w) = skips_safe e w (slice_get s.edges e) refl
    step_safe (Stop e) = stops_safe e (slice_get s.edges e) refl
    step_safe (Step e) = steps_safe e (slice_get s.edges e) refl
    step_safe (Hear e r) = hears_safe e (answer_of r) (slice_get s.edges e) refl

  pub next_stands : (s mid : State) (event : Event) (told : Mark) → Stands p s → step meaning p limits s event ≡ Next mid told → Stands p mid
  next_stands s mid event told sound is = let safe : Safe (Next mid told) = subst Safe is (step_safe s sound event) in safe

  pub runs_stand : (s : State) (events : List Event) (marks : List Mark) (end : State) → Stands p s → Runs meaning p limits s events marks end → Stands p end
  runs_stand s [] [] end sound run = subst (λ (x : State). Stands p x) run sound
  runs_stand s (event ∷ events) (told ∷ marks) end sound run = runs_stand run.0 events marks end (next_stands s run.0 event told sound run.1) run.2
  runs_stand s [] (told ∷ marks) end sound run = absurd run
  runs_stand s (event ∷ events) [] end sound run = absurd run

  pub not_wrong : (s : State) (event : Event) → Stands p s → (flaw : Flaw) → step meaning p limits s event ≢ Wrong flaw
  not_wrong s event sound flaw is = let safe : Safe (Wrong flaw) = subst Safe is (step_safe s sound event) in safe
