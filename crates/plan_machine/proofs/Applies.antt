-- Lemmas for the code of events.
use Rattle.std.proofs.Common.{◌≡◌, ℕ, zero, suc, ◌<◌, Bool, true, false, not, List, [], ◌∷◌, length, Option, Some, None, refl, sym, ap, ◌∙◌, subst}
use Rattle.std.specs.Prelude.{◌&&◌, ◌||◌, slice_get, slice_set, slice_index_or, Result, Ok, Err, IfOk}
use Rattle.std.specs.List.{list_all}
use Rattle.std.proofs.lemmas.Option.{slice_get_within, slice_get-get_or}
use Rattle.plan_image.specs.declared.body.Instr.{Instr}
use Rattle.plan_image.specs.declared.image.Parts.{Parts}
use Rattle.plan_image.specs.Code.{code}
use Rattle.plan_verify.specs.Members.{is_member}
use Rattle.plan_verify.specs.Tables.{waits_of}
use Rattle.plan_verify.specs.Turn.{Slots, Local, begun, Turn, act, act_at, turn}
use Rattle.plan_machine.proofs.ListLemmas.{get_same, when_true, when_false, and_both}
use Rattle.plan_machine.specs.declared.event.Event.TheVariants.{Start, Skip, Stop, Step}
use Rattle.plan_machine.specs.declared.event.Mark.{Mark}
use Rattle.plan_machine.specs.declared.event.Mark.TheVariants as mark
use Rattle.plan_machine.specs.declared.event.Outcome.TheVariants.{Failed, Skipped, Stopped}
use Rattle.plan_machine.specs.State.{Status, Unbegun, Active, Over, has_succeeded, is_unsuccessful, passes, stands, with_status}
use Rattle.plan_machine.specs.Places.{is_spent, is_free, at_take}
use Rattle.plan_machine.specs.declared.run.refused.Refused.TheVariants as refused
use Rattle.plan_machine.specs.declared.edge.turns.Turned.{Turned}
use Rattle.plan_machine.specs.declared.edge.turns.Turned.TheVariants as turned
use Rattle.plan_machine.specs.Step.{Stepped, Next, NotEnabled, ended, stepped, starts, skips, stops, steps, settles, step}
use Rattle.plan_machine.specs.RunState.{RunState}
use Rattle.plan_machine.specs.Working.{Works}
use Rattle.plan_machine.specs.Turned.{IsTurned}
use Rattle.plan_machine.specs.Applying.{Applied, is_unbegun, may_stop_by, may_step_by, HasTurned, Settles}

pub passes_within : (test : Status → Bool) (l : List Status) (e : ℕ) → passes test (slice_get l e) ≡ true → e < length l
passes_within test l e h = by (slice_get l e) refl h
  where
    by : (o : Option Status) → slice_get l e ≡ o → passes test o ≡ true → e < length l
    by None at h = absurd cc
    by (Some st) at h = slice_get_within l e st at

module _ (p : Parts) (g : RunState) (e : ℕ) where
  abbrev Left : Status → RunState
  Left status = record { limits = g.limits; now = with_status g.now e status }

  abbrev can_start : Bool
  can_start = passes is_unbegun (slice_get g.now.edges e) && list_all (stands has_succeeded g.now) (waits_of p e)

  starts_by : (o : Option Status) → (passes is_unbegun o && list_all (stands has_succeeded g.now) (waits_of p e)) ≡ true → starts p g.now e o ≡ Next (with_status g.now e (Active begun)) (mark.Started e)
  starts_by (Some Unbegun) h = when_true (λ (x : Stepped). x ≡ Next (with_status g.now e (Active begun)) (mark.Started e)) (list_all (stands has_succeeded g.now) (waits_of p e)) _ _ h refl
  starts_by None h = absurd cc
  starts_by (Some (Active l)) h = absurd cc
  starts_by (Some (Over outcome)) h = absurd cc

  starts_not_by : (o : Option Status) → (passes is_unbegun o && list_all (stands has_succeeded g.now) (waits_of p e)) ≡ false → starts p g.now e o ≡ NotEnabled
  starts_not_by (Some Unbegun) h = when_false (λ (x : Stepped). x ≡ NotEnabled) (list_all (stands has_succeeded g.now) (waits_of p e)) _ _ h refl
  starts_not_by None h = refl
  starts_not_by (Some (Active l)) h = refl
  starts_not_by (Some (Over outcome)) h = refl

  pub start_is : (b : Bool) (new : RunState) → b ≡ can_start → b ≡ true → new ≡ Left (Active begun) → Applied p g (Start e) (Ok (mark.Started e)) new
  unfolding step
  start_is b new is on left = (starts_by (slice_get g.now.edges e) (sym is ∙ on) ∙ ap (λ (x : RunState). Next x.now (mark.Started e)) (sym left), ap (λ (x : RunState). x.limits) left)

  pub start_not : (b : Bool) → b ≡ can_start → b ≡ false → Applied p g (Start e) (Err refused.NotEnabled) g
  unfolding step
  start_not b is off = (starts_not_by (slice_get g.now.edges e) (sym is ∙ off), refl)

  abbrev can_skip : ℕ → Bool
  can_skip w = passes is_unbegun (slice_get g.now.edges e) && (is_member w (waits_of p e) && stands is_unsuccessful g.now w)

  skips_by : (w : ℕ) (o : Option Status) → (passes is_unbegun o && (is_member w (waits_of p e) && stands is_unsuccessful g.now w)) ≡ true → skips p g.now e w o ≡ Next (with_status g.now e (Over (Skipped w))) (mark.Skipped e w)
  skips_by w (Some Unbegun) h = when_true (λ (x : Stepped). x ≡ Next (with_status g.now e (Over (Skipped w))) (mark.Skipped e w)) (is_member w (waits_of p e) && stands is_unsuccessful g.now w) _ _ h refl
  skips_by w None h = absurd cc
  skips_by w (Some (Active l)) h = absurd cc
  skips_by w (Some (Over outcome)) h = absurd cc

  skips_not_by : (w : ℕ) (o : Option Status) → (passes is_unbegun o && (is_member w (waits_of p e) && stands is_unsuccessful g.now w)) ≡ false → skips p g.now e w o ≡ NotEnabled
  skips_not_by w (Some Unbegun) h = when_false (λ (x : Stepped). x ≡ NotEnabled) (is_member w (waits_of p e) && stands is_unsuccessful g.now w) _ _ h refl
  skips_not_by w None h = refl
  skips_not_by w (Some (Active l)) h = refl
  skips_not_by w (Some (Over outcome)) h = refl

  pub skip_is : (w : ℕ) (b : Bool) (new : RunState) → b ≡ can_skip w → b ≡ true → new ≡ Left (Over (Skipped w)) → Applied p g (Skip e w) (Ok (mark.Skipped e w)) new
  unfolding step
  skip_is w b new is on left = (skips_by w (slice_get g.now.edges e) (sym is ∙ on) ∙ ap (λ (x : RunState). Next x.now (mark.Skipped e w)) (sym left), ap (λ (x : RunState). x.limits) left)

  pub skip_not : (w : ℕ) (b : Bool) → b ≡ can_skip w → b ≡ false → Applied p g (Skip e w) (Err refused.NotEnabled) g
  unfolding step
  skip_not w b is off = (skips_not_by w (slice_get g.now.edges e) (sym is ∙ off), refl)

  abbrev can_stop : Bool
  can_stop = is_spent g.limits g.now && may_stop_by p e (slice_get g.now.edges e)

  stops_by : (o : Option Status) → (is_spent g.limits g.now && may_stop_by p e o) ≡ true → stops p g.limits g.now e o ≡ Next (with_status g.now e (Over Stopped)) (mark.Stopped e)
  stops_by (Some Unbegun) h = when_true (λ (x : Stepped). x ≡ Next (with_status g.now e (Over Stopped)) (mark.Stopped e)) (is_spent g.limits g.now) _ _ (and_both (is_spent g.limits g.now) true h).0 refl
  stops_by (Some (Active l)) h = when_true (λ (x : Stepped). x ≡ Next (with_status g.now e (Over Stopped)) (mark.Stopped e)) (is_spent g.limits g.now && at_take p e l) _ _ h refl
  stops_by None h = absurd (let clash : false ≡ true = (and_both (is_spent g.limits g.now) false h).1 in cc)
  stops_by (Some (Over outcome)) h = absurd (let clash : false ≡ true = (and_both (is_spent g.limits g.now) false h).1 in cc)

  and_true : (a : Bool) → (a && true) ≡ false → a ≡ false
  and_true true h = absurd cc
  and_true false h = refl

  stops_not_by : (o : Option Status) → (is_spent g.limits g.now && may_stop_by p e o) ≡ false → stops p g.limits g.now e o ≡ NotEnabled
  stops_not_by (Some Unbegun) h = when_false (λ (x : Stepped). x ≡ NotEnabled) (is_spent g.limits g.now) _ _ (and_true (is_spent g.limits g.now) h) refl
  stops_not_by (Some (Active l)) h = when_false (λ (x : Stepped). x ≡ NotEnabled) (is_spent g.limits g.now && at_take p e l) _ _ h refl
  stops_not_by None h = refl
  stops_not_by (Some (Over outcome)) h = refl

  pub stop_is : (b : Bool) (new : RunState) → b ≡ can_stop → b ≡ true → new ≡ Left (Over Stopped) → Applied p g (Stop e) (Ok (mark.Stopped e)) new
  unfolding step
  stop_is b new is on left = (stops_by (slice_get g.now.edges e) (sym is ∙ on) ∙ ap (λ (x : RunState). Next x.now (mark.Stopped e)) (sym left), ap (λ (x : RunState). x.limits) left)

  pub stop_not : (b : Bool) → b ≡ can_stop → b ≡ false → Applied p g (Stop e) (Err refused.NotEnabled) g
  unfolding step
  stop_not b is off = (stops_not_by (slice_get g.now.edges e) (sym is ∙ off), refl)

  pub start_within : (b : Bool) → b ≡ can_start → b ≡ true → e < length g.now.edges
  start_within b is on = passes_within is_unbegun g.now.edges e (and_both (passes is_unbegun (slice_get g.now.edges e)) (list_all (stands has_succeeded g.now) (waits_of p e)) (sym is ∙ on)).0

  pub skip_within : (w : ℕ) (b : Bool) → b ≡ can_skip w → b ≡ true → e < length g.now.edges
  skip_within w b is on = passes_within is_unbegun g.now.edges e (and_both (passes is_unbegun (slice_get g.now.edges e)) (is_member w (waits_of p e) && stands is_unsuccessful g.now w) (sym is ∙ on)).0

  -- an edge that may be stopped is in the image
  pub stop_within : (b : Bool) → b ≡ can_stop → b ≡ true → e < length g.now.edges
  stop_within b is on = by (slice_get g.now.edges e) refl (and_both (is_spent g.limits g.now) (may_stop_by p e (slice_get g.now.edges e)) (sym is ∙ on)).1
    where
      by : (o : Option Status) → slice_get g.now.edges e ≡ o → may_stop_by p e o ≡ true → e < length g.now.edges
      by None at h = absurd cc
      by (Some st) at h = slice_get_within g.now.edges e st at

-- ---- a step

pub turn_is : (p : Parts) (e : ℕ) (slots : Slots) (l : Local) (i : Instr) → Some i ≡ slice_get (code p e) l.place → turn p e slots l ≡ act p e slots l i
unfolding turn
turn_is p e slots l i at = ap (λ (o : Option Instr). act_at p e slots l o) (sym at)

-- an edge whose turn isn't wrong is at a place of its code
pub turn_none : (p : Parts) (e : ℕ) (slots : Slots) (l : Local) → None ≡ slice_get (code p e) l.place → Works (turn p e slots l) → ⊥
unfolding turn
turn_none p e slots l at works = subst (λ (o : Option Instr). Works (act_at p e slots l o)) (sym at) works

pub set_again : {A : Type 0} (xs : List A) (i : ℕ) (x y : A) → slice_set (slice_set xs i x) i y ≡ slice_set xs i y
set_again [] i x y = refl
set_again {A} (z ∷ xs) zero x y = refl
set_again {A} (z ∷ xs) (suc i) x y = ap (λ (l : List A). z ∷ l) (set_again xs i x y)

module _ (p : Parts) (e : ℕ) (old mid new : RunState) (r : Turned) (told : Mark) (h : HasTurned p old e r mid) where
  -- the state in between
  here : slice_get mid.now.edges e ≡ Some (Active h.after)
  here = ap (λ (g : RunState). slice_get g.now.edges e) h.left ∙ get_same old.now.edges e (Active h.after) (slice_get_within old.now.edges e (Active h.before) h.now)

  over : (status : Status) → new ≡ record { limits = mid.limits; now = with_status mid.now e status } → h.slots ≡ old.now.slots → new ≡ record { limits = old.limits; now = with_status old.now e status }
  over status is same =
      is ∙ ap (λ (g : RunState). record { limits = g.limits; now = with_status g.now e status }) h.left
      ∙ ap (λ (l : List Status). record { limits = old.limits; now = record { edges = l; slots = h.slots } }) (set_again old.now.edges e (Active h.after) status)
      ∙ ap (λ (k : Slots). record { limits = old.limits; now = record { edges = slice_set old.now.edges e status; slots = k } }) same

  Fits-in : Stepped → Type 0
  Fits-in x = (x ≡ Next new.now told) × (new.limits ≡ old.limits)

  on_by : (m : Mark) (t : Turn) (k : Slots) → told ≡ m → new ≡ mid → h.slots ≡ k → settles old.now e h.before (stepped e) t ≡ Next (record { edges = slice_set old.now.edges e (Active h.after); slots = k }) m → Fits-in (settles old.now e h.before (stepped e) t)
  unfolding Fits-in
  on_by m t k mark_is same slots is =
      let left = same ∙ h.left ∙ ap (λ (x : Slots). record { limits = old.limits; now = record { edges = slice_set old.now.edges e (Active h.after); slots = x } }) slots in
      (is ∙ ap (λ (x : Mark). Next (record { edges = slice_set old.now.edges e (Active h.after); slots = k }) x) (sym mark_is) ∙ ap (λ (g : RunState). Next g.now told) (sym left), ap (λ (g : RunState). g.limits) left)

  settled : IsTurned r h.before h.after old.now.slots h.slots (turn p e old.now.slots h.before) → Settles mid e r told new → Fits-in (settles old.now e h.before (stepped e) (turn p e old.now.slots h.before))
  unfolding Fits-in
  settled made told_is = by r (turn p e old.now.slots h.before) made told_is
    where
      by : (q : Turned) (t : Turn) → IsTurned q h.before h.after old.now.slots h.slots t → Settles mid e q told new → Fits-in (settles old.now e h.before (stepped e) t)
      by turned.Moved t m s = on_by (mark.Moved e) t old.now.slots s.0 s.1 m.1 (ap (settles old.now e h.before (stepped e)) m.0)
      by turned.Stored t m s = on_by (mark.Moved e) t (slice_set old.now.slots m.0 (Some m.1)) s.0 s.1 m.3 (ap (settles old.now e h.before (stepped e)) m.2)
      by turned.Took t m s = on_by (mark.Took e) t old.now.slots s.0 s.1 m.1 (ap (settles old.now e h.before (stepped e)) m.0)
      by turned.Released t m s = on_by (mark.Released e) t old.now.slots s.0 s.1 m.1 (ap (settles old.now e h.before (stepped e)) m.0)
      by turned.Asked t m s = on_by (mark.Asked e) t old.now.slots s.0 s.1 m.1
          (ap (settles old.now e h.before (stepped e)) m.0.1 ∙ ap (λ (l : Local). Next (with_status old.now e (Active l)) (mark.Asked e)) (sym m.0.2))
      by turned.Ended t m s =
          let both = s h.after here in
          let left = over (Over (ended h.after.ran)) both.1 m.1 in (
            ap (settles old.now e h.before (stepped e)) m.0.0 ∙ ap (λ (l : Local). Next (with_status old.now e (Over (ended l.ran))) (mark.Ended e l.ran)) (sym m.0.1)
                ∙ ap (λ (x : Mark). Next (with_status old.now e (Over (ended h.after.ran))) x) (sym both.0) ∙ ap (λ (g : RunState). Next g.now told) (sym left),
            ap (λ (g : RunState). g.limits) left,
          )
      by (turned.Failed cause) t m s =
          let left = over (Over (Failed cause)) s.1 m.1 in
          (ap (settles old.now e h.before (stepped e)) m.0 ∙ ap (λ (x : Mark). Next (with_status old.now e (Over (Failed cause))) x) (sym s.0) ∙ ap (λ (g : RunState). Next g.now told) (sym left), ap (λ (g : RunState). g.limits) left)

  not_on : (a : Bool) → not a ≡ true → a ≡ false
  not_on true h = absurd cc
  not_on false h = refl

  pub step_is : (b : Bool) → b ≡ may_step_by p old.limits old.now e (slice_get old.now.edges e) → b ≡ true → Settles mid e r told new → Applied p old (Step e) (Ok told) new
  unfolding step Fits-in
  step_is b is on told_is =
      let may : not (h.before.asked || (at_take p e h.before && not (is_free p old.limits old.now e))) ≡ true = ap (may_step_by p old.limits old.now e) (sym h.now) ∙ sym is ∙ on in
      subst (λ (o : Option Status). Fits-in (steps p old.limits old.now e o)) (sym h.now)
      (when_false Fits-in (h.before.asked || (at_take p e h.before && not (is_free p old.limits old.now e))) _ _ (not_on _ may) (settled h.made told_is))

  pub settle_within : e < length mid.now.edges
  settle_within = slice_get_within mid.now.edges e (Active h.after) here

pub step_not : (p : Parts) (g : RunState) (e : ℕ) (b : Bool) → b ≡ may_step_by p g.limits g.now e (slice_get g.now.edges e) → b ≡ false → Applied p g (Step e) (Err refused.NotEnabled) g
unfolding step
step_not p g e b is off = (by (slice_get g.now.edges e) (sym is ∙ off), refl)
  where
    off_not : (a : Bool) → not a ≡ false → a ≡ true
    off_not true h = refl
    off_not false h = absurd cc

    by : (o : Option Status) → may_step_by p g.limits g.now e o ≡ false → steps p g.limits g.now e o ≡ NotEnabled
    by None h = refl
    by (Some Unbegun) h = refl
    by (Some (Over outcome)) h = refl
    by (Some (Active l)) h = when_true (λ (x : Stepped). x ≡ NotEnabled) (l.asked || (at_take p e l && not (is_free p g.limits g.now e))) _ _ (off_not _ h) refl

pub step_active : (p : Parts) (g : RunState) (e : ℕ) (b : Bool) → b ≡ may_step_by p g.limits g.now e (slice_get g.now.edges e) → b ≡ true → (l : Local) × (slice_get g.now.edges e ≡ Some (Active l))
step_active p g e b is on = by (slice_get g.now.edges e) refl (sym is ∙ on)
  where
    by : (o : Option Status) → slice_get g.now.edges e ≡ o → may_step_by p g.limits g.now e o ≡ true → (l : Local) × (slice_get g.now.edges e ≡ Some (Active l))
    by None at h = absurd cc
    by (Some Unbegun) at h = absurd cc
    by (Some (Over outcome)) at h = absurd cc
    by (Some (Active l)) at h = (l, at)

pub read_at : {A : Type 0} (xs : List A) (e : ℕ) (st x : A) → e < length xs → st ≡ slice_index_or xs e st → st ≡ x → slice_get xs e ≡ Some x
read_at xs e st x within read is = slice_get-get_or xs e st within ∙ ap Some (sym read ∙ is)

pub if_ok_more : {A E : Type 0} (P Q : A → Type 0) (r : Result A E) → ((x : A) → P x → Q x) → IfOk r P → IfOk r Q
if_ok_more P Q (Ok x) more h = more x h
if_ok_more P Q (Err e) more h = tt
