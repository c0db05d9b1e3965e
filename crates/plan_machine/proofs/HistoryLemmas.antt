-- The history of each edge so far, by its status; each event preserves it.
use Rattle.std.proofs.Common.{◌≡◌, ℕ, Bool, true, false, eqb, List, [], ◌++◌, length, Option, Some, None, refl, sym, ap, ◌∙◌, subst, inl, inr}
use Rattle.std.specs.Prelude.{◌||◌, slice_get, slice_set}
use Rattle.std.proofs.lemmas.Bool.{cases_eq, eqb-true}
use Rattle.plan_image.specs.declared.image.Slot.{Slot}
use Rattle.plan_image.specs.declared.image.Parts.{Parts}
use Rattle.plan_verify.specs.Tables.{waits_of, owned_by, owns, lent_by, is_lent}
use Rattle.plan_verify.specs.Members.{is_member}
use Rattle.plan_verify.specs.Turn.{Slots, begun, Meaning}
use Rattle.plan_verify.specs.Alone.{Stage, Runs, Ended, Failed as Broke}
use Rattle.plan_machine.proofs.ListLemmas.{get_cases, get_other}
use Rattle.plan_machine.specs.declared.event.reply.Reply.{Reply}
use Rattle.plan_machine.specs.declared.event.Outcome.TheVariants.{Clean, Ran, Failed, Skipped, Stopped, NotWanted}
use Rattle.plan_machine.specs.State.{Status, Unbegun, Active, Over, State, has_succeeded, is_unsuccessful, is_over, passes, stands}
use Rattle.plan_machine.specs.Standing.{Stands}
use Rattle.plan_machine.specs.Total.{is_wanted}
use Rattle.plan_machine.proofs.OnlySlotsLemmas.{only, unset}
use Rattle.plan_machine.proofs.SoloLemmas.{sees, seen, lent, solo, solo_after}

-- from its Start on the edge ran alone, from the slots that its waits left, by the replies that it got
pub record RanAlone (meaning : Meaning) (p : Parts) (s : State) (slots : Slots) (told : List Reply) (e : ℕ) (stage : Stage) : Type 0 where
  pub turns : ℕ
  pub is : (rest : List Reply) → solo_after meaning p e turns (solo (Runs begun) (lent p e slots) (told ++ rest)) ≡ solo stage (seen p e slots) rest
  pub waited : (w : ℕ) → is_member w (waits_of p e) ≡ true → stands has_succeeded s w ≡ true

-- none of its own slots is set
abbrev pub Bare : Parts → ℕ → Slots → Type 0
Bare p e slots = only (owns p e) slots ≡ unset (length p.slots)

-- `gone` is the fact that holds if an edge was stopped
abbrev pub History : (gone : Type 0) → Meaning → Parts → State → Slots → List Reply → ℕ → Status → Type 0
History gone meaning p s slots told e Unbegun = Bare p e slots × (told ≡ [])
History gone meaning p s slots told e (Active l) = RanAlone meaning p s slots told e (Runs l)
History gone meaning p s slots told e (Over Clean) = RanAlone meaning p s slots told e (Ended false)
History gone meaning p s slots told e (Over Ran) = RanAlone meaning p s slots told e (Ended true)
History gone meaning p s slots told e (Over (Failed cause)) = RanAlone meaning p s slots told e (Broke cause)
History gone meaning p s slots told e (Over (Skipped w)) = Bare p e slots × (is_member w (waits_of p e) ≡ true) × (stands is_unsuccessful s w ≡ true)
History gone meaning p s slots told e (Over Stopped) = gone
History gone meaning p s slots told e (Over NotWanted) = Bare p e slots

pub record Recalls (gone : Type 0) (meaning : Meaning) (p : Parts) (wanted : List Bool) (s : State) (told : ℕ → List Reply) : Type 0 where
  pub sound : Stands p s
  pub wants : (e : ℕ) (status : Status) → slice_get s.edges e ≡ Some status → slice_get wanted e ≡ Some (is_wanted status)
  pub each : (e : ℕ) (status : Status) → slice_get s.edges e ≡ Some status → History gone meaning p s s.slots (told e) e status

-- only an edge's own slots differ
abbrev pub Apart : Parts → ℕ → Slots → Slots → Type 0
Apart p e old new = (f : ℕ → Bool) → ((k : ℕ) → owns p e k ≡ true → f k ≡ false) → only f new ≡ only f old

-- ---- small facts

over_well : (status : Status) → is_over status ≡ false → has_succeeded status ≡ false
over_well Unbegun h = refl
over_well (Active l) h = refl
over_well (Over outcome) h = absurd cc

over_ill : (status : Status) → is_over status ≡ false → is_unsuccessful status ≡ false
over_ill Unbegun h = refl
over_ill (Active l) h = refl
over_ill (Over outcome) h = absurd cc

over_wanted : (status : Status) → is_over status ≡ false → is_wanted status ≡ true
over_wanted Unbegun h = refl
over_wanted (Active l) h = refl
over_wanted (Over outcome) h = absurd cc

-- a flag that isn't true is false
untrue : (b : Bool) → (b ≡ true → ⊥) → b ≡ false
untrue true h = absurd (h refl)
untrue false h = refl

pub not_own : (p : Parts) (e f k : ℕ) → (e ≡ f → ⊥) → owns p e k ≡ true → owns p f k ≡ false
not_own p e f k ne own = by (slice_get p.slots k) own
  where
    by : (o : Option Slot) → owned_by e o ≡ true → owned_by f o ≡ false
    by None own = absurd cc
    by (Some slot) own = untrue (eqb slot.owner f) (λ other. ne (sym (eqb-true slot.owner e own) ∙ eqb-true slot.owner f other))

not_lent : (p : Parts) (e f k : ℕ) → (is_member e (waits_of p f) ≡ true → ⊥) → owns p e k ≡ true → is_lent p f k ≡ false
not_lent p e f k ne own = by (slice_get p.slots k) own
  where
    by : (o : Option Slot) → owned_by e o ≡ true → lent_by (waits_of p f) o ≡ false
    by None own = refl
    by (Some slot) own = untrue (is_member slot.owner (waits_of p f)) (λ wait. ne (ap (λ (n : ℕ). is_member n (waits_of p f)) (sym (eqb-true slot.owner e own)) ∙ wait))

both_false : (a b : Bool) → a ≡ false → b ≡ false → (a || b) ≡ false
both_false false b h k = k
both_false true b h k = absurd cc

-- ---- the status of one edge changes

module _ (gone : Type 0) (meaning : Meaning) (p : Parts) (s : State) (e : ℕ) (old new : Status) (slots : Slots) (now : slice_get s.edges e ≡ Some old) (run_state : is_over old ≡ false) (apart : Apart p e s.slots slots) where
  mid : State
  mid = record { edges = slice_set s.edges e new; slots = slots }

  still : (test : Status → Bool) (w : ℕ) → test old ≡ false → stands test s w ≡ true → stands test mid w ≡ true
  unfolding mid
  still test w off on = elim (cases_eq e w) [
    | inl same ↦ absurd (let clash : true ≡ false = sym on ∙ (ap (stands test s) (sym same) ∙ ap (passes test) now) ∙ off in cc)
    | inr ne ↦ ap (passes test) (get_other s.edges e w new ne) ∙ on
  ]

  went_on : (f : ℕ) (told : List Reply) (x : Slots) (stage : Stage) → RanAlone meaning p s x told f stage → RanAlone meaning p mid x told f stage
  went_on f told x stage h = record { turns = h.turns; is = h.is; waited = λ w wait. still has_succeeded w (over_well old run_state) (h.waited w wait) }

  kept_state : (f : ℕ) (told : List Reply) (x : Slots) (status : Status) → History gone meaning p s x told f status → History gone meaning p mid x told f status
  kept_state f told x Unbegun h = h
  kept_state f told x (Active l) h = went_on f told x (Runs l) h
  kept_state f told x (Over Clean) h = went_on f told x (Ended false) h
  kept_state f told x (Over Ran) h = went_on f told x (Ended true) h
  kept_state f told x (Over (Failed cause)) h = went_on f told x (Broke cause) h
  kept_state f told x (Over (Skipped w)) h = (h.0, h.1, still is_unsuccessful w (over_ill old run_state) h.2)
  kept_state f told x (Over Stopped) h = h
  kept_state f told x (Over NotWanted) h = h

  -- a running edge isn't among the waits of one that began
  pub unlent : (f : ℕ) → ((w : ℕ) → is_member w (waits_of p f) ≡ true → stands has_succeeded s w ≡ true) → (k : ℕ) → owns p e k ≡ true → is_lent p f k ≡ false
  unlent f waited k own = not_lent p e f k (λ wait. absurd (let clash : true ≡ false = sym (waited e wait) ∙ ap (passes has_succeeded) now ∙ over_well old run_state in cc)) own

  went_beside : (f : ℕ) (told : List Reply) (stage : Stage) → (e ≡ f → ⊥) → RanAlone meaning p s s.slots told f stage → RanAlone meaning p s slots told f stage
  went_beside f told stage ne h =
      let same_lent : lent p f slots ≡ lent p f s.slots = apart (is_lent p f) (unlent f h.waited) in
      let same_seen : seen p f slots ≡ seen p f s.slots = apart (sees p f) (λ k own. both_false _ _ (not_own p e f k ne own) (unlent f h.waited k own)) in
      record {
        turns = h.turns;
        is = λ rest. ap (λ (x : Slots). solo_after meaning p f h.turns (solo (Runs begun) x (told ++ rest))) same_lent ∙ h.is rest ∙ ap (λ (x : Slots). solo stage x rest) (sym same_seen);
        waited = h.waited;
      }

  bare_beside : (f : ℕ) → (e ≡ f → ⊥) → Bare p f s.slots → Bare p f slots
  bare_beside f ne h = apart (owns p f) (λ k own. not_own p e f k ne own) ∙ h

  kept_slots : (f : ℕ) (told : List Reply) (status : Status) → (e ≡ f → ⊥) → History gone meaning p s s.slots told f status → History gone meaning p s slots told f status
  kept_slots f told Unbegun ne h = (bare_beside f ne h.0, h.1)
  kept_slots f told (Active l) ne h = went_beside f told (Runs l) ne h
  kept_slots f told (Over Clean) ne h = went_beside f told (Ended false) ne h
  kept_slots f told (Over Ran) ne h = went_beside f told (Ended true) ne h
  kept_slots f told (Over (Failed cause)) ne h = went_beside f told (Broke cause) ne h
  kept_slots f told (Over (Skipped w)) ne h = (bare_beside f ne h.0, h.1, h.2)
  kept_slots f told (Over Stopped) ne h = h
  kept_slots f told (Over NotWanted) ne h = bare_beside f ne h

  pub changed : (wanted : List Bool) (told after_told : ℕ → List Reply) → Recalls gone meaning p wanted s told → is_wanted new ≡ true → ((f : ℕ) → (e ≡ f → ⊥) → after_told f ≡ told f)
      → History gone meaning p s slots (after_told e) e new → Stands p (record { edges = slice_set s.edges e new; slots = slots }) → Recalls gone meaning p wanted (record { edges = slice_set s.edges e new; slots = slots }) after_told
  unfolding mid
  changed wanted told after_told r want same owed sound =
      record {
        sound = sound;
        wants = λ f status is. elim (get_cases s.edges e f new status is) [
          | inl q ↦
              let here : slice_get wanted e ≡ Some (is_wanted status) = r.wants e old now ∙ ap (λ (b : Bool). Some b) (over_wanted old run_state ∙ sym want ∙ ap is_wanted q.1) in
              ap (slice_get wanted) (sym q.0) ∙ here
          | inr q ↦ r.wants f status q.1
        ];
        each = λ f status is. elim (get_cases s.edges e f new status is) [
          | inl q ↦
              let here : History gone meaning p mid slots (after_told e) e status = subst (λ (st : Status). History gone meaning p mid slots (after_told e) e st) q.1 (kept_state e (after_told e) slots new owed) in
              subst (λ (g : ℕ). History gone meaning p mid slots (after_told g) g status) q.0 here
          | inr q ↦
              let there : History gone meaning p mid slots (told f) f status = kept_state f (told f) slots status (kept_slots f (told f) status q.0 (r.each f status q.1)) in
              subst (λ (x : List Reply). History gone meaning p mid slots x f status) (sym (same f q.0)) there
        ];
      }
