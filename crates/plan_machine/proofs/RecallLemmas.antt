-- Each event preserves the histories of the edges of a run.
use Rattle.std.proofs.Common.{◌≡◌, ℕ, zero, suc, Bool, true, false, not, eqb, List, [], ◌∷◌, ◌++◌, length, map, Option, Some, None, refl, sym, ap, ◌∙◌, subst, inl, inr}
use Rattle.std.specs.Prelude.{◌⊎◌, ◌==◌, ◌&&◌, ◌||◌, if◌then◌else◌, nat_lt, nat_le, slice_get, slice_set, count_by, IfSome}
use Rattle.std.specs.List.{list_all}
use Rattle.std.proofs.lemmas.Bool.{ne_eqb, eq-eqb}
use Rattle.std.proofs.lemmas.List.{append_assoc}
use Rattle.plan_image.specs.declared.image.Parts.{Parts}
use Rattle.plan_verify.specs.declared.kinds.Shape.{Shape}
use Rattle.plan_verify.specs.Tables.{waits_of, owns, is_lent}
use Rattle.plan_verify.specs.Members.{is_member}
use Rattle.plan_verify.specs.Turn.{Slots, Local, begun, Did, Turn, Goes, Sets, Asks, Ends, Fails, Wrong as Errs, Meaning, turn, heard, replied_at}
use Rattle.plan_verify.specs.WellShaped.{IsWellShaped}
use Rattle.plan_verify.specs.Sound.{IsSafe, asking}
use Rattle.plan_verify.specs.Alone.{Runs, Ended, Alone, after}
use Rattle.plan_machine.proofs.ListLemmas.{some_is, when_either, and_both, or_false, all_member}
use Rattle.plan_image.specs.Code.{code}
use Rattle.plan_machine.specs.Limits.{Limits}
use Rattle.plan_machine.specs.declared.event.reply.Reply.{Reply}
use Rattle.plan_machine.specs.declared.event.Event.{Event}
use Rattle.plan_machine.specs.declared.event.Event.TheVariants.{Start, Skip, Stop, Step, Reply as Hear}
use Rattle.plan_machine.specs.declared.event.Mark.{Mark}
use Rattle.plan_machine.specs.declared.event.Outcome.TheVariants.{Failed, Skipped, Stopped, NotWanted}
use Rattle.plan_machine.specs.State.{Status, Unbegun, Active, Over, State, has_succeeded, is_unsuccessful, stands, has_failed}
use Rattle.plan_machine.specs.Step.{Stepped, Next, Wrong, NotEnabled, stepped, answered, ended, settles, hears_by, starts, skips, stops, steps, hears, answer_of, step}
use Rattle.plan_machine.specs.Places.{is_spent, is_free, at_take}
use Rattle.plan_machine.specs.Runs.{at_first, Opens, Runs as Passes, Reached}
use Rattle.plan_machine.specs.Standing.{Stands, IsUnderWay}
use Rattle.plan_machine.specs.Agreement.{replies_to}
use Rattle.plan_machine.proofs.StandingLemmas.{turn_safe, next_stands}
use Rattle.plan_machine.proofs.OpensLemmas.{opens_stand}
use Rattle.plan_machine.proofs.OnlySlotsLemmas.{only, only_set_on, only_set_off, only_or, only_unset}
use Rattle.plan_machine.proofs.SoloLemmas.{sees, seen, lent, owned_seen, turn_seen, Solo, solo, by_heard, by_reply, solo_next, solo_after}
use Rattle.plan_machine.proofs.HistoryLemmas.{RanAlone, Bare, History, Recalls, Apart, unlent, changed}
use Rattle.plan_machine.specs.TurnLaws.{TurnLaws}
use Rattle.plan_machine.specs.Total.{is_wanted}

-- the replies that each edge got, after one more event
abbrev pub more : (ℕ → List Reply) → Event → ℕ → List Reply
more told (Hear e r) f = if e == f then told f ++ r ∷ [] else told f
more told event f = told f

abbrev pub all_more : (ℕ → List Reply) → List Event → ℕ → List Reply
all_more told [] = told
all_more told (event ∷ events) = all_more (more told event) events

abbrev follow : Alone → List Reply → Solo
follow x left = record { now = x; left = left }

-- the state of an edge alone after its Start and some replies
abbrev Comes : Meaning → Parts → ℕ → Slots → List Reply → Alone → Type 0
Comes meaning p e slots told x = (n : ℕ) × ((rest : List Reply) → solo_after meaning p e n (solo (Runs begun) (lent p e slots) (told ++ rest)) ≡ follow x rest)

loud_of : (meaning : Meaning) (p : Parts) (e : ℕ) (l : Local) (r : Reply) (t : Turn) → heard meaning p e l (answer_of r) ≡ Some t → l.asked ≡ true
unfolding heard
loud_of meaning p e l r t is = by l.asked is
  where
    by : (b : Bool) → (if b then replied_at meaning l (slice_get (code p e) l.place) (answer_of r) else None) ≡ Some t → b ≡ true
    by true h = refl
    by false h = absurd cc

module _ (laws : TurnLaws) (meaning : Meaning) (p : Parts) (shaped : IsWellShaped p) (limits : Limits) (gone : Type 0) (spent : (s : State) → is_spent limits s ≡ true → gone) (wanted : List Bool) where
  module _ (s : State) (told after_told : ℕ → List Reply) (r : Recalls gone meaning p wanted s told) where
    abbrev Fine : Stepped → Type 0
    Fine (Next t mark) = Stands p t → Recalls gone meaning p wanted t after_told
    Fine (Wrong flaw) = Unit {0}
    Fine NotEnabled = Unit {0}

    alike : (e : ℕ) → Apart p e s.slots s.slots
    alike e f off = refl

    module _ (same : (f : ℕ) → after_told f ≡ told f) where
      starts_fine : (e : ℕ) (o : Option Status) → slice_get s.edges e ≡ o → Fine (starts p s e o)
      starts_fine e (Some Unbegun) now =
          let h = r.each e Unbegun now in
          let none : after_told e ≡ [] = same e ∙ h.1 in
          let both : seen p e s.slots ≡ lent p e s.slots = only_or (owns p e) (is_lent p e) s.slots (length p.slots) h.0 in
          when_either Fine (list_all (stands has_succeeded s) (waits_of p e)) _ _
          (λ all sound. changed gone meaning p s e Unbegun (Active begun) s.slots now refl (alike e) wanted told after_told r refl (λ f ne. same f)
          (record {
            turns = 0;
            is = λ rest. ap (λ (x : List Reply). solo (Runs begun) (lent p e s.slots) (x ++ rest)) none ∙ ap (λ (x : Slots). solo (Runs begun) x rest) (sym both);
            waited = λ w wait. all_member (stands has_succeeded s) (waits_of p e) w all wait;
          }) sound)
          (λ off. tt)
      starts_fine e None now = tt
      starts_fine e (Some (Active l)) now = tt
      starts_fine e (Some (Over outcome)) now = tt

      skips_fine : (e w : ℕ) (o : Option Status) → slice_get s.edges e ≡ o → Fine (skips p s e w o)
      skips_fine e w (Some Unbegun) now =
          when_either Fine (is_member w (waits_of p e) && stands is_unsuccessful s w) _ _
          (λ on sound.
          let b = and_both (is_member w (waits_of p e)) (stands is_unsuccessful s w) on in
          changed gone meaning p s e Unbegun (Over (Skipped w)) s.slots now refl (alike e) wanted told after_told r refl (λ f ne. same f) ((r.each e Unbegun now).0, b.0, b.1) sound)
          (λ off. tt)
      skips_fine e w None now = tt
      skips_fine e w (Some (Active l)) now = tt
      skips_fine e w (Some (Over outcome)) now = tt

      stops_fine : (e : ℕ) (o : Option Status) → slice_get s.edges e ≡ o → Fine (stops p limits s e o)
      stops_fine e (Some Unbegun) now =
          when_either Fine (is_spent limits s) _ _
          (λ on sound. changed gone meaning p s e Unbegun (Over Stopped) s.slots now refl (alike e) wanted told after_told r refl (λ f ne. same f) (spent s on) sound) (λ off. tt)
      stops_fine e (Some (Active l)) now =
          when_either Fine (is_spent limits s && at_take p e l) _ _
          (λ on sound. changed gone meaning p s e (Active l) (Over Stopped) s.slots now refl (alike e) wanted told after_told r refl (λ f ne. same f) (spent s (and_both (is_spent limits s) (at_take p e l) on).0) sound) (λ off. tt)
      stops_fine e None now = tt
      stops_fine e (Some (Over outcome)) now = tt

    module _ (e : ℕ) (l : Local) (now : slice_get s.edges e ≡ Some (Active l)) (others : (f : ℕ) → (e ≡ f → ⊥) → after_told f ≡ told f) where
      waits_well : (w : ℕ) → is_member w (waits_of p e) ≡ true → stands has_succeeded s w ≡ true
      waits_well = (r.sound.active e l now).waited

      over_history : (ran : Bool) → RanAlone meaning p s s.slots (after_told e) e (Ended ran) → History gone meaning p s s.slots (after_told e) e (Over (ended ran))
      over_history true h = h
      over_history false h = h

      over_wants : (ran : Bool) → is_wanted (Over (ended ran)) ≡ true
      over_wants true = refl
      over_wants false = refl

      settles_fine : (say : Did → Mark) (shapes : List Shape) (t : Turn) → IsSafe p e shapes s.slots l t → Comes meaning p e s.slots (after_told e) (after l (seen p e s.slots) t) → Fine (settles s e l say t)
      settles_fine say shapes (Goes did m) safe c = λ sound.
          changed gone meaning p s e (Active l) (Active m) s.slots now refl (alike e) wanted told after_told r refl others (record { turns = c.0; is = c.1; waited = waits_well }) sound
      settles_fine say shapes (Sets k v m) safe c = λ sound.
          let same_lent : lent p e (slice_set s.slots k (Some v)) ≡ lent p e s.slots =
          only_set_off (is_lent p e) s.slots k (Some v) (unlent gone meaning p s e (Active l) (Active l) s.slots now refl (alike e) e waits_well k safe.0) in
          let same_seen : seen p e (slice_set s.slots k (Some v)) ≡ slice_set (seen p e s.slots) k (Some v) = only_set_on (sees p e) s.slots k (Some v) (owned_seen p e k safe.0) in
          changed gone meaning p s e (Active l) (Active m) (slice_set s.slots k (Some v)) now refl (λ f off. only_set_off f s.slots k (Some v) (off k safe.0)) wanted told after_told r refl others
          (record {
            turns = c.0;
            is = λ rest. ap (λ (x : Slots). solo_after meaning p e c.0 (solo (Runs begun) x (after_told e ++ rest))) same_lent ∙ c.1 rest ∙ ap (λ (x : Slots). solo (Runs m) x rest) (sym same_seen);
            waited = waits_well;
          }) sound
      settles_fine say shapes (Asks q) safe c = λ sound.
          changed gone meaning p s e (Active l) (Active (asking l)) s.slots now refl (alike e) wanted told after_told r refl others (record { turns = c.0; is = c.1; waited = waits_well }) sound
      settles_fine say shapes Ends safe c = λ sound.
          changed gone meaning p s e (Active l) (Over (ended l.ran)) s.slots now refl (alike e) wanted told after_told r (over_wants l.ran) others
          (over_history l.ran (record { turns = c.0; is = c.1; waited = waits_well })) sound
      settles_fine say shapes (Fails cause) safe c = λ sound.
          changed gone meaning p s e (Active l) (Over (Failed cause)) s.slots now refl (alike e) wanted told after_told r refl others (record { turns = c.0; is = c.1; waited = waits_well }) sound
      settles_fine say shapes (Errs flaw) safe c = tt

    steps_fine : ((f : ℕ) → after_told f ≡ told f) → (e : ℕ) (o : Option Status) → slice_get s.edges e ≡ o → Fine (steps p limits s e o)
    steps_fine same e (Some (Active l)) now =
        let u = r.sound.active e l now in
        let h = r.each e (Active l) now in
        when_either Fine (l.asked || (at_take p e l && not (is_free p limits s e))) _ _ (λ off. tt)
        (λ on.
        let quiet : l.asked ≡ false = (or_false l.asked (at_take p e l && not (is_free p limits s e)) on).0 in
        settles_fine e l now (λ f ne. same f) (stepped e) u.shapes (turn p e s.slots l) (turn_safe laws meaning p shaped limits s r.sound e l u) (
          suc h.turns,
          λ rest.
              ap (λ (x : List Reply). solo_after meaning p e (suc h.turns) (solo (Runs begun) (lent p e s.slots) (x ++ rest))) (same e)
              ∙ ap (solo_next meaning p e) (h.is rest)
              ∙ ap (λ (b : Bool). if b then by_reply meaning p e l (seen p e s.slots) rest else follow (after l (seen p e s.slots) (turn p e (seen p e s.slots) l)) rest) quiet
              ∙ ap (λ (t : Turn). follow (after l (seen p e s.slots) t) rest) (sym (turn_seen p e u.shapes u.all s.slots l u.typed)),
        ))
    steps_fine same e None now = tt
    steps_fine same e (Some Unbegun) now = tt
    steps_fine same e (Some (Over outcome)) now = tt

    hears_fine : (e : ℕ) (reply : Reply) (o : Option Status) → ((f : ℕ) → after_told f ≡ (if e == f then told f ++ reply ∷ [] else told f)) → slice_get s.edges e ≡ o → Fine (hears meaning p s e (answer_of reply) o)
    hears_fine e reply (Some (Active l)) grown now = by (heard meaning p e l (answer_of reply)) refl (laws.replies_safe p e u.shapes u.all s.slots l meaning (answer_of reply) u.typed)
      where
        u : IsUnderWay p s e l
        u = r.sound.active e l now

        h : RanAlone meaning p s s.slots (told e) e (Runs l)
        h = r.each e (Active l) now

        others : (f : ℕ) → (e ≡ f → ⊥) → after_told f ≡ told f
        others f ne = grown f ∙ ap (λ (b : Bool). if b then told f ++ reply ∷ [] else told f) (ne_eqb e f ne)

        own : (rest : List Reply) → after_told e ++ rest ≡ told e ++ (reply ∷ rest)
        own rest =
            ap (λ (x : List Reply). x ++ rest) (grown e ∙ ap (λ (b : Bool). if b then told e ++ reply ∷ [] else told e) (eq-eqb e e refl))
            ∙ append_assoc (told e) (reply ∷ []) rest

        by : (o : Option Turn) → heard meaning p e l (answer_of reply) ≡ o → IfSome o (IsSafe p e (r.sound.active e l now).shapes s.slots l) → Fine (hears_by s e l o)
        by None is safe = tt
        by (Some t) is safe =
            settles_fine e l now others (answered e) (r.sound.active e l now).shapes t safe (
              suc h.turns,
              λ rest.
                  ap (λ (x : List Reply). solo_after meaning p e (suc h.turns) (solo (Runs begun) (lent p e s.slots) x)) (own rest)
                  ∙ ap (solo_next meaning p e) (h.is (reply ∷ rest))
                  ∙ ap (λ (b : Bool). if b then by_heard l (seen p e s.slots) reply rest (heard meaning p e l (answer_of reply)) else follow (after l (seen p e s.slots) (turn p e (seen p e s.slots) l)) (reply ∷ rest)) (loud_of meaning p e l reply t is)
                  ∙ ap (λ (o : Option Turn). by_heard l (seen p e s.slots) reply rest o) is,
            )
    hears_fine e reply None grown now = tt
    hears_fine e reply (Some Unbegun) grown now = tt
    hears_fine e reply (Some (Over outcome)) grown now = tt

  next_recalls : (s mid : State) (told : ℕ → List Reply) (event : Event) (say : Mark) → Recalls gone meaning p wanted s told → step meaning p limits s event ≡ Next mid say → Recalls gone meaning p wanted mid (more told event)
  unfolding step
  next_recalls s mid told event say r is =
      let fine : Fine s told (more told event) r (Next mid say) = subst (λ (x : Stepped). Fine s told (more told event) r x) is (by event) in
      fine (next_stands laws meaning p shaped limits s mid event say r.sound is)
    where
      by : (event : Event) → Fine s told (more told event) r (step meaning p limits s event)
      by (Start e) = starts_fine s told (more told (Start e)) r (λ f. refl) e (slice_get s.edges e) refl
      by (Skip e w) = skips_fine s told (more told (Skip e w)) r (λ f. refl) e w (slice_get s.edges e) refl
      by (Stop e) = stops_fine s told (more told (Stop e)) r (λ f. refl) e (slice_get s.edges e) refl
      by (Step e) = steps_fine s told (more told (Step e)) r (λ f. refl) e (slice_get s.edges e) refl
      by (Hear e reply) = hears_fine s told (more told (Hear e reply)) r e reply (slice_get s.edges e) (λ f. refl) refl

  runs_recall : (s : State) (told : ℕ → List Reply) (events : List Event) (marks : List Mark) (end : State) → Recalls gone meaning p wanted s told → Passes meaning p limits s events marks end → Recalls gone meaning p wanted end (all_more told events)
  runs_recall s told [] [] end r run = subst (λ (x : State). Recalls gone meaning p wanted x told) run r
  runs_recall s told (event ∷ events) (say ∷ marks) end r run = runs_recall run.0 (more told event) events marks end (next_recalls s run.0 told event say r run.1) run.2
  runs_recall s told [] (say ∷ marks) end r run = absurd run
  runs_recall s told (event ∷ events) [] end r run = absurd run

-- ---- all replies at once

append_none : (xs : List Reply) → xs ++ [] ≡ xs
append_none [] = refl
append_none (x ∷ xs) = ap (λ (l : List Reply). x ∷ l) (append_none xs)

all_told : (told : ℕ → List Reply) (events : List Event) (f : ℕ) → all_more told events f ≡ told f ++ replies_to f events
all_told told [] f = sym (append_none (told f))
all_told told (Hear e r ∷ events) f = all_told (more told (Hear e r)) events f ∙ by (eqb e f)
  where
    by : (b : Bool) → (if b then told f ++ r ∷ [] else told f) ++ replies_to f events ≡ told f ++ (if b then r ∷ replies_to f events else replies_to f events)
    by true = append_assoc (told f) (r ∷ []) (replies_to f events)
    by false = refl
all_told told (Start e ∷ events) f = all_told told events f
all_told told (Skip e w ∷ events) f = all_told told events f
all_told told (Stop e ∷ events) f = all_told told events f
all_told told (Step e ∷ events) f = all_told told events f

-- ---- at first

first_stands : (wanted : List Bool) (e : ℕ) (status : Status) → slice_get (map at_first wanted) e ≡ Some status → (slice_get wanted e ≡ Some (is_wanted status)) × ((status ≡ Unbegun) ⊎ (status ≡ Over NotWanted))
first_stands [] e status h = absurd cc
first_stands (true ∷ wanted) zero status h = let is : Unbegun ≡ status = some_is Unbegun status h in (ap (λ (st : Status). Some (is_wanted st)) is, inl (sym is))
first_stands (false ∷ wanted) zero status h = let is : Over NotWanted ≡ status = some_is (Over NotWanted) status h in (ap (λ (st : Status). Some (is_wanted st)) is, inr (sym is))
first_stands (b ∷ wanted) (suc e) status h = first_stands wanted e status h

opens_recall : (gone : Type 0) (meaning : Meaning) (p : Parts) (targets : List ℕ) (s : State) → (opens : Opens p targets s) → Recalls gone meaning p opens.wanted s (λ e. [])
opens_recall gone meaning p targets s opens =
    record {
      sound = opens_stand p targets s opens;
      wants = λ e status is. (first_stands opens.wanted e status (read e ∙ is)).0;
      each = λ e status is. elim (first_stands opens.wanted e status (read e ∙ is)).1 [
        | inl q ↦ subst (λ (st : Status). History gone meaning p s s.slots [] e st) (sym q) (bare e, refl)
        | inr q ↦ subst (λ (st : Status). History gone meaning p s s.slots [] e st) (sym q) (bare e)
      ];
    }
  where
    read : (e : ℕ) → slice_get (map at_first opens.wanted) e ≡ slice_get s.edges e
    read e = ap (λ (l : List Status). slice_get l e) (sym opens.edges)

    bare : (e : ℕ) → Bare p e s.slots
    bare e = ap (only (owns p e)) opens.slots ∙ only_unset (owns p e) (length p.slots)

-- the histories in a reached state, by the replies of all events
pub reached_recalls : TurnLaws → (meaning : Meaning) (p : Parts) → IsWellShaped p → (limits : Limits) (gone : Type 0) → ((s : State) → is_spent limits s ≡ true → gone) → (targets : List ℕ) (events : List Event) (marks : List Mark) (s : State)
    → (reached : Reached meaning p limits targets events marks s) → (told : ℕ → List Reply) × ((e : ℕ) → told e ≡ replies_to e events) × Recalls gone meaning p reached.opens.wanted s told
reached_recalls laws meaning p shaped limits gone spent targets events marks s reached = (
  all_more (λ e. []) events,
  (λ e. all_told (λ e. []) events e),
  runs_recall laws meaning p shaped limits gone spent reached.opens.wanted reached.start (λ e. []) events marks s (opens_recall gone meaning p targets reached.start reached.opens) reached.run,
)

-- without a failure limit no edge is stopped
pub none_spent : (limits : Limits) → limits.keep ≡ 0 → (s : State) → is_spent limits s ≡ true → ⊥
none_spent limits all_borne s spent =
    let unspent : is_spent limits s ≡ false = ap (λ (k : ℕ). nat_lt 0 k && nat_le k (count_by has_failed s.edges)) all_borne in
    absurd (let clash : true ≡ false = sym spent ∙ unspent in cc)
