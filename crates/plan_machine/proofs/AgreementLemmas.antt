-- Two ended runs in which each edge got the same replies end alike.
use Rattle.std.proofs.Common.{◌≡◌, ℕ, zero, suc, ◌<◌, ◌≤◌, Bool, true, false, List, [], ◌∷◌, ◌++◌, length, Option, Some, None, refl, sym, ap, ◌∙◌, subst, arith, inl, inr}
use Rattle.std.specs.Prelude.{◌⊎◌, slice_get}
use Rattle.std.specs.List.{list_all}
use Rattle.std.proofs.lemmas.Bool.{eq-eqb}
use Rattle.std.proofs.lemmas.Option.{slice_get_cases, slice_get_past}
use Rattle.plan_image.specs.declared.image.Slot.{Slot}
use Rattle.plan_image.specs.declared.image.Parts.{Parts}
use Rattle.plan_verify.specs.Tables.{waits_of, owned_by, owns, lent_by, is_lent}
use Rattle.plan_verify.specs.Members.{is_member}
use Rattle.plan_verify.specs.Turn.{Slots, begun, Meaning}
use Rattle.plan_verify.specs.WellShaped.{IsWellShaped}
use Rattle.plan_verify.specs.Alone.{Stage, Runs, Ended, Failed as Broke, WentWrong}
use Rattle.plan_machine.proofs.ListLemmas.{and_both}
use Rattle.plan_machine.specs.declared.event.reply.Reply.{Reply}
use Rattle.plan_machine.specs.declared.event.Outcome.{Outcome}
use Rattle.plan_machine.specs.declared.event.Outcome.TheVariants.{Clean, Ran, Failed, Skipped, Stopped, NotWanted}
use Rattle.plan_machine.specs.State.{Status, Unbegun, Active, Over, State, has_succeeded, is_unsuccessful, is_over, passes, stands, has_ended, outcome_at}
use Rattle.plan_machine.specs.Step.{ended}
use Rattle.plan_machine.specs.Wanted.{AreWanted}
use Rattle.plan_machine.specs.Agreement.{AreAlike, BothAlike, EndAlike, InterleavingsAgree}
use Rattle.plan_machine.specs.Total.{is_wanted}
use Rattle.plan_machine.specs.TurnLaws.{TurnLaws}
use Rattle.plan_machine.proofs.RankLemmas.{rank_of, wait_below}
use Rattle.plan_machine.proofs.OnlySlotsLemmas.{only, only_on, only_same, only_only, same_slots}
use Rattle.plan_machine.proofs.SoloLemmas.{sees, seen, lent, owned_seen, Solo, solo, solo_after, Closed, one_end}
use Rattle.plan_machine.proofs.HistoryLemmas.{RanAlone, History, Recalls}
use Rattle.plan_machine.proofs.RecallLemmas.{none_spent, reached_recalls}

-- ---- equal outcomes

alike_same : (x : Outcome) → AreAlike x x
alike_same (Skipped w) = tt
alike_same Clean = refl
alike_same Ran = refl
alike_same (Failed cause) = refl
alike_same Stopped = refl
alike_same NotWanted = refl

alike_is : (x y : Outcome) → AreAlike x y → (x ≡ y) ⊎ ((v : ℕ) × (w : ℕ) × (x ≡ Skipped v) × (y ≡ Skipped w))
alike_is (Skipped v) (Skipped w) h = inr (v, w, refl, refl)
alike_is x y h = inl h

alike_test : (test : Status → Bool) → ((v w : ℕ) → test (Over (Skipped v)) ≡ test (Over (Skipped w))) → (x y : Outcome) → AreAlike x y → test (Over x) ≡ test (Over y)
alike_test test skips x y h = elim (alike_is x y h) [
  | inl same ↦ ap (λ (z : Outcome). test (Over z)) same
  | inr q ↦ ap (λ (z : Outcome). test (Over z)) q.2 ∙ skips q.0 q.1 ∙ sym (ap (λ (z : Outcome). test (Over z)) q.3)
]

-- ---- in lists

over_at : (l : List Status) (e : ℕ) → list_all is_over l ≡ true → e < length l → (x : Outcome) × (slice_get l e ≡ Some (Over x))
over_at [] e all lt = absurd (omega (arith, lt))
over_at (st ∷ l) zero all lt = by st (and_both (is_over st) (list_all is_over l) all).0
  where
    by : (st : Status) → is_over st ≡ true → (x : Outcome) × (slice_get (st ∷ l) 0 ≡ Some (Over x))
    by Unbegun h = absurd cc
    by (Active a) h = absurd cc
    by (Over x) h = (x, refl)
over_at (st ∷ l) (suc e) all lt = over_at l e (and_both (is_over st) (list_all is_over l) all).1 (omega (arith, lt))

same_wish : (p : Parts) (targets : List ℕ) (wanted wanted2 : List Bool) → AreWanted p targets wanted → AreWanted p targets wanted2 → (e : ℕ) (a b : Bool) → slice_get wanted e ≡ Some a → slice_get wanted2 e ≡ Some b → a ≡ b
same_wish p targets wanted wanted2 are are2 e true true h k = refl
same_wish p targets wanted wanted2 are are2 e false false h k = refl
same_wish p targets wanted wanted2 are are2 e true false h k =
    absurd (let is : slice_get wanted2 e ≡ Some true = (are2.each e).1 ((are.each e).0 h) in let clash : ◌≡◌ {A = Option Bool} (Some true) (Some false) = sym is ∙ k in cc)
same_wish p targets wanted wanted2 are are2 e false true h k =
    absurd (let is : slice_get wanted e ≡ Some true = (are.each e).1 ((are2.each e).0 k) in let clash : ◌≡◌ {A = Option Bool} (Some true) (Some false) = sym is ∙ h in cc)

outcome_in : Stage → Outcome
outcome_in (Runs l) = Stopped
outcome_in (Ended ran) = ended ran
outcome_in (Broke cause) = Failed cause
outcome_in (WentWrong flaw) = Stopped

module _ (laws : TurnLaws) (meaning : Meaning) (p : Parts) (shaped : IsWellShaped p) (wanted wanted2 : List Bool) (s t : State) (told told2 : ℕ → List Reply)
    (r : Recalls ⊥ meaning p wanted s told) (r2 : Recalls ⊥ meaning p wanted2 t told2) (done : has_ended s ≡ true) (done2 : has_ended t ≡ true)
    (same_told : (e : ℕ) → told e ≡ told2 e) (same_wishes : (e : ℕ) (a b : Bool) → slice_get wanted e ≡ Some a → slice_get wanted2 e ≡ Some b → a ≡ b) where
  record Same (e : ℕ) : Type 0 where
    first : Outcome
    second : Outcome
    here : slice_get s.edges e ≡ Some (Over first)
    there : slice_get t.edges e ≡ Some (Over second)
    alike : AreAlike first second
    own : only (owns p e) s.slots ≡ only (owns p e) t.slots

  abbrev SameWaits : ℕ → Type 0
  SameWaits e = (w : ℕ) → is_member w (waits_of p e) ≡ true → Same w

  same_stands : (test : Status → Bool) → ((v w : ℕ) → test (Over (Skipped v)) ≡ test (Over (Skipped w))) → (e : ℕ) → Same e → stands test s e ≡ stands test t e
  same_stands test skips e h = ap (passes test) h.here ∙ alike_test test skips h.first h.second h.alike ∙ sym (ap (passes test) h.there)

  -- no wait succeeded in one run and failed in the other
  clash_well : (e w : ℕ) → SameWaits e → is_member w (waits_of p e) ≡ true → stands has_succeeded s w ≡ true → stands is_unsuccessful t w ≡ true → ⊥
  clash_well e w waits wait well ill = by x.second (ap (passes has_succeeded) (sym x.there) ∙ sym (same_stands has_succeeded (λ v w. refl) w x) ∙ well) (ap (passes is_unsuccessful) (sym x.there) ∙ ill)
    where
      x : Same w
      x = waits w wait

      by : (y : Outcome) → has_succeeded (Over y) ≡ true → is_unsuccessful (Over y) ≡ true → ⊥
      by Clean h k = absurd cc
      by Ran h k = absurd cc
      by (Failed cause) h k = absurd cc
      by (Skipped v) h k = absurd cc
      by Stopped h k = absurd cc
      by NotWanted h k = absurd cc

  clash_ill : (e w : ℕ) → SameWaits e → is_member w (waits_of p e) ≡ true → stands is_unsuccessful s w ≡ true → stands has_succeeded t w ≡ true → ⊥
  clash_ill e w waits wait ill well =
      clash_well e w waits wait (same_stands has_succeeded (λ v w. refl) w (waits w wait) ∙ well) (sym (same_stands is_unsuccessful (λ v w. refl) w (waits w wait)) ∙ ill)

  same_at : (w k : ℕ) → owns p w k ≡ true → Same w → slice_get s.slots k ≡ slice_get t.slots k
  same_at w k own h = sym (only_on (owns p w) s.slots k own) ∙ ap (λ (x : Slots). slice_get x k) h.own ∙ only_on (owns p w) t.slots k own

  same_long : length s.slots ≡ length t.slots
  same_long = r.sound.typed.table ∙ sym r2.sound.typed.table

  own_at : (k : ℕ) (slot : Slot) → slice_get p.slots k ≡ Some slot → owns p slot.owner k ≡ true
  own_at k slot at = ap (owned_by slot.owner) at ∙ eq-eqb slot.owner slot.owner refl

  -- the slots that an edge borrows from its waits are the same
  same_lent : (e : ℕ) → SameWaits e → lent p e s.slots ≡ lent p e t.slots
  same_lent e waits = only_same (is_lent p e) s.slots t.slots same_long (λ k on. by k (slice_get p.slots k) refl on)
    where
      by : (k : ℕ) (o : Option Slot) → slice_get p.slots k ≡ o → lent_by (waits_of p e) o ≡ true → slice_get s.slots k ≡ slice_get t.slots k
      by k None at on = absurd cc
      by k (Some slot) at on = same_at slot.owner k (own_at k slot at) (waits slot.owner on)

  -- an edge that ran in both
  went_both : (e : ℕ) (a b : Stage) → SameWaits e → Closed a → Closed b → RanAlone meaning p s s.slots (told e) e a → RanAlone meaning p t t.slots (told2 e) e b
      → (a ≡ b) × (only (owns p e) s.slots ≡ only (owns p e) t.slots)
  went_both e a b waits shut shut2 h k =
      let begin : solo (Runs begun) (lent p e s.slots) (told e ++ []) ≡ solo (Runs begun) (lent p e t.slots) (told2 e ++ []) =
      ap (λ (x : Slots). solo (Runs begun) x (told e ++ [])) (same_lent e waits) ∙ ap (λ (x : List Reply). solo (Runs begun) (lent p e t.slots) (x ++ [])) (same_told e) in
      let end : solo a (seen p e s.slots) [] ≡ solo b (seen p e t.slots) [] =
      one_end meaning p e h.turns k.turns (solo (Runs begun) (lent p e s.slots) (told e ++ [])) a b (seen p e s.slots) (seen p e t.slots) [] [] shut shut2
      (h.is []) (ap (solo_after meaning p e k.turns) begin ∙ k.is []) in
      let views : seen p e s.slots ≡ seen p e t.slots = ap (λ (x : Solo). x.now.slots) end in (
        ap (λ (x : Solo). x.now.stage) end,
        sym (only_only (owns p e) (sees p e) s.slots (λ n own. owned_seen p e n own)) ∙ ap (only (owns p e)) views ∙ only_only (owns p e) (sees p e) t.slots (λ n own. owned_seen p e n own),
      )

  abbrev Agree : ℕ → Outcome → Outcome → Type 0
  Agree e x y = AreAlike x y × (only (owns p e) s.slots ≡ only (owns p e) t.slots)

  -- an edge that ran in the first
  went_first : (e : ℕ) (x : Outcome) (a : Stage) → SameWaits e → Closed a → outcome_in a ≡ x → RanAlone meaning p s s.slots (told e) e a
      → (y : Outcome) → is_wanted (Over y) ≡ true → History ⊥ meaning p t t.slots (told2 e) e (Over y) → Agree e x y
  unfolding outcome_in
  went_first e x a waits shut is h y want k = by y want k
    where
      both : (b : Stage) → Closed b → RanAlone meaning p t t.slots (told2 e) e b → Agree e x (outcome_in b)
      both b shut2 k =
          let q = went_both e a b waits shut shut2 h k in
          let same : x ≡ outcome_in b = sym is ∙ ap outcome_in q.0 in
          (subst (λ (z : Outcome). AreAlike x z) same (alike_same x), q.1)

      by : (y : Outcome) → is_wanted (Over y) ≡ true → History ⊥ meaning p t t.slots (told2 e) e (Over y) → Agree e x y
      by Clean want k = both (Ended false) tt k
      by Ran want k = both (Ended true) tt k
      by (Failed cause) want k = both (Broke cause) tt k
      by (Skipped w) want k = absurd (clash_well e w waits k.1 (h.waited w k.1) k.2)
      by Stopped want k = absurd k
      by NotWanted want k = absurd cc

  compare : (e : ℕ) → SameWaits e → (x y : Outcome) → is_wanted (Over x) ≡ is_wanted (Over y) → History ⊥ meaning p s s.slots (told e) e (Over x) → History ⊥ meaning p t t.slots (told2 e) e (Over y) → Agree e x y
  unfolding outcome_in
  compare e waits Clean y want h k = went_first e Clean (Ended false) waits tt refl h y (sym want) k
  compare e waits Ran y want h k = went_first e Ran (Ended true) waits tt refl h y (sym want) k
  compare e waits (Failed cause) y want h k = went_first e (Failed cause) (Broke cause) waits tt refl h y (sym want) k
  compare e waits Stopped y want h k = absurd h
  compare e waits (Skipped v) Clean want h k = absurd (clash_ill e v waits h.1 h.2 (k.waited v h.1))
  compare e waits (Skipped v) Ran want h k = absurd (clash_ill e v waits h.1 h.2 (k.waited v h.1))
  compare e waits (Skipped v) (Failed cause) want h k = absurd (clash_ill e v waits h.1 h.2 (k.waited v h.1))
  compare e waits (Skipped v) (Skipped w) want h k = (tt, h.0 ∙ sym k.0)
  compare e waits (Skipped v) Stopped want h k = absurd k
  compare e waits (Skipped v) NotWanted want h k = absurd cc
  compare e waits NotWanted NotWanted want h k = (refl, h ∙ sym k)
  compare e waits NotWanted y want h k = absurd cc

  same_edge : (n e : ℕ) → rank_of p e < n → e < length p.edges → Same e
  same_edge zero e low lt = absurd (omega (arith, low))
  same_edge (suc n) e low lt = by (λ w wait. same_edge n w (omega (arith, low, (wait_below laws.in_range p shaped e w lt wait).1)) (wait_below laws.in_range p shaped e w lt wait).0)
    where
      by : SameWaits e → Same e
      by waits =
          let x = over_at s.edges e done (omega (arith, lt, r.sound.long)) in
          let y = over_at t.edges e done2 (omega (arith, lt, r2.sound.long)) in
          let want = same_wishes e (is_wanted (Over x.0)) (is_wanted (Over y.0)) (r.wants e (Over x.0) x.1) (r2.wants e (Over y.0) y.1) in
          let q = compare e waits x.0 y.0 want (r.each e (Over x.0) x.1) (r2.each e (Over y.0) y.1) in
          record { first = x.0; second = y.0; here = x.1; there = y.1; alike = q.0; own = q.1 }

  edge_same : (e : ℕ) → e < length p.edges → Same e
  edge_same e lt = same_edge (suc (rank_of p e)) e (omega arith) lt

  pub end_alike : EndAlike s t
  end_alike =
      record {
        outcomes = λ e. elim (slice_get_cases p.edges e).1 [
          | inl q ↦ inside e (edge_same e q.1)
          | inr q ↦ outside e q.0
        ];
        slots = same_slots s.slots t.slots same_long (λ k. elim (slice_get_cases p.slots k).1 [
          | inl q ↦ same_at q.0.owner k (own_at k q.0 q.2) (edge_same q.0.owner ((laws.in_range p shaped).slots k q.0 q.2).owner)
          | inr q ↦ slice_get_past s.slots k (omega (arith, q.0, r.sound.typed.table)) ∙ sym (slice_get_past t.slots k (omega (arith, q.0, r2.sound.typed.table)))
        ]);
      }
    where
      inside : (e : ℕ) → Same e → BothAlike (outcome_at (slice_get s.edges e)) (outcome_at (slice_get t.edges e))
      inside e h =
          subst (λ (o : Option Status). BothAlike (outcome_at o) (outcome_at (slice_get t.edges e))) (sym h.here)
          (subst (λ (o : Option Status). BothAlike (Some h.first) (outcome_at o)) (sym h.there) h.alike)

      outside : (e : ℕ) → length p.edges ≤ e → BothAlike (outcome_at (slice_get s.edges e)) (outcome_at (slice_get t.edges e))
      outside e far =
          subst (λ (o : Option Status). BothAlike (outcome_at o) (outcome_at (slice_get t.edges e))) (sym (slice_get_past s.edges e (omega (arith, far, r.sound.long))))
          (subst (λ (o : Option Status). BothAlike None (outcome_at o)) (sym (slice_get_past t.edges e (omega (arith, far, r2.sound.long)))) tt)

pub interleavings_agree : TurnLaws → InterleavingsAgree
interleavings_agree laws meaning p shaped limits other all_borne all_borne2 targets events marks s reached done events2 marks2 t reached2 done2 same =
    let a = reached_recalls laws meaning p shaped limits ⊥ (none_spent limits all_borne) targets events marks s reached in
    let b = reached_recalls laws meaning p shaped other ⊥ (none_spent other all_borne2) targets events2 marks2 t reached2 in
    end_alike laws meaning p shaped reached.opens.wanted reached2.opens.wanted s t a.0 b.0 a.2 b.2 done done2
    (λ e. a.1 e ∙ same e ∙ sym (b.1 e)) (same_wish p targets reached.opens.wanted reached2.opens.wanted reached.opens.are reached2.opens.are)
