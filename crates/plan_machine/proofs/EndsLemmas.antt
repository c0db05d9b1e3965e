-- The comparison of the ends of two lists of events.
use Rattle.std.proofs.Common.{◌≡◌, ℕ, zero, suc, ◌+◌, ◌≤◌, Bool, true, false, List, [], ◌∷◌, length, map, Some, refl, sym, ap, ◌∙◌, subst, arith, inl, inr}
use Rattle.std.specs.Prelude.{slice_get}
use Rattle.std.proofs.lemmas.Option.{slice_get_within}
use Rattle.plan_image.specs.declared.image.Parts.{Parts}
use Rattle.plan_verify.specs.Turn.{Slots, Meaning}
use Rattle.plan_verify.specs.WellShaped.{IsWellShaped}
use Rattle.plan_machine.specs.Limits.{Limits}
use Rattle.plan_machine.specs.declared.event.Event.{Event}
use Rattle.plan_machine.specs.declared.event.Mark.{Mark}
use Rattle.plan_machine.specs.declared.run.refused.Refused.{Refused}
use Rattle.plan_machine.specs.declared.run.refused.Refused.TheVariants as refused
use Rattle.plan_machine.specs.State.{Status, State, has_ended}
use Rattle.plan_machine.specs.Step.{Stepped, Next, step}
use Rattle.plan_machine.specs.Depfile.{depfile}
use Rattle.plan_machine.specs.Runs.{Opens, Reached, Runs, at_first}
use Rattle.plan_machine.specs.Agreement.{InterleavingsAgree}
use Rattle.plan_machine.specs.Sameness.{same_ends}
use Rattle.plan_machine.specs.Replaying.{IsReplayFault}
use Rattle.plan_machine.specs.Ends.{EndsIn, IsEndFault, NeverTellsApart, TellsEnds}
use Rattle.plan_machine.proofs.SamenessLemmas.{same_ends_tell}

-- ---- events reach one state

same_flags : (xs ys : List Bool) → length xs ≡ length ys → ((e : ℕ) → slice_get xs e ≡ Some true → slice_get ys e ≡ Some true) → ((e : ℕ) → slice_get ys e ≡ Some true → slice_get xs e ≡ Some true) → xs ≡ ys
same_flags [] [] long up down = refl
same_flags [] (y ∷ ys) long up down = absurd (omega (arith, long))
same_flags (x ∷ xs) [] long up down = absurd (omega (arith, long))
same_flags (x ∷ xs) (y ∷ ys) long up down =
    ap (λ (b : Bool). b ∷ xs) (same_flag x y (up zero) (down zero)) ∙ ap (λ (l : List Bool). y ∷ l) (same_flags xs ys (omega (arith, long)) (λ e. up (suc e)) (λ e. down (suc e)))
  where
    same_flag : (x y : Bool) → (Some x ≡ Some true → Some y ≡ Some true) → (Some y ≡ Some true → Some x ≡ Some true) → x ≡ y
    same_flag true true up down = refl
    same_flag false false up down = refl
    same_flag true false up down = let h = up refl in cc
    same_flag false true up down = let h = down refl in cc

abbrev state_of : List Status → Slots → State
state_of edges slots = record { edges = edges; slots = slots }

opens_same : (p : Parts) (targets : List ℕ) (s t : State) → Opens p targets s → Opens p targets t → s ≡ t
opens_same p targets s t one other =
    let flags : one.wanted ≡ other.wanted =
    same_flags one.wanted other.wanted (one.are.long ∙ sym other.are.long) (λ e h. (other.are.each e).1 ((one.are.each e).0 h)) (λ e h. (one.are.each e).1 ((other.are.each e).0 h)) in
    let edges : s.edges ≡ t.edges = one.edges ∙ ap (map at_first) flags ∙ sym other.edges in
    let slots : s.slots ≡ t.slots = one.slots ∙ sym other.slots in
    ap (λ (l : List Status). state_of l s.slots) edges ∙ ap (λ (l : Slots). state_of t.edges l) slots

next_same : (t u : State) (m n : Mark) (x : Stepped) → x ≡ Next t m → x ≡ Next u n → t ≡ u
next_same t u m n x one other = cc

runs_same : (meaning : Meaning) (p : Parts) (limits : Limits) (s t u : State) (events : List Event) (marks others : List Mark) → Runs meaning p limits s events marks t → Runs meaning p limits s events others u → t ≡ u
runs_same meaning p limits s t u [] [] [] one other = sym one ∙ other
runs_same meaning p limits s t u (x ∷ events) (m ∷ marks) (n ∷ others) one other =
    let same : other.0 ≡ one.0 = next_same other.0 one.0 n m (step meaning p limits s x) other.1 one.1 in
    runs_same meaning p limits one.0 t u events marks others one.2 (subst (λ (v : State). Runs meaning p limits v events others u) same other.2)
runs_same meaning p limits s t u [] (m ∷ marks) others one other = absurd one
runs_same meaning p limits s t u (x ∷ events) [] others one other = absurd one
runs_same meaning p limits s t u [] [] (n ∷ others) one other = absurd other
runs_same meaning p limits s t u (x ∷ events) (m ∷ marks) [] one other = absurd other

reached_same : (meaning : Meaning) (p : Parts) (limits : Limits) (targets : List ℕ) (events : List Event) (marks others : List Mark) (s t : State)
    → Reached meaning p limits targets events marks s → Reached meaning p limits targets events others t → s ≡ t
reached_same meaning p limits targets events marks others s t one other =
    let same : other.start ≡ one.start = opens_same p targets other.start one.start other.opens one.opens in
    runs_same meaning p limits one.start s t events marks others one.run (subst (λ (v : State). Runs meaning p limits v events others t) same other.run)

one_end : (p : Parts) (limits : Limits) (events : List Event) (s t : State) → EndsIn p limits events s → EndsIn p limits events t → s ≡ t
one_end p limits events s t one other = reached_same depfile p limits [] events one.marks other.marks s t one.reached other.reached

-- ---- two lists

module _ (p : Parts) (limits : Limits) (first second : List Event) (end other : State) (one : EndsIn p limits first end) (two : EndsIn p limits second other) (same : Bool) (is : same ≡ same_ends end other) where
  pub tells_ends : TellsEnds p limits first second same
  tells_ends =
      let test = same_ends_tell end other in
      record {
        end = end;
        other = other;
        first_ends = one;
        second_ends = two;
        tells = ((λ h. test.0 (sym is ∙ h)), λ h. is ∙ test.1 h);
      }

  pub never_tells_apart : InterleavingsAgree → IsWellShaped p → NeverTellsApart p limits first second same
  never_tells_apart agree shaped all_borne s t first_ends done second_ends done2 replies =
      let end_is : s ≡ end = one_end p limits first s end first_ends one in
      let other_is : t ≡ other = one_end p limits second t other second_ends two in
      let alike = agree depfile p shaped limits limits all_borne all_borne [] first one.marks end one.reached (subst (λ (x : State). has_ended x ≡ true) end_is done)
      second two.marks other two.reached (subst (λ (x : State). has_ended x ≡ true) other_is done2) replies in
      is ∙ (same_ends_tell end other).1 (subst (λ (x : State). has_ended x ≡ true) end_is done, subst (λ (x : State). has_ended x ≡ true) other_is done2, alike)

-- ---- refusals

pub fault_within : (p : Parts) (limits : Limits) (events : List Event) (n : ℕ) (r : Refused) → IsReplayFault p limits [] events n r → n ≤ length events
fault_within p limits events n refused.NotEnabled h = let lt = slice_get_within events n h.2.event h.2.there in omega (arith, lt)
fault_within p limits events n refused.Memory h = elim h.1 [ inl first ↦ omega (arith, first) | inr run ↦ run.2.within ]
fault_within p limits events n refused.BadTarget h = absurd cc

pub first_fault : (p : Parts) (limits : Limits) (first second : List Event) (n : ℕ) (r : Refused) → IsReplayFault p limits [] first n r → IsEndFault p limits first second n r
first_fault p limits first second n r h = inl h

pub second_fault : (p : Parts) (limits : Limits) (first second : List Event) (end : State) (m n : ℕ) (r : Refused) → EndsIn p limits first end → n ≡ length first + m → IsReplayFault p limits [] second m r → IsEndFault p limits first second n r
second_fault p limits first second end m n r ends is h = inr (end, ends, m, is, h)
