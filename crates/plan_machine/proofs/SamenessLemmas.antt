-- The test of two ends is true if and only if both have ended and end alike.
use Rattle.std.proofs.Common.{◌≡◌, ℕ, zero, suc, Bool, true, false, List, [], ◌∷◌, Option, Some, None, refl, sym, ap, ◌∙◌, subst}
use Rattle.std.specs.Prelude.{◌==◌, slice_get, bytes_eq}
use Rattle.std.specs.List.{list_all}
use Rattle.std.specs.Cmp.Lexicographic.{pointwise}
use Rattle.std.proofs.lemmas.Bool.{eqb-true, eq-eqb, and_from}
use Rattle.std.proofs.lemmas.Slice.Eq.{bytes_eq-Decides}
use Rattle.plan_verify.specs.declared.value.Value.{Value}
use Rattle.plan_verify.specs.declared.value.Value.TheVariants.{Stamp, Flag, Text, Paths, Swept}
use Rattle.plan_verify.specs.declared.value.Cause.{Cause}
use Rattle.plan_verify.specs.declared.value.Cause.TheVariants as cause
use Rattle.plan_verify.specs.Turn.{Slots}
use Rattle.plan_machine.proofs.ListLemmas.{and_both}
use Rattle.plan_machine.specs.declared.event.Outcome.{Outcome}
use Rattle.plan_machine.specs.declared.event.Outcome.TheVariants.{Clean, Ran, Failed, Skipped, Stopped, NotWanted}
use Rattle.plan_machine.specs.State.{Status, Unbegun, Active, Over, is_over, outcome_at}
use Rattle.plan_machine.specs.Agreement.{AreAlike, BothAlike}
use Rattle.plan_machine.specs.Sameness.{same_cause, same_outcome, same_status, same_statuses, same_paths, same_flag, same_value, same_slot, same_slots, SameEndsTell}

-- ---- lists whose items are compared by a test for equality

module _ {A : Type 0} (same : A → A → Bool) (is : (x y : A) → same x y ≡ true → x ≡ y) (itself : (x : A) → same x x ≡ true) where
  all_is : (xs ys : List A) → pointwise same xs ys ≡ true → xs ≡ ys
  all_is [] [] h = refl
  all_is [] (y ∷ ys) h = absurd cc
  all_is (x ∷ xs) [] h = absurd cc
  all_is (x ∷ xs) (y ∷ ys) h =
      let q = and_both (same x y) (pointwise same xs ys) h in
      ap (λ (z : A). z ∷ xs) (is x y q.0) ∙ ap (λ (z : List A). y ∷ z) (all_is xs ys q.1)

  all_same : (xs : List A) → pointwise same xs xs ≡ true
  all_same [] = refl
  all_same (x ∷ xs) = and_from _ _ (itself x) (all_same xs)

-- ---- values

text_is : (a b : List ℕ) → bytes_eq a b ≡ true → a ≡ b
text_is a b h = (bytes_eq-Decides a b).0 h

text_same : (a : List ℕ) → bytes_eq a a ≡ true
text_same a = (bytes_eq-Decides a a).1 refl

flag_is : (a b : Bool) → same_flag a b ≡ true → a ≡ b
flag_is true true h = refl
flag_is false false h = refl
flag_is true false h = absurd cc
flag_is false true h = absurd cc

flag_same : (a : Bool) → same_flag a a ≡ true
flag_same true = refl
flag_same false = refl

value_is : (v w : Value) → same_value v w ≡ true → v ≡ w
value_is (Stamp a) (Stamp b) h = ap (λ (n : ℕ). Stamp n) (eqb-true a b h)
value_is (Flag a) (Flag b) h = ap (λ (n : Bool). Flag n) (flag_is a b h)
value_is (Text a) (Text b) h = ap (λ (n : List ℕ). Text n) (text_is a b h)
value_is (Paths n a) (Paths m b) h =
    let q = and_both (n == m) (same_paths a b) h in
    ap (λ (k : ℕ). Paths k a) (eqb-true n m q.0) ∙ ap (λ (x : List (List ℕ)). Paths m x) (all_is bytes_eq text_is text_same a b q.1)
value_is (Swept a) (Swept b) h = ap (λ (n : List (List ℕ)). Swept n) (all_is bytes_eq text_is text_same a b h)
value_is _ _ h = absurd cc

value_same : (v : Value) → same_value v v ≡ true
value_same (Stamp a) = eq-eqb a a refl
value_same (Flag a) = flag_same a
value_same (Text a) = text_same a
value_same (Paths n a) = and_from _ _ (eq-eqb n n refl) (all_same bytes_eq text_is text_same a)
value_same (Swept a) = all_same bytes_eq text_is text_same a

slot_is : (v w : Option Value) → same_slot v w ≡ true → v ≡ w
slot_is (Some v) (Some w) h = ap (λ (x : Value). Some x) (value_is v w h)
slot_is None None h = refl
slot_is _ _ h = absurd cc

slot_same : (v : Option Value) → same_slot v v ≡ true
slot_same (Some v) = value_same v
slot_same None = refl

-- ---- outcomes

cause_is : (a b : Cause) → same_cause a b ≡ true → a ≡ b
cause_is (cause.MissingInput a) (cause.MissingInput b) h = ap (λ (n : ℕ). cause.MissingInput n) (eqb-true a b h)
cause_is cause.StatFault cause.StatFault h = refl
cause_is (cause.Exit a) (cause.Exit b) h = ap (λ (n : ℕ). cause.Exit n) (eqb-true a b h)
cause_is cause.Signal cause.Signal h = refl
cause_is cause.NotStarted cause.NotStarted h = refl
cause_is cause.DepfileFault cause.DepfileFault h = refl
cause_is (cause.DepfileMalformed a n) (cause.DepfileMalformed b m) h =
    let q = and_both (a == b) (n == m) h in
    ap (λ (x : ℕ). cause.DepfileMalformed x n) (eqb-true a b q.0) ∙ ap (λ (x : ℕ). cause.DepfileMalformed b x) (eqb-true n m q.1)
cause_is cause.RecordFault cause.RecordFault h = refl
cause_is cause.TextTooLong cause.TextTooLong h = refl
cause_is _ _ h = absurd cc

cause_same : (a : Cause) → same_cause a a ≡ true
cause_same (cause.MissingInput a) = eq-eqb a a refl
cause_same (cause.Exit a) = eq-eqb a a refl
cause_same (cause.DepfileMalformed a n) = and_from _ _ (eq-eqb a a refl) (eq-eqb n n refl)
cause_same _ = refl

outcome_is : (x y : Outcome) → same_outcome x y ≡ true → AreAlike x y
outcome_is Clean Clean h = refl
outcome_is Ran Ran h = refl
outcome_is (Failed a) (Failed b) h = ap (λ (c : Cause). Failed c) (cause_is a b h)
outcome_is (Skipped v) (Skipped w) h = tt
outcome_is Stopped Stopped h = refl
outcome_is NotWanted NotWanted h = refl
outcome_is _ _ h = absurd cc

outcome_same : (x : Outcome) → same_outcome x x ≡ true
outcome_same (Failed a) = cause_same a
outcome_same _ = refl

outcome_tells : (x y : Outcome) → AreAlike x y → same_outcome x y ≡ true
outcome_tells (Skipped v) (Skipped w) h = refl
outcome_tells x y h = subst (λ (z : Outcome). same_outcome x z ≡ true) h (outcome_same x)

-- ---- states

status_is : (a b : Status) → same_status a b ≡ true → (x : Outcome) × (y : Outcome) × (a ≡ Over x) × (b ≡ Over y) × AreAlike x y
status_is (Over x) (Over y) h = (x, y, refl, refl, outcome_is x y h)
status_is (Over x) Unbegun h = absurd cc
status_is (Over x) (Active l) h = absurd cc
status_is Unbegun b h = absurd cc
status_is (Active l) b h = absurd cc

statuses_is : (l m : List Status) → same_statuses l m ≡ true
    → (list_all is_over l ≡ true) × (list_all is_over m ≡ true) × ((e : ℕ) → BothAlike (outcome_at (slice_get l e)) (outcome_at (slice_get m e)))
statuses_is [] [] h = (refl, refl, λ e. tt)
statuses_is [] (b ∷ m) h = absurd cc
statuses_is (a ∷ l) [] h = absurd cc
statuses_is (a ∷ l) (b ∷ m) h =
    let q = and_both (same_status a b) (same_statuses l m) h in
    let st = status_is a b q.0 in
    let rest = statuses_is l m q.1 in
    (and_from _ _ (ap is_over st.2) rest.0, and_from _ _ (ap is_over st.3) rest.1, λ e. by st.0 st.1 st.2 st.3 st.4 rest.2 e)
  where
    by : (x y : Outcome) → a ≡ Over x → b ≡ Over y → AreAlike x y → ((e : ℕ) → BothAlike (outcome_at (slice_get l e)) (outcome_at (slice_get m e)))
        → (e : ℕ) → BothAlike (outcome_at (slice_get (a ∷ l) e)) (outcome_at (slice_get (b ∷ m) e))
    by x y is is2 alike rest zero =
        subst (λ (z : Status). BothAlike (outcome_at (Some z)) (outcome_at (Some b))) (sym is) (subst (λ (z : Status). BothAlike (Some x) (outcome_at (Some z))) (sym is2) alike)
    by x y is is2 alike rest (suc e) = rest e

statuses_tell : (l m : List Status) → list_all is_over l ≡ true → list_all is_over m ≡ true → ((e : ℕ) → BothAlike (outcome_at (slice_get l e)) (outcome_at (slice_get m e))) → same_statuses l m ≡ true
statuses_tell [] [] h k all = refl
statuses_tell [] (Over y ∷ m) h k all = absurd (all zero)
statuses_tell [] (Unbegun ∷ m) h k all = absurd cc
statuses_tell [] (Active a ∷ m) h k all = absurd cc
statuses_tell (Over x ∷ l) [] h k all = absurd (all zero)
statuses_tell (Unbegun ∷ l) m h k all = absurd cc
statuses_tell (Active a ∷ l) m h k all = absurd cc
statuses_tell (Over x ∷ l) (Unbegun ∷ m) h k all = absurd cc
statuses_tell (Over x ∷ l) (Active a ∷ m) h k all = absurd cc
statuses_tell (Over x ∷ l) (Over y ∷ m) h k all = and_from _ _ (outcome_tells x y (all zero)) (statuses_tell l m h k (λ e. all (suc e)))

pub same_ends_tell : SameEndsTell
same_ends_tell s t = (
  λ h.
      let q = and_both (same_statuses s.edges t.edges) (same_slots s.slots t.slots) h in
      let st = statuses_is s.edges t.edges q.0 in
      (st.0, st.1, record { outcomes = st.2; slots = all_is same_slot slot_is slot_same s.slots t.slots q.1 }),
  λ h.
      and_from _ _ (statuses_tell s.edges t.edges h.0 h.1 h.2.outcomes)
      (subst (λ (x : Slots). same_slots s.slots x ≡ true) h.2.slots (all_same same_slot slot_is slot_same s.slots)),
)
