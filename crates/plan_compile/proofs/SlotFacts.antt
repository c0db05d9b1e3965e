-- The values of the slots after stores.
use Rattle.std.proofs.Common.{◌≡◌, ℕ, zero, suc, ◌<◌, Bool, true, false, List, [], ◌∷◌, length, map, Option, Some, refl, sym, ap, subst, ◌∙◌, arith, inl, inr}
use Rattle.std.specs.Prelude.{◌||◌, ◌&&◌, slice_get, slice_set, ◌==◌}
use Rattle.std.specs.List.{list_all}
use Rattle.std.proofs.lemmas.Bool.{cases_eq, eqb-true}
use Rattle.std.proofs.lemmas.Option.{slice_get_within}
use Rattle.plan_image.specs.declared.image.Parts.{Parts}
use Rattle.plan_verify.specs.declared.value.Value.{Value}
use Rattle.plan_verify.specs.declared.value.Value.TheVariants.{Stamp, Flag}
use Rattle.plan_verify.specs.Members.{is_member}
use Rattle.plan_verify.specs.Tables.{owned_by}
use Rattle.plan_verify.specs.Turn.{Slots, is_set, is_filled}
use Rattle.plan_compile.specs.declared.layout.Output.{Output}
use Rattle.plan_compile.specs.InteractionTree.{Left}
use Rattle.plan_compile.specs.Emit.{holders}
use Rattle.plan_compile.specs.Means.{Leaves, IsNoStamp, IsNoFlag, AreApart, ShareFlag, HaveFlagSlots, slots_of}
use Rattle.plan_compile.proofs.LaidOut.{IsOwn, AreWritable, AreOfTwoKinds, or_cases}
use Rattle.plan_compile.proofs.Folds.{stored, flagged, AreMatched, Hold, own_slot}

pub get_same : {A : Type 0} (xs : List A) (i : ℕ) (x : A) → i < length xs → slice_get (slice_set xs i x) i ≡ Some x
get_same [] i x lt = absurd (omega arith)
get_same (z ∷ xs) zero x lt = refl
get_same (z ∷ xs) (suc i) x lt = get_same xs i x (omega arith)

pub get_other : {A : Type 0} (xs : List A) (i j : ℕ) (x : A) → (j ≡ i → ⊥) → slice_get (slice_set xs i x) j ≡ slice_get xs j
get_other [] i j x ne = refl
get_other (z ∷ xs) zero zero x ne = absurd (ne refl)
get_other (z ∷ xs) zero (suc j) x ne = refl
get_other (z ∷ xs) (suc i) zero x ne = refl
get_other (z ∷ xs) (suc i) (suc j) x ne = get_other xs i j x (λ e. ne (ap suc e))

pub set_length : {A : Type 0} (xs : List A) (i : ℕ) (x : A) → length (slice_set xs i x) ≡ length xs
set_length [] i x = refl
set_length (z ∷ xs) zero x = refl
set_length (z ∷ xs) (suc i) x = ap suc (set_length xs i x)

pub stored_length : (slots : Slots) (os : List Output) (ts : List ℕ) → length (stored slots os ts) ≡ length slots
stored_length slots [] ts = refl
stored_length slots (o ∷ os) [] = refl
stored_length slots (o ∷ os) (t ∷ ts) = stored_length (slice_set slots o.stamp (Some (Stamp t))) os ts ∙ set_length slots o.stamp (Some (Stamp t))

pub stored_other : (slots : Slots) (os : List Output) (ts : List ℕ) (s : ℕ) → IsNoStamp s os → slice_get (stored slots os ts) s ≡ slice_get slots s
stored_other slots [] ts s far = refl
stored_other slots (o ∷ os) [] s far = refl
stored_other slots (o ∷ os) (t ∷ ts) s far = stored_other (slice_set slots o.stamp (Some (Stamp t))) os ts s far.1 ∙ get_other slots o.stamp s (Some (Stamp t)) far.0

pub flagged_other : (slots : Slots) (b : Bool) (os : List Output) (s : ℕ) → IsNoFlag s os → slice_get (flagged slots b os) s ≡ slice_get slots s
flagged_other slots b [] s far = refl
flagged_other slots b (o ∷ os) s far = flagged_other (slice_set slots o.changed (Some (Flag b))) b os s far.1 ∙ get_other slots o.changed s (Some (Flag b)) far.0

-- a slot that has a flag keeps that flag
pub flagged_stays : (slots : Slots) (b : Bool) (os : List Output) (s : ℕ) → s < length slots → slice_get slots s ≡ Some (Some (Flag b)) → slice_get (flagged slots b os) s ≡ Some (Some (Flag b))
flagged_stays slots b [] s lt h = h
flagged_stays slots b (o ∷ os) s lt h =
    let long : length (slice_set slots o.changed (Some (Flag b))) ≡ length slots = set_length slots o.changed (Some (Flag b)) in
    flagged_stays (slice_set slots o.changed (Some (Flag b))) b os s (omega (arith, lt, long)) (elim (cases_eq s o.changed) [
      | inl same ↦ ap (λ (i : ℕ). slice_get (slice_set slots o.changed (Some (Flag b))) i) same ∙ get_same slots o.changed (Some (Flag b)) (subst (λ (i : ℕ). i < length slots) same lt)
      | inr ne ↦ get_other slots o.changed s (Some (Flag b)) ne ∙ h
    ])

module _ (p : Parts) (e : ℕ) where
  pub own_within : (slots : Slots) (s : ℕ) → length slots ≡ length p.slots → IsOwn p e s → s < length slots
  own_within slots s table own =
      let o = own_slot e (slice_get p.slots s) own in
      let short : s < length p.slots = slice_get_within p.slots s o.0 o.1 in
      omega (arith, short, table)

  pub foreign_no_stamp : (os : List Output) (s : ℕ) → AreWritable p e os → owned_by e (slice_get p.slots s) ≡ false → IsNoStamp s os
  foreign_no_stamp [] s writable foreign = tt
  foreign_no_stamp (o ∷ os) s writable foreign =
      ((λ same. let own : owned_by e (slice_get p.slots s) ≡ true = subst (λ (i : ℕ). IsOwn p e i) (sym same) writable.0.1 in absurd (cc)), foreign_no_stamp os s writable.1 foreign)

  pub hold_set : (slots : Slots) (os : List Output) (ts : List ℕ) (s : ℕ) (v : Option Value) → IsNoStamp s os → Hold slots os ts → Hold (slice_set slots s v) os ts
  hold_set slots [] [] s v far hold = tt
  hold_set slots [] (t ∷ ts) s v far hold = hold
  hold_set slots (o ∷ os) [] s v far hold = hold
  hold_set slots (o ∷ os) (t ∷ ts) s v far hold = (get_other slots s o.stamp v (λ same. far.0 (sym same)) ∙ hold.0, hold_set slots os ts s v far.1 hold.1)

  -- stored stamps are in their slots
  pub stored_hold : (slots : Slots) (os : List Output) (ts : List ℕ) → length slots ≡ length p.slots → AreWritable p e os → AreApart os → AreMatched os ts → Hold (stored slots os ts) os ts
  stored_hold slots [] [] table writable apart matched = tt
  stored_hold slots [] (t ∷ ts) table writable apart matched = matched
  stored_hold slots (o ∷ os) [] table writable apart matched = matched
  stored_hold slots (o ∷ os) (t ∷ ts) table writable apart matched =
      let after : Slots = slice_set slots o.stamp (Some (Stamp t)) in (
        stored_other after os ts o.stamp apart.0 ∙ get_same slots o.stamp (Some (Stamp t)) (own_within slots o.stamp table writable.0.1),
        stored_hold after os ts (set_length slots o.stamp (Some (Stamp t)) ∙ table) writable.1 apart.1 matched,
      )

  -- after the flags are stored, the outputs have these values
  pub flagged_leaves : (slots : Slots) (b : Bool) (os : List Output) (ts : List ℕ) → length slots ≡ length p.slots → AreWritable p e os → AreOfTwoKinds os → Hold slots os ts
      → Leaves os (flagged slots b os) (map (λ t. (t, b)) ts)
  flagged_leaves slots b [] [] table writable kinds hold = tt
  flagged_leaves slots b [] (t ∷ ts) table writable kinds hold = absurd hold
  flagged_leaves slots b (o ∷ os) [] table writable kinds hold = absurd hold
  flagged_leaves slots b (o ∷ os) (t ∷ ts) table writable kinds hold =
      let long : length (slice_set slots o.changed (Some (Flag b))) ≡ length slots = set_length slots o.changed (Some (Flag b)) in
      let short : o.changed < length slots = own_within slots o.changed table writable.0.2 in (
        flagged_other (slice_set slots o.changed (Some (Flag b))) b os o.stamp kinds.1 ∙ (get_other slots o.changed o.stamp (Some (Flag b)) (λ same. kinds.0 (sym same)) ∙ hold.0),
        flagged_stays (slice_set slots o.changed (Some (Flag b))) b os o.changed (omega (arith, short, long)) (get_same slots o.changed (Some (Flag b)) short),
        flagged_leaves (slice_set slots o.changed (Some (Flag b))) b os ts (long ∙ table) writable.1 kinds.3 (hold_set slots os ts o.changed (Some (Flag b)) kinds.2 hold.1),
      )

  -- with one flag for all of them
  pub shared_leaves : (slots : Slots) (b : Bool) (os : List Output) (ts : List ℕ) (changed : ℕ) → ShareFlag changed os → Hold slots os ts → slice_get slots changed ≡ Some (Some (Flag b))
      → Leaves os slots (map (λ t. (t, b)) ts)
  shared_leaves slots b [] [] changed share hold is = tt
  shared_leaves slots b [] (t ∷ ts) changed share hold is = absurd hold
  shared_leaves slots b (o ∷ os) [] changed share hold is = absurd hold
  shared_leaves slots b (o ∷ os) (t ∷ ts) changed share hold is =
      (hold.0, ap (λ (i : ℕ). slice_get slots i) share.0 ∙ is, shared_leaves slots b os ts changed share.1 hold.1 is)

  -- with a flag for each of those that have one
  pub holders_leave : (restat : Bool) (slots : Slots) (b : Bool) (os : List Output) (ts : List ℕ) → length slots ≡ length p.slots → AreWritable p e os → AreOfTwoKinds os → HaveFlagSlots restat os → Hold slots os ts
      → Leaves os (flagged slots b (holders restat os)) (map (λ t. (t, b)) ts)
  holders_leave true slots b os ts table writable kinds have hold = flagged_leaves slots b os ts table writable kinds hold
  holders_leave false slots b [] [] table writable kinds have hold = tt
  holders_leave false slots b [] (t ∷ ts) table writable kinds have hold = absurd hold
  holders_leave false slots b (o ∷ os) [] table writable kinds have hold = absurd hold
  holders_leave false slots b (o ∷ os) (t ∷ ts) table writable kinds have hold =
      shared_leaves (slice_set slots o.changed (Some (Flag b))) b (o ∷ os) (t ∷ ts) o.changed (refl, have)
      (hold_set slots (o ∷ os) (t ∷ ts) o.changed (Some (Flag b)) (kinds.0, kinds.2) hold)
      (get_same slots o.changed (Some (Flag b)) (own_within slots o.changed table writable.0.2))

  pub holders_writable : (restat : Bool) (os : List Output) → AreWritable p e os → AreWritable p e (holders restat os)
  holders_writable true os writable = writable
  holders_writable false [] writable = tt
  holders_writable false (o ∷ os) writable = (writable.0, tt)

pub holders_no_flag : (restat : Bool) (s : ℕ) (os : List Output) → IsNoFlag s os → IsNoFlag s (holders restat os)
holders_no_flag true s os far = far
holders_no_flag false s [] far = tt
holders_no_flag false s (o ∷ os) far = (far.0, tt)

-- ---- all own slots are set

pub and_both : (a b : Bool) → (a && b) ≡ true → (a ≡ true) × (b ≡ true)
and_both true b h = (refl, h)
and_both false b h = absurd cc

pub filled : (slots : Slots) (m s : ℕ) (v : Value) → slice_get slots m ≡ Some (Some v) → (m == s) ≡ true → is_set slots s ≡ true
filled slots m s v is eq = ap (λ (i : ℕ). is_filled (slice_get slots i)) (sym (eqb-true m s eq)) ∙ ap is_filled is

pub left_set : (os : List Output) (slots : Slots) (left : Left) (s : ℕ) → Leaves os slots left → is_member s (slots_of os) ≡ true → is_set slots s ≡ true
left_set [] slots left s leaves h = absurd cc
left_set (o ∷ os) slots [] s leaves h = absurd leaves
left_set (o ∷ os) slots (x ∷ xs) s leaves h = elim (or_cases (o.stamp == s) ((o.changed == s) || is_member s (slots_of os)) h) [
  | inl at ↦ filled slots o.stamp s (Stamp x.0) leaves.0 at
  | inr more ↦ elim (or_cases (o.changed == s) (is_member s (slots_of os)) more) [
    | inl at ↦ filled slots o.changed s (Flag x.1) leaves.1 at
    | inr rest ↦ left_set os slots xs s leaves.2 rest
  ]
]

pub all_set : (slots : Slots) (test : ℕ → Bool) (xs : List ℕ) → ((s : ℕ) → test s ≡ true → is_set slots s ≡ true) → list_all test xs ≡ true → list_all (is_set slots) xs ≡ true
all_set slots test [] h all = refl
all_set slots test (x ∷ xs) h all =
    let b = and_both (test x) (list_all test xs) all in
    ap (λ (c : Bool). c && list_all (is_set slots) xs) (h x b.0) ∙ all_set slots test xs h b.1
