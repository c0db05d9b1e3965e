-- The values counted in one pass over the slots are those of each edge's own slots.
use Rattle.std.proofs.Common.{◌≡◌, ℕ, zero, suc, ◌+◌, ◌≤◌, Bool, true, false, cond, eqb, List, [], ◌∷◌, length, drop, Some, refl, sym, ap, ◌∙◌, arith, add-one}
use Rattle.std.specs.Prelude.{◌||◌, replicate, slice_get}
use Rattle.std.specs.List.{list_any}
use Rattle.std.proofs.lemmas.List.{drop_all}
use Rattle.plan_image.specs.declared.image.Slot.{Slot}
use Rattle.plan_image.specs.declared.image.Parts.{Parts}
use Rattle.plan_verify.specs.declared.place_checks.OwnSlots.{OwnSlots}
use Rattle.plan_verify.specs.Tables.{own_from, own_slots, slot_kind, kind_in}
use Rattle.plan_verify.specs.Shape.{is_paths}
use Rattle.plan_verify.specs.OwnSlots.{none, more, counted, CountsMore, AreCounted, AreOwnSlots}
use Rattle.plan_verify.proofs.ListLemmas.{some_is}

-- ---- lists

pub head_of_rest : {A : Type 0} (n : ℕ) (xs : List A) (x : A) (ys : List A) → drop n xs ≡ x ∷ ys → slice_get xs n ≡ Some x
head_of_rest zero [] x ys e = cc
head_of_rest zero (z ∷ zs) x ys e = cc
head_of_rest (suc n) [] x ys e = cc
head_of_rest (suc n) (z ∷ zs) x ys e = head_of_rest n zs x ys e

tail_of_rest_suc : {A : Type 0} (n : ℕ) (xs : List A) (x : A) (ys : List A) → drop n xs ≡ x ∷ ys → drop (suc n) xs ≡ ys
tail_of_rest_suc zero [] x ys e = cc
tail_of_rest_suc zero (z ∷ zs) x ys e = cc
tail_of_rest_suc (suc n) [] x ys e = cc
tail_of_rest_suc (suc n) (z ∷ zs) x ys e = tail_of_rest_suc n zs x ys e

pub tail_of_rest : {A : Type 0} (n : ℕ) (xs : List A) (x : A) (ys : List A) → drop n xs ≡ x ∷ ys → drop (n + 1) xs ≡ ys
tail_of_rest n xs x ys e = rw add-one (tail_of_rest_suc n xs x ys e)

rest_at_suc : {A : Type 0} (n : ℕ) (xs : List A) (x : A) → slice_get xs n ≡ Some x → drop n xs ≡ x ∷ drop (suc n) xs
rest_at_suc n [] x e = cc
rest_at_suc zero (y ∷ ys) x e = cc
rest_at_suc (suc n) (y ∷ ys) x e = rest_at_suc n ys x e

pub rest_at : {A : Type 0} (n : ℕ) (xs : List A) (x : A) → slice_get xs n ≡ Some x → drop n xs ≡ x ∷ drop (n + 1) xs
rest_at n xs x e = rw add-one (rest_at_suc n xs x e)

nothing_at : {A : Type 0} (n k : ℕ) (x y : A) → slice_get (replicate n x) k ≡ Some y → x ≡ y
nothing_at zero k x y e = cc
nothing_at (suc n) zero x y e = some_is x y e
nothing_at (suc n) (suc k) x y e = nothing_at n k x y e

-- ---- counting

pub first_counted : (p : Parts) (n : ℕ) (all : List OwnSlots) → all ≡ replicate n none → length all ≡ length p.edges → AreCounted p 0 all
first_counted p n all is long = record {
  long = long;
  each = λ e own at.
      let same : none ≡ own = nothing_at n e none own (ap (λ (xs : List OwnSlots). slice_get xs e) (sym is) ∙ at) in
      rw (← same) (omega arith, refl);
}

module _ (p : Parts) (place : ℕ) (slot : Slot) (old new : List OwnSlots) where
  next_by : (e : ℕ) (before : OwnSlots) (b : Bool) (rest : List Slot) → eqb slot.owner e ≡ b → before.count ≤ place → counted e before (slot ∷ rest) ≡ counted e none p.slots
      → ((cond b (more before slot) before).count ≤ place + 1) × (counted e (cond b (more before slot) before) rest ≡ counted e none p.slots)
  next_by e before true rest is few same = (omega (arith, few), (let step : counted e before (slot ∷ rest) ≡ counted e (more before slot) rest = rw is refl in sym step) ∙ same)
  next_by e before false rest is few same = (omega (arith, few), (let step : counted e before (slot ∷ rest) ≡ counted e before rest = rw is refl in sym step) ∙ same)

  -- counts one more slot
  pub next_counted : slice_get p.slots place ≡ Some slot → CountsMore old slot new → AreCounted p place old → AreCounted p (place + 1) new
  next_counted here step before = record {
    long = step.long ∙ before.long;
    each = λ e own at.
        let from = step.each e own at in
        let then = before.each e from.0 from.1 in
        rw from.2 (next_by e from.0 (eqb slot.owner e) (drop (place + 1) p.slots) refl then.0 (ap (λ (xs : List Slot). counted e from.0 xs) (sym (rest_at place p.slots slot here)) ∙ then.1));
  }

-- ---- the counted values

or_assoc : (a b c : Bool) → ((a || b) || c) ≡ (a || (b || c))
or_assoc true b c = refl
or_assoc false b c = refl

or_none : (a : Bool) → a ≡ (a || false)
or_none true = refl
or_none false = refl

module _ (p : Parts) (e : ℕ) where
  abbrev IsCount : OwnSlots → OwnSlots → List ℕ → Type 0
  IsCount result own numbers = (result.count ≡ own.count + length numbers) × (result.has_paths ≡ (own.has_paths || list_any (λ s. is_paths (slot_kind p s)) numbers))

  one_counted : (slot : Slot) (slots : List Slot) (n : ℕ) (own : OwnSlots) (b : Bool) → slot_kind p n ≡ slot.kind
      → ((o : OwnSlots) → IsCount (counted e o slots) o (own_from e (n + 1) slots))
      → IsCount (counted e (cond b (more own slot) own) slots) own (cond b (n ∷ own_from e (n + 1) slots) (own_from e (n + 1) slots))
  one_counted slot slots n own true kind rest =
      let is = rest (more own slot) in
      let first : is_paths (slot_kind p n) ≡ is_paths slot.kind = ap is_paths kind in
      (omega (arith, is.0), rw first (is.1 ∙ or_assoc own.has_paths (is_paths slot.kind) _))
  one_counted slot slots n own false kind rest = rest own

  counted_is : (slots : List Slot) (n : ℕ) (own : OwnSlots) → drop n p.slots ≡ slots → IsCount (counted e own slots) own (own_from e n slots)
  counted_is [] n own is = (omega arith, or_none own.has_paths)
  counted_is (slot ∷ slots) n own is =
      one_counted slot slots n own (eqb slot.owner e) (ap kind_in (head_of_rest n p.slots slot slots is)) (λ o. counted_is slots (n + 1) o (tail_of_rest n p.slots slot slots is))

pub all_counted : (p : Parts) (place : ℕ) (all : List OwnSlots) → length p.slots ≤ place → AreCounted p place all → AreOwnSlots p all
all_counted p place all le done = record {
  long = done.long;
  each = λ e own at.
      let last : counted e own (drop place p.slots) ≡ own = rw (drop_all place p.slots le) refl in
      let is = counted_is p e p.slots 0 none refl in
      let same : own ≡ counted e none p.slots = sym last ∙ (done.each e own at).1 in
      let count : (counted e none p.slots).count ≡ 0 + length (own_slots p e) = is.0 in
      rw same (record { count = omega (arith, count); paths = is.1 });
}
