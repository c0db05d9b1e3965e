-- An item's number leads to it, and no item is repeated.
use Rattle.std.proofs.Common.{◌≡◌, ℕ, zero, suc, Bool, true, false, List, [], ◌∷◌, ◌++◌, map, Some, refl, sym, ap, subst, ◌∙◌}
use Rattle.std.specs.Prelude.{◌||◌, slice_get, if◌then◌else◌, bytes_eq}
use Rattle.std.proofs.lemmas.Slice.Eq.{bytes_eq-Decides}
use Rattle.plan_compile.specs.Numbering.{has, with_item, with_items, once, number}
use Rattle.plan_compile.proofs.ListLemmas.{or_left, or_right}

-- `same` decides equality
pub record Decides {A : Type 0} (same : A → A → Bool) : Type 0 where
  pub tells : (x y : A) → same x y ≡ true → x ≡ y
  pub self : (x : A) → same x x ≡ true

pub texts_decide : Decides bytes_eq
texts_decide = record { tells = λ a b e. (bytes_eq-Decides a b).0 e; self = λ a. (bytes_eq-Decides a a).1 refl }

module _ {A : Type 0} (same : A → A → Bool) (decides : Decides same) where
  -- ---- the number leads to the item

  pub leads : (x : A) (ys : List A) → has same ys x ≡ true → slice_get ys (number same x ys) ≡ Some x
  leads x [] h = absurd cc
  leads x (y ∷ ys) h =
      elim (same x y) as (λ b. same x y ≡ b → (b || has same ys x) ≡ true → slice_get (y ∷ ys) (if b then zero else suc (number same x ys)) ≡ Some x)
      [ true ↦ λ e g. ap (λ (z : A). Some z) (sym (decides.tells x y e)) | false ↦ λ e g. leads x ys g ] refl h

  -- ---- appended items

  pub has_front : (xs ys : List A) (x : A) → has same xs x ≡ true → has same (xs ++ ys) x ≡ true
  has_front [] ys x h = absurd cc
  has_front (z ∷ xs) ys x h =
      elim (same x z) as (λ b. (b || has same xs x) ≡ true → (b || has same (xs ++ ys) x) ≡ true) [ true ↦ λ g. refl | false ↦ λ g. has_front xs ys x g ] h

  pub has_last : (xs : List A) (x : A) → has same (xs ++ x ∷ []) x ≡ true
  has_last [] x = or_left (same x x) false (decides.self x)
  has_last (z ∷ xs) x = or_right (same x z) (has same (xs ++ x ∷ []) x) (has_last xs x)

  pub number_front : (xs ys : List A) (x : A) → has same xs x ≡ true → number same x (xs ++ ys) ≡ number same x xs
  number_front [] ys x h = absurd cc
  number_front (z ∷ xs) ys x h =
      elim (same x z) as (λ b. (b || has same xs x) ≡ true → (if b then zero else suc (number same x (xs ++ ys))) ≡ (if b then zero else suc (number same x xs)))
      [ true ↦ λ g. refl | false ↦ λ g. ap suc (number_front xs ys x g) ] h

  -- the properties of a list to which items are added
  pub record IsKept (xs ys : List A) (x : A) : Type 0 where
    pub there : has same ys x ≡ true
    pub stays : number same x ys ≡ number same x xs

  abbrev pub Keeps : List A → List A → Type 0
  Keeps xs ys = (x : A) → has same xs x ≡ true → IsKept xs ys x

  pub keeps_self : (xs : List A) → Keeps xs xs
  keeps_self xs x h = record { there = h; stays = refl }

  pub keeps_more : (xs ys zs : List A) → Keeps xs ys → Keeps ys zs → Keeps xs zs
  keeps_more xs ys zs h k x m =
      let a : IsKept xs ys x = h x m in
      let b : IsKept ys zs x = k x a.there in
      record { there = b.there; stays = b.stays ∙ a.stays }

  pub item_keeps : (xs : List A) (y : A) → Keeps xs (with_item same xs y)
  item_keeps xs y =
      elim (has same xs y) as (λ b. Keeps xs (if b then xs else xs ++ y ∷ []))
      [ true ↦ keeps_self xs | false ↦ λ x h. record { there = has_front xs (y ∷ []) x h; stays = number_front xs (y ∷ []) x h } ]

  pub item_has : (xs : List A) (y : A) → has same (with_item same xs y) y ≡ true
  item_has xs y = elim (has same xs y) as (λ b. has same xs y ≡ b → has same (if b then xs else xs ++ y ∷ []) y ≡ true) [ true ↦ λ e. e | false ↦ λ e. has_last xs y ] refl

  pub items_keep : (xs ys : List A) → Keeps xs (with_items same xs ys)
  items_keep xs [] = keeps_self xs
  items_keep xs (y ∷ ys) = keeps_more xs (with_item same xs y) (with_items same (with_item same xs y) ys) (item_keeps xs y) (items_keep (with_item same xs y) ys)

  pub items_have : (xs ys : List A) (k : ℕ) (y : A) → slice_get ys k ≡ Some y → has same (with_items same xs ys) y ≡ true
  items_have xs [] k y h = absurd cc
  items_have xs (z ∷ ys) zero y h =
      let is : z ≡ y = cc in
      (items_keep (with_item same xs z) ys y (subst (λ (x : A). has same (with_item same xs z) x ≡ true) is (item_has xs z))).there
  items_have xs (z ∷ ys) (suc k) y h = items_have (with_item same xs z) ys k y h

  -- each of the items is found by its number
  pub found : (ys : List A) (k : ℕ) (y : A) → slice_get ys k ≡ Some y → slice_get (once same ys) (number same y (once same ys)) ≡ Some y
  found ys k y h = leads y (once same ys) (items_have [] ys k y h)

  -- ---- going on in parts

  pub items_join : (xs ys zs : List A) → with_items same xs (ys ++ zs) ≡ with_items same (with_items same xs ys) zs
  items_join xs [] zs = refl
  items_join xs (y ∷ ys) zs = items_join (with_item same xs y) ys zs

  -- ---- an item keeps its number when it is put

  number_last : (xs : List A) (x : A) → number same x (xs ++ x ∷ []) ≡ number same x xs
  number_last [] x = ap (λ (b : Bool). if b then zero else suc zero) (decides.self x)
  number_last (y ∷ xs) x =
      elim (same x y) as (λ b. (if b then zero else suc (number same x (xs ++ x ∷ []))) ≡ (if b then zero else suc (number same x xs))) [ true ↦ refl | false ↦ ap suc (number_last xs x) ]

  pub number_put : (xs : List A) (x : A) → number same x xs ≡ number same x (with_item same xs x)
  number_put xs x = elim (has same xs x) as (λ b. number same x xs ≡ number same x (if b then xs else xs ++ x ∷ [])) [ true ↦ refl | false ↦ sym (number_last xs x) ]

  -- ---- items without repetitions

  -- an item that is there changes nothing
  item_there : (xs : List A) (y : A) → has same xs y ≡ true → xs ≡ with_item same xs y
  item_there xs y h = ap (λ (b : Bool). if b then xs else xs ++ y ∷ []) (sym h)

  -- items, and one more after them
  items_item : (xs ys : List A) (y : A) → with_items same xs (with_item same ys y) ≡ with_item same (with_items same xs ys) y
  items_item xs ys y =
      elim (has same ys y) as (λ b. has same ys y ≡ b → with_items same xs (if b then ys else ys ++ y ∷ []) ≡ with_item same (with_items same xs ys) y) [
        | true ↦ λ h. item_there (with_items same xs ys) y (items_have xs ys (number same y ys) y (leads y ys h))
        | false ↦ λ h. items_join xs ys (y ∷ [])
      ] refl

  -- items without repetitions are added as the items themselves
  items_again : (xs ys zs : List A) → with_items same xs (with_items same ys zs) ≡ with_items same (with_items same xs ys) zs
  items_again xs ys [] = refl
  items_again xs ys (z ∷ zs) = items_again xs (with_item same ys z) zs ∙ ap (λ (us : List A). with_items same us zs) (items_item xs ys z)

  pub items_once : (xs ys : List A) → with_items same xs (once same ys) ≡ with_items same xs ys
  items_once xs ys = items_again xs [] ys

  -- items keep their numbers when more are added
  pub numbers_stay : (xs ys : List A) → Keeps xs ys → (zs : List A) → ((k : ℕ) (z : A) → slice_get zs k ≡ Some z → has same xs z ≡ true)
      → map (λ z. number same z xs) zs ≡ map (λ z. number same z ys) zs
  numbers_stay xs ys kept [] there = refl
  numbers_stay xs ys kept (z ∷ zs) there =
      ap (λ (n : ℕ). n ∷ map (λ y. number same y xs) zs) (sym (kept z (there zero z refl)).stays)
      ∙ ap (λ (ns : List ℕ). number same z ys ∷ ns) (numbers_stay xs ys kept zs (λ k y h. there (suc k) y h))
