-- The texts of a table, by its set.
use Rattle.std.proofs.Common.{◌≡◌, ℕ, zero, suc, Bool, true, false, List, [], ◌∷◌, ◌++◌, length, refl, sym, ap, ◌∙◌, bytes_eq, map, arith, length-append, ◌+◌, ◌≤◌}
use Rattle.std.specs.Prelude.{◌||◌, if◌then◌else◌}
use Rattle.std.specs.List.{list_any, position_or_len}
use Rattle.std.proofs.lemmas.List.Recursion.{is_position_or_len}
use Rattle.indexmap.specs.IndexSet.{insert_key}
use Rattle.plan_compile.specs.declared.text_key.HeldKey.{HeldKey}
use Rattle.plan_compile.specs.Names.{Text, text_number}
use Rattle.plan_compile.specs.Numbering.{has, with_item}
use Rattle.plan_compile.proofs.NumberingLemmas.{number_put, texts_decide}

abbrev pub same_key : HeldKey → HeldKey → Bool
same_key a b = bytes_eq a.text b.text

abbrev pub shown : List HeldKey → List Text
shown ks = map (λ k. k.text) ks

pub any_shown : (t : HeldKey) (ks : List HeldKey) → list_any (same_key t) ks ≡ has bytes_eq (shown ks) t.text
any_shown t [] = refl
any_shown t (k ∷ ks) = ap (λ (b : Bool). bytes_eq t.text k.text || b) (any_shown t ks)

pub shown_more : (ks : List HeldKey) (t : HeldKey) → shown (ks ++ t ∷ []) ≡ shown ks ++ t.text ∷ []
shown_more [] t = refl
shown_more (k ∷ ks) t = ap (λ (us : List Text). k.text ∷ us) (shown_more ks t)

pub shown_if : (b : Bool) (ks : List HeldKey) (t : HeldKey) → shown (if b then ks else ks ++ t ∷ []) ≡ (if b then shown ks else shown ks ++ t.text ∷ [])
shown_if true ks t = refl
shown_if false ks t = shown_more ks t

pub shown_insert : (ks : List HeldKey) (t : HeldKey) → shown (insert_key same_key ks t) ≡ with_item bytes_eq (shown ks) t.text
shown_insert ks t =
    shown_if (list_any (same_key t) ks) ks t ∙ ap (λ (b : Bool). if b then shown ks else shown ks ++ t.text ∷ []) (any_shown t ks)

pub number_shown : (t : HeldKey) (ks : List HeldKey) → position_or_len (same_key t) ks ≡ text_number (shown ks) t.text
number_shown t ks =
    sym (is_position_or_len (λ us. text_number (shown us) t.text) (same_key t) refl
    (λ x xs. let more : suc (text_number (shown xs) t.text) ≡ 1 + text_number (shown xs) t.text = omega arith in ap (λ (n : ℕ). if bytes_eq t.text x.text then 0 else n) more) ks)

-- the index of a text after it is added
pub number_put_shown : (t : HeldKey) (ks : List HeldKey) → position_or_len (same_key t) ks ≡ text_number (with_item bytes_eq (shown ks) t.text) t.text
number_put_shown t ks = number_shown t ks ∙ number_put bytes_eq texts_decide (shown ks) t.text

pub number_most : (us : List Text) (t : Text) → text_number us t ≤ length us
number_most [] t = omega arith
number_most (u ∷ us) t =
    elim (bytes_eq t u) as (λ b. (if b then zero else suc (text_number us t)) ≤ suc (length us)) [ true ↦ omega arith | false ↦ let h : text_number us t ≤ length us = number_most us t in omega (arith, h) ]

-- one more item
pub item_more : {A : Type 0} (same : A → A → Bool) (us : List A) (t : A) → length (with_item same us t) ≤ length us + 1
item_more same us t = by_test (has same us t)
  where
    by_test : (b : Bool) → length (if b then us else us ++ t ∷ []) ≤ length us + 1
    by_test true = omega arith
    by_test false = let long : length (us ++ t ∷ []) ≡ length us + 1 = length-append us (t ∷ []) in omega (arith, long)
