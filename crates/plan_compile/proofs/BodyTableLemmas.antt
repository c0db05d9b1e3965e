-- A table of bodies, by the set of their keys.
use Rattle.std.proofs.Common.{◌≡◌, ℕ, zero, suc, ◌+◌, Bool, true, false, List, [], ◌∷◌, ◌++◌, length, map, Some, not, cond, refl, sym, ap, subst, ◌∙◌, bytes_eq, arith}
use Rattle.std.specs.Prelude.{◌||◌, if◌then◌else◌, option_map, slice_get}
use Rattle.std.specs.List.{list_any, position_or_len}
use Rattle.std.proofs.lemmas.List.{map_push}
use Rattle.std.proofs.lemmas.Option.{slice_get-map}
use Rattle.plan_compile.specs.BodyKeys.{Body, key_of, same_body}
use Rattle.plan_compile.specs.Numbering.{has, with_item, with_items, number}
use Rattle.plan_compile.proofs.ListLemmas.{some_is}
use Rattle.plan_compile.proofs.NumberingLemmas.{Keeps, item_keeps, items_have, items_join, number_put, numbers_stay}
use Rattle.plan_compile.proofs.BodyKeyLemmas.{bodies_decide}

pub not_true : (b : Bool) → not b ≡ true → b ≡ false
not_true true e = absurd cc
not_true false e = refl

pub not_false : (b : Bool) → not b ≡ false → b ≡ true
not_false true e = refl
not_false false e = absurd cc

flip : (b : Bool) (n : ℕ) → cond (not b) (1 + n) 0 ≡ (if b then zero else suc n)
flip true n = refl
flip false n = omega arith

module _ {K : Type 0} (items : K → List ℕ) where
  -- whether two keys are equal
  abbrev pub same_key : K → K → Bool
  same_key a b = bytes_eq (items a) (items b)

  same_keys : (k : K) (ks : List K) (b : Body) (bs : List Body) → items k ≡ key_of b → map items ks ≡ map key_of bs
      → (list_any (same_key k) ks ≡ has same_body bs b) × (position_or_len (same_key k) ks ≡ number same_body b bs)
  same_keys k [] b [] is all = (refl, refl)
  same_keys k [] b (c ∷ bs) is all = absurd cc
  same_keys k (l ∷ ks) b [] is all = absurd cc
  same_keys k (l ∷ ks) b (c ∷ bs) is all =
      let first : items l ≡ key_of c = cc in
      let others : map items ks ≡ map key_of bs = cc in
      let rest = same_keys k ks b bs is others in
      let one : same_key k l ≡ same_body b c = ap (λ (x : List ℕ). bytes_eq x (items l)) is ∙ ap (λ (y : List ℕ). bytes_eq (key_of b) y) first in (
        ap (λ (e : Bool). e || list_any (same_key k) ks) one ∙ ap (λ (e : Bool). same_body b c || e) rest.0,
        flip (same_key k l) (position_or_len (same_key k) ks) ∙ ap (λ (e : Bool). if e then zero else suc (position_or_len (same_key k) ks)) one
            ∙ ap (λ (n : ℕ). if same_body b c then zero else suc n) rest.1,
      )

  pub there : (k : K) (ks : List K) (b : Body) (bs : List Body) → items k ≡ key_of b → map items ks ≡ map key_of bs → list_any (same_key k) ks ≡ has same_body bs b
  there k ks b bs is all = (same_keys k ks b bs is all).0

  pub place : (k : K) (ks : List K) (b : Body) (bs : List Body) → items k ≡ key_of b → map items ks ≡ map key_of bs → position_or_len (same_key k) ks ≡ number same_body b (with_item same_body bs b)
  place k ks b bs is all = (same_keys k ks b bs is all).1 ∙ number_put same_body bodies_decide bs b

-- a new body is appended, and one that is there changes nothing
pub is_last : (bs : List Body) (b : Body) → has same_body bs b ≡ false → bs ++ b ∷ [] ≡ with_item same_body bs b
is_last bs b h = ap (λ (e : Bool). if e then bs else bs ++ b ∷ []) (sym h)

pub is_there : (bs : List Body) (b : Body) → has same_body bs b ≡ true → bs ≡ with_item same_body bs b
is_there bs b h = ap (λ (e : Bool). if e then bs else bs ++ b ∷ []) (sym h)

-- ---- bodies of another table

at_end : {A : Type 0} (xs ys : List A) (x : A) → slice_get (xs ++ x ∷ ys) (length xs) ≡ Some x
at_end [] ys x = refl
at_end (z ∷ xs) ys x = at_end xs ys x

module _ {K : Type 0} (items : K → List ℕ) where
  -- the key at the place of the next body is that of this body
  pub key_here : (keys : List K) (bodies done rest : List Body) (body : Body) (k : K) → map items keys ≡ map key_of bodies → done ++ body ∷ rest ≡ bodies → slice_get keys (length done) ≡ Some k
      → items k ≡ key_of body
  key_here keys bodies done rest body k all split at =
      some_is (items k) (key_of body)
      (sym (slice_get-map items keys (length done) ∙ ap (option_map items) at)
      ∙ ap (λ (ks : List (List ℕ)). slice_get ks (length done)) all
      ∙ slice_get-map key_of bodies (length done)
      ∙ ap (option_map key_of) (ap (λ (bs : List Body). slice_get bs (length done)) (sym split) ∙ at_end done rest body))

-- the numbers of bodies, after one more was put
pub numbers_put : (start old new done : List Body) (body : Body) (numbers more : List ℕ) (n : ℕ) → old ≡ with_items same_body start done → numbers ≡ map (λ b. number same_body b old) done
    → new ≡ with_item same_body old body → n ≡ number same_body body new → more ≡ numbers ++ n ∷ [] → more ≡ map (λ b. number same_body b new) (done ++ body ∷ [])
numbers_put start old new done body numbers more n was are put is pushed =
    let kept : Keeps same_body bodies_decide old new = subst (λ (bs : List Body). Keeps same_body bodies_decide old bs) (sym put) (item_keeps same_body bodies_decide old body) in
    let there : (k : ℕ) (b : Body) → slice_get done k ≡ Some b → has same_body old b ≡ true =
    λ k b at. subst (λ (bs : List Body). has same_body bs b ≡ true) (sym was) (items_have same_body bodies_decide start done k b at) in
    pushed
    ∙ ap (λ (ns : List ℕ). ns ++ n ∷ []) (are ∙ numbers_stay same_body bodies_decide old new kept done there)
    ∙ ap (λ (m : ℕ). map (λ b. number same_body b new) done ++ m ∷ []) is
    ∙ sym (map_push (λ b. number same_body b new) done body)

-- the bodies, after one more was put
pub bodies_put : (start old new done : List Body) (body : Body) → old ≡ with_items same_body start done → new ≡ with_item same_body old body → new ≡ with_items same_body start (done ++ body ∷ [])
bodies_put start old new done body was put =
    put ∙ ap (λ (bs : List Body). with_item same_body bs body) was ∙ sym (items_join same_body bodies_decide start done (body ∷ []))
