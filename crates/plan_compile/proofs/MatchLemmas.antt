-- A body that is already in the table.
use Rattle.std.proofs.Common.{◌≡◌, ◌↔◌, ℕ, zero, suc, Bool, true, false, List, [], ◌∷◌, ◌++◌, map, Option, Some, None, refl, sym, ap, ◌∙◌}
use Rattle.std.specs.List.{AllByRecursion, IsDistinct}
use Rattle.std.specs.Prelude.{bytes_eq, slice_get, option_map, if◌then◌else◌}
use Rattle.std.proofs.lemmas.Option.{slice_get-map}
use Rattle.std.proofs.lemmas.Slice.Eq.{bytes_eq-Decides}
use Rattle.plan_image.specs.declared.body.Instr.{Instr}
use Rattle.plan_image.specs.Bodies.{body_of}
use Rattle.plan_compile.specs.BodyKeys.{Body, body_at, key_of, same_body}
use Rattle.plan_compile.specs.Numbering.{has, number, with_item}
use Rattle.plan_compile.proofs.BodyKeyLemmas.{bodies_decide, body_back}
use Rattle.plan_compile.proofs.BodyTableLemmas.{same_key}
use Rattle.plan_compile.proofs.ListLemmas.{or_left, or_right, some_is}

module _ {K : Type 0} (items : K → List ℕ) where
  pub key_there : (keys : List K) (bodies : List Body) (n : ℕ) (k : K) (code : List Instr) → map items keys ≡ map key_of bodies → slice_get keys n ≡ Some k
      → (items k ≡ key_of (body_of code)) ↔ (slice_get bodies n ≡ Some (body_of code))
  key_there keys bodies n k code all at =
      let keyed : option_map key_of (slice_get bodies n) ≡ Some (items k) =
      sym (slice_get-map key_of bodies n) ∙ ap (λ (ks : List (List ℕ)). slice_get ks n) (sym all) ∙ slice_get-map items keys n ∙ ap (option_map items) at in
      by_body (slice_get bodies n) keyed
    where
      by_body : (o : Option Body) → option_map key_of o ≡ Some (items k) → (items k ≡ key_of (body_of code)) ↔ (o ≡ Some (body_of code))
      by_body None h = absurd cc
      by_body (Some b) h =
          let is : key_of b ≡ items k = some_is (key_of b) (items k) h in
          (λ e. ap (λ (x : Body). Some x) (sym (body_back b) ∙ ap body_at (is ∙ e) ∙ body_back (body_of code)), λ e. sym is ∙ ap key_of (some_is b (body_of code) e))

  pub none_there : (keys : List K) (bodies : List Body) (n : ℕ) (b : Body) → map items keys ≡ map key_of bodies → slice_get keys n ≡ None → slice_get bodies n ≡ Some b → ⊥
  none_there keys bodies n b all at h =
      let keyed : option_map key_of (slice_get bodies n) ≡ None =
      sym (slice_get-map key_of bodies n) ∙ ap (λ (ks : List (List ℕ)). slice_get ks n) (sym all) ∙ slice_get-map items keys n ∙ ap (option_map items) at in
      let other : Some (key_of b) ≡ None = ap (option_map key_of) (sym h) ∙ keyed in
      absurd cc

has_there : (bodies : List Body) (n : ℕ) (b : Body) → slice_get bodies n ≡ Some b → has same_body bodies b ≡ true
has_there [] n b h = absurd cc
has_there (c ∷ bodies) zero b h = or_left (same_body b c) (has same_body bodies b) (ap (λ (x : Body). same_body b x) (some_is c b h) ∙ bodies_decide.self b)
has_there (c ∷ bodies) (suc n) b h = or_right (same_body b c) (has same_body bodies b) (has_there bodies n b h)

-- a body that is in the table isn't added again
pub stays : (bodies : List Body) (n : ℕ) (b : Body) → slice_get bodies n ≡ Some b → bodies ≡ with_item same_body bodies b
stays bodies n b h = ap (λ (t : Bool). if t then bodies else bodies ++ b ∷ []) (sym (has_there bodies n b h))

off : (t : Bool) → (t ≡ true → ⊥) → t ≡ false
off true h = absurd (h refl)
off false h = refl

-- a body that is in the table has the number of its place, because no key is repeated
module _ {K : Type 0} (items : K → List ℕ) where
  apart : (k : K) (keys : List K) (bodies : List Body) (n : ℕ) (b : Body) → AllByRecursion (λ l. same_key items k l ≡ false) keys → map items keys ≡ map key_of bodies
      → slice_get bodies n ≡ Some b → bytes_eq (items k) (key_of b) ≡ false
  apart k keys [] n b others all at = absurd cc
  apart k [] (c ∷ bodies) n b others all at = absurd cc
  apart k (l ∷ keys) (c ∷ bodies) zero b others all at =
      let first : items l ≡ key_of c = cc in
      ap (λ (ns : List ℕ). bytes_eq (items k) ns) (sym (first ∙ ap key_of (some_is c b at))) ∙ others.0
  apart k (l ∷ keys) (c ∷ bodies) (suc n) b others all at =
      let rest : map items keys ≡ map key_of bodies = cc in
      apart k keys bodies n b others.1 rest at

  pub first_place : (keys : List K) (bodies : List Body) (n : ℕ) (b : Body) → IsDistinct (same_key items) keys → map items keys ≡ map key_of bodies
      → slice_get bodies n ≡ Some b → n ≡ number same_body b bodies
  unfolding IsDistinct
  first_place keys [] n b distinct all at = absurd cc
  first_place [] (c ∷ bodies) n b distinct all at = absurd cc
  first_place (k ∷ keys) (c ∷ bodies) zero b distinct all at =
      ap (λ (t : Bool). if t then zero else suc (number same_body b bodies)) (sym (ap (λ (x : Body). same_body b x) (some_is c b at) ∙ bodies_decide.self b))
  first_place (k ∷ keys) (c ∷ bodies) (suc n) b distinct all at =
      let first : items k ≡ key_of c = cc in
      let rest : map items keys ≡ map key_of bodies = cc in
      let other : bytes_eq (items k) (key_of b) ≡ false = apart k keys bodies n b distinct.0 rest at in
      let same : same_body b c ≡ true → bytes_eq (items k) (key_of b) ≡ true =
      λ t. (bytes_eq-Decides (items k) (key_of b)).1 (first ∙ ap key_of (sym (bodies_decide.tells b c t))) in
      let differs : same_body b c ≡ false = off (same_body b c) (λ t. let e : bytes_eq (items k) (key_of b) ≡ true = same t in absurd cc) in
      ap suc (first_place keys bodies n b distinct.1 rest at) ∙ ap (λ (t : Bool). if t then zero else suc (number same_body b bodies)) (sym differs)
