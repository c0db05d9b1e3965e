-- Items that are read one after another are read as they were written, and everything that is written can be
-- read.
use Rattle.std.proofs.Common.{◌≡◌, ℕ, zero, suc, ◌<◌, List, [], ◌∷◌, ◌++◌, length, get_or, Result, Ok, Err, refl, sym, ap, subst, ◌∙◌, append_assoc}
use Rattle.std.specs.List.{flat_map}
use Rattle.std.proofs.lemmas.List.Concat.{flat_map-cons}
use Rattle.plan_image.specs.declared.reading.stop.Stop.{Stop}
use Rattle.plan_image.specs.Reading.{◌>>=◌, Read, items_at}

abbrev pub IsBytes : List ℕ → Type 0
IsBytes bytes = (i : ℕ) → get_or bytes i 0 < 256

-- the bytes that a reader took from the front
pub record Takes (bytes text rest : List ℕ) : Type 0 where
  pub parts : bytes ≡ text ++ rest
  pub rest_fits : IsBytes rest

pub Takes-then : (a x b y c : List ℕ) → Takes a x b → Takes b y c → Takes a (x ++ y) c
Takes-then a x b y c p q = record { parts = p.parts ∙ ap (λ (t : List ℕ). x ++ t) q.parts ∙ sym (append_assoc x y c); rest_fits = q.rest_fits }

pub bind_ok : {A B : Type 0} (r : Result A Stop) (f : A → Result B Stop) (y : B) → (r >>= f) ≡ Ok y → (x : A) × (r ≡ Ok x) × (f x ≡ Ok y)
bind_ok (Ok x) f y e = (x, refl, e)
bind_ok (Err d) f y e = absurd cc

abbrev done : {A : Type 0} → A → Result A Stop
done x = Ok x

pub ok_is : {A : Type 0} (x y : A) → done x ≡ done y → x ≡ y
ok_is x y e = cc

module _ {S X : Type 0} (item : S → List ℕ → Read X) (next : S → X → S) (spell : X → List ℕ) (Fits : S → X → Type 0) where
  -- each item fits the state that the items before it lead to
  abbrev pub AllFrom : S → List X → Type 0
  AllFrom s [] = Unit {0}
  AllFrom s (x ∷ xs) = Fits s x × AllFrom (next s x) xs

  pub items_take : ((s : S) (bytes : List ℕ) (x : X × List ℕ) → IsBytes bytes → item s bytes ≡ Ok x → Takes bytes (spell x.0) x.1 × Fits s x.0)
      → (n : ℕ) (s : S) (bytes : List ℕ) (x : List X × List ℕ) → IsBytes bytes → items_at item next s n bytes ≡ Ok x → Takes bytes (flat_map spell x.0) x.1 × (length x.0 ≡ n) × AllFrom s x.0
  unfolding items_at
  items_take one zero s bytes x fits e =
      subst (λ (y : List X × List ℕ). Takes bytes (flat_map spell y.0) y.1 × (length y.0 ≡ 0) × AllFrom s y.0) (ok_is ([], bytes) x e) (record { parts = refl; rest_fits = fits }, refl, tt)
  items_take one (suc n) s bytes x fits e =
      let a = bind_ok (item s bytes) (λ first. items_at item next (next s first.0) n first.1 >>= λ others. Ok (first.0 ∷ others.0, others.1)) x e in
      let b = bind_ok (items_at item next (next s a.0.0) n a.0.1) (λ others. Ok (a.0.0 ∷ others.0, others.1)) x a.2 in
      let first = one s bytes a.0 fits a.1 in
      let second = items_take one n (next s a.0.0) a.0.1 b.0 first.0.rest_fits b.1 in
      let both = Takes-then bytes (spell a.0.0) a.0.1 (flat_map spell b.0.0) b.0.1 first.0 second.0 in
      let made : List X × List ℕ = (a.0.0 ∷ b.0.0, b.0.1) in
      subst (λ (y : List X × List ℕ). Takes bytes (flat_map spell y.0) y.1 × (length y.0 ≡ suc n) × AllFrom s y.0) (ok_is made x b.2) (rw flat_map-cons both, ap suc second.1, (first.1, second.2))

  pub items_again : ((s : S) (x : X) (rest : List ℕ) → Fits s x → item s (spell x ++ rest) ≡ Ok (x, rest)) → (xs : List X) (s : S) (rest : List ℕ) → AllFrom s xs
      → items_at item next s (length xs) (flat_map spell xs ++ rest) ≡ Ok (xs, rest)
  unfolding items_at
  items_again one [] s rest fits = refl
  items_again one (x ∷ xs) s rest fits =
      let regrouped : flat_map spell (x ∷ xs) ++ rest ≡ spell x ++ (flat_map spell xs ++ rest) = ap (λ (t : List ℕ). t ++ rest) (flat_map-cons spell x xs) ∙ append_assoc (spell x) (flat_map spell xs) rest in
      ap (items_at item next s (suc (length xs))) regrouped ∙ rw (one s x (flat_map spell xs ++ rest) fits.0, items_again one xs (next s x) rest fits.1) refl
