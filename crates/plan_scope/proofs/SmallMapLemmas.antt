-- The bindings that a small map shows of its map. Used for src/scope/small_map.rt.
use Rattle.std.proofs.Common.{◌≡◌, ◌+◌, ◌<◌, ℕ, true, false, List, [], ◌∷◌, ◌++◌, length, take, get_or, Option, Some, None, refl, ap, sym, ◌∙◌, bytes_eq, cond, if◌then◌else◌, option_map, Bor}
use Rattle.std.specs.Map.{lookup}
use Rattle.std.proofs.lemmas.Slice.Eq.{bytes_eq-Decides}
use Rattle.std.proofs.lemmas.Bool.Decides.{same_from_decides}
use Rattle.std.proofs.lemmas.List.{map_more}
use Rattle.plan_scope.specs.Scopes.{Name, Bindings, last_of, or_else}
use Rattle.plan_scope.specs.Kept.{few_bindings, map_bindings}

-- Equality of texts is symmetric.
pub bytes_eq_sym : (a b : List ℕ) → bytes_eq a b ≡ bytes_eq b a
bytes_eq_sym a b =
    let there = bytes_eq-Decides b a in
    same_from_decides (bytes_eq a b) (bytes_eq b a) (bytes_eq-Decides a b) (λ e. sym (there.0 e), λ e. there.1 (sym e))

-- The last value of a name, with one more binding.
pub last_of_push : {V : Type 0} (n : Name) (bs : Bindings V) (b : List ℕ × V) → last_of n (bs ++ b ∷ []) ≡ cond (bytes_eq b.0 n) (Some b.1) (last_of n bs)
last_of_push n [] b = refl
last_of_push {V} n (x ∷ xs) b =
    let front : Option V = if bytes_eq x.0 n then Some x.1 else None in
    ap (λ o. or_else o front) (last_of_push n xs b)
    ∙ elim (bytes_eq b.0 n) as (λ t. or_else (cond t (Some b.1) (last_of n xs)) front ≡ cond t (Some b.1) (or_else (last_of n xs) front)) [ true ↦ refl | false ↦ refl ]

-- A lookup in the map gives the last value of a name.
pub last_of_shown : {V : Type 0} (n : Name) (es : List (Bor (List ℕ) × V)) → last_of n (map_bindings es) ≡ lookup (λ k. bytes_eq n k.now) es
last_of_shown n [] = refl
last_of_shown {V} n (e ∷ es) =
    last_of_push n (map_bindings es) (e.0.now, e.1)
    ∙ (ap (λ t. cond t (Some e.1) (last_of n (map_bindings es))) (bytes_eq_sym e.0.now n)
    ∙ ap (λ (o : Option V). cond (bytes_eq n e.0.now) (Some e.1) o) (last_of_shown n es))

none_in_front : {V : Type 0} (o : Option V) → o ≡ or_else o None
none_in_front None = refl
none_in_front (Some v) = refl

or_else_or : {V : Type 0} (a b c : Option V) → or_else (or_else a b) c ≡ or_else a (or_else b c)
or_else_or None b c = refl
or_else_or (Some v) b c = refl

-- Bindings after others.
pub last_of_both : {V : Type 0} (n : Name) (xs ys : Bindings V) → last_of n (xs ++ ys) ≡ or_else (last_of n ys) (last_of n xs)
last_of_both n [] ys = none_in_front (last_of n ys)
last_of_both {V} n (x ∷ xs) ys =
    let front : Option V = if bytes_eq x.0 n then Some x.1 else None in
    ap (λ o. or_else o front) (last_of_both n xs ys) ∙ or_else_or (last_of n ys) (last_of n xs) front

-- One more entry of the list of first values.
pub listed_taken : {V : Type 0} (n : Name) (es : List (Bor (List ℕ) × V)) (i : ℕ) (e : Bor (List ℕ) × V) → i < length es → e ≡ get_or es i e
    → last_of n (few_bindings (take (i + 1) es)) ≡ cond (bytes_eq e.0.now n) (Some e.1) (last_of n (few_bindings (take i es)))
listed_taken {V} n es i e lt is =
    let entry : Bor (List ℕ) × V → List ℕ × V = λ x. (x.0.now, x.1) in
    ap (last_of n) (map_more entry es i e lt ∙ ap (λ (x : Bor (List ℕ) × V). few_bindings (take i es) ++ (x.0.now, x.1) ∷ []) (sym is))
    ∙ last_of_push n (few_bindings (take i es)) (e.0.now, e.1)

-- After a name was bound again.
set_shown : {V : Type 0} (es fs : List (Bor (List ℕ) × V)) (name : Bor (List ℕ)) (value : V)
    → ((q : Bor (List ℕ)) → lookup (λ k. bytes_eq q.now k.now) fs ≡ cond (bytes_eq name.now q.now) (Some value) (lookup (λ k. bytes_eq q.now k.now) es))
    → (n : Name) → last_of n (map_bindings fs) ≡ last_of n (map_bindings es ++ (name.now, value) ∷ [])
set_shown {V} es fs name value h n =
    last_of_shown n fs ∙ (h (record name { now = n })
    ∙ (ap (λ (o : Option V). cond (bytes_eq name.now n) (Some value) o) (sym (last_of_shown n es))
    ∙ sym (last_of_push n (map_bindings es) (name.now, value))))

-- The same after the list of first values.
pub set_more : {V : Type 0} (few es fs : List (Bor (List ℕ) × V)) (name : Bor (List ℕ)) (value : V)
    → ((q : Bor (List ℕ)) → lookup (λ k. bytes_eq q.now k.now) fs ≡ cond (bytes_eq name.now q.now) (Some value) (lookup (λ k. bytes_eq q.now k.now) es))
    → (n : Name) → last_of n (few_bindings few ++ map_bindings fs) ≡ last_of n ((few_bindings few ++ map_bindings es) ++ (name.now, value) ∷ [])
set_more {V} few es fs name value h n =
    let front : Option V = last_of n (few_bindings few) in
    let old : Option V = last_of n (map_bindings es) in
    last_of_both n (few_bindings few) (map_bindings fs)
    ∙ (ap (λ o. or_else o front) (set_shown es fs name value h n ∙ last_of_push n (map_bindings es) (name.now, value))
    ∙ (elim (bytes_eq name.now n) as (λ t. or_else (cond t (Some value) old) front ≡ cond t (Some value) (or_else old front)) [ true ↦ refl | false ↦ refl ]
    ∙ (ap (λ (o : Option V). cond (bytes_eq name.now n) (Some value) o) (sym (last_of_both n (few_bindings few) (map_bindings es)))
    ∙ sym (last_of_push n (few_bindings few ++ map_bindings es) (name.now, value)))))

-- Bindings that agree under a function agree with one more binding.
pub pushed : {V W : Type 0} (f : V → W) (n : Name) (stored : Bindings V) (meant : Bindings W) (name other : Name) (v : V) (w : W)
    → name ≡ other → f v ≡ w → option_map f (last_of n stored) ≡ last_of n meant
    → option_map f (last_of n (stored ++ (name, v) ∷ [])) ≡ last_of n (meant ++ (other, w) ∷ [])
pushed {V} {W} f n stored meant name other v w e g h =
    ap (option_map f) (last_of_push n stored (name, v))
    ∙ (elim (bytes_eq name n) as (λ t. option_map f (cond t (Some v) (last_of n stored)) ≡ cond t (Some w) (last_of n meant)) [ true ↦ ap (λ (x : W). Some x) g | false ↦ h ]
    ∙ (ap (λ (k : Name). cond (bytes_eq k n) (Some w) (last_of n meant)) e
    ∙ sym (last_of_push n meant (other, w))))

-- The same with a function for each side.
pub pushed_both : {V W X : Type 0} (f : V → X) (g : W → X) (n : Name) (stored : Bindings V) (meant : Bindings W) (name other : Name) (v : V) (w : W)
    → name ≡ other → f v ≡ g w → option_map f (last_of n stored) ≡ option_map g (last_of n meant)
    → option_map f (last_of n (stored ++ (name, v) ∷ [])) ≡ option_map g (last_of n (meant ++ (other, w) ∷ []))
pushed_both {V} {W} {X} f g n stored meant name other v w e k h =
    ap (option_map f) (last_of_push n stored (name, v))
    ∙ (elim (bytes_eq name n) as (λ t. option_map f (cond t (Some v) (last_of n stored)) ≡ option_map g (cond t (Some w) (last_of n meant))) [ true ↦ ap (λ (x : X). Some x) k | false ↦ h ]
    ∙ (ap (λ (k : Name). option_map g (cond (bytes_eq k n) (Some w) (last_of n meant))) e
    ∙ ap (option_map g) (sym (last_of_push n meant (other, w)))))
