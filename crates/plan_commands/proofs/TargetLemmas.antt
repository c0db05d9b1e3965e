-- Lemmas about names, one by one: the edges of the names before, and the result for the remaining names.
use Rattle.std.proofs.Common.{Bool, true, false, Option, Some, None, suc, subst, ◌≡◌, ◌⊎◌, inl, inr, ◌<◌, ◌+◌, ℕ, ◌++◌, ◌∷◌, [], List, length, get_or, drop, map, ap, refl, sym, ◌∙◌, append_assoc, arith, Result, Ok, Err, Bor}
use Rattle.std.proofs.lemmas.Bool.{lt-leb}
use Rattle.std.proofs.lemmas.List.{drop_more}
use Rattle.std.specs.Prelude.{◌||◌, if◌then◌else◌}
use Rattle.plan_text.specs.Outcome.{each, ◌>>=◌}
use Rattle.plan_text.specs.declared.fault.TextFault.{TextFault}
use Rattle.plan_text.specs.Path.{canonical_of}
use Rattle.plan_scope.specs.Scopes.{Text}
use Rattle.plan_image.specs.declared.image.Edge.{Edge}
use Rattle.plan_image.specs.declared.image.Parts.{Parts}
use Rattle.plan_image.specs.Makers.{first_maker, makes}
use Rattle.plan_machine.specs.Wanted.{any_outside}
use Rattle.plan_printing.specs.declared.fault.PlanFault.{PlanFault}
use Rattle.plan_commands.specs.Targets.{maker, or_unknown, target, targets}

abbrev pub in_front : {B : Type 0} → List B → Result (List B) PlanFault → Result (List B) PlanFault
in_front front (Ok more) = Ok (front ++ more)
in_front front (Err e) = Err e

regroup : {B : Type 0} (front : List B) (y : B) (r : Result (List B) PlanFault) → in_front (front ++ y ∷ []) r ≡ in_front front (r >>= λ ys. Ok (y ∷ ys))
regroup front y (Ok ys) = ap (λ (v : List _). Ok v) (append_assoc front (y ∷ []) ys)
regroup front y (Err e) = refl

-- One more name has an edge.
pub one_more : {A B : Type 0} (f : A → Result B PlanFault) (front : List B) (x : A) (xs : List A) (y : B) (all : Result (List B) PlanFault) → f x ≡ Ok y
    → in_front front (each f (x ∷ xs)) ≡ all → in_front (front ++ y ∷ []) (each f xs) ≡ all
one_more f front x xs y all e so_far = regroup front y (each f xs) ∙ ap (λ r. in_front front (r >>= λ y. each f xs >>= λ ys. Ok (y ∷ ys))) (sym e) ∙ so_far

-- One name is refused.
pub one_refused : {A B : Type 0} (f : A → Result B PlanFault) (front : List B) (x : A) (xs : List A) (e memory : PlanFault) (all : Result (List B) PlanFault)
    → (e ≡ memory) ⊎ (f x ≡ Err e) → in_front front (each f (x ∷ xs)) ≡ all → (e ≡ memory) ⊎ (all ≡ Err e)
one_refused f front x xs e memory all (inl is) so_far = inl is
one_refused f front x xs e memory all (inr is) so_far = inr (sym so_far ∙ ap (λ r. in_front front (r >>= λ y. each f xs >>= λ ys. Ok (y ∷ ys))) is)

-- The names from an index on are the name at the index and the names after it.
pub names_from : (ns : List (Bor (List ℕ))) (i : ℕ) (n : Bor (List ℕ)) → i < length ns → n ≡ get_or ns i n → map {B = List ℕ} (λ m. m.now) (drop i ns) ≡ n.now ∷ map (λ m. m.now) (drop (i + 1) ns)
names_from ns i n h e = ap (map (λ m. m.now)) (drop_more ns i n h ∙ ap (λ (x : Bor (List ℕ)). x ∷ drop (i + 1) ns) (sym e))

-- ---- targets are edges of the image

inside_by : (b : Bool) (e len n : ℕ) (rest : Option ℕ) → (rest ≡ Some n → n < e + 1 + len) → (if b then Some e else rest) ≡ Some n → n < e + suc len
inside_by true e len n rest more h = let same : e ≡ n = cc in omega (arith, same)
inside_by false e len n rest more h = let m = more h in omega (arith, m)

inside_from : (p : Parts) (path : Text) (e : ℕ) (xs : List Edge) (n : ℕ) → first_maker p path e xs ≡ Some n → n < e + length xs
inside_from p path e [] n h = absurd cc
inside_from p path e (x ∷ xs) n h = inside_by (makes p path x) e (length xs) n (first_maker p path (e + 1) xs) (inside_from p path (e + 1) xs n) h

made_inside : (p : Parts) (name : Text) (r : Option ℕ) (e : ℕ) → ((n : ℕ) → r ≡ Some n → n < length p.edges) → or_unknown name r ≡ Ok e → e < length p.edges
made_inside p name (Some n) e h same = let is : n ≡ e = cc in subst (λ (k : ℕ). k < length p.edges) is (h n refl)
made_inside p name None e h same = absurd cc

maker_inside : (p : Parts) (name : Text) (path : Result (List ℕ) TextFault) (e : ℕ) → maker p name path ≡ Ok e → e < length p.edges
maker_inside p name (Ok path) e h = made_inside p name (first_maker p path 0 p.edges) e (λ n at. let more = inside_from p path 0 p.edges n at in omega (arith, more)) h
maker_inside p name (Err fault) e h = absurd cc

inside_then : (p : Parts) (r : Result ℕ PlanFault) (rest : Result (List ℕ) PlanFault) (es : List ℕ) → ((e : ℕ) → r ≡ Ok e → e < length p.edges)
    → ((more : List ℕ) → rest ≡ Ok more → any_outside p more ≡ false) → (r >>= λ y. rest >>= λ ys. Ok (y ∷ ys)) ≡ Ok es → any_outside p es ≡ false
inside_then p (Ok e) (Ok more) es one others h =
    let is : es ≡ e ∷ more = cc in
    ap (any_outside p) is ∙ ap (λ (b : Bool). b || any_outside p more) (lt-leb (length p.edges) e (one e refl)) ∙ others more refl
inside_then p (Ok e) (Err fault) es one others h = absurd cc
inside_then p (Err fault) rest es one others h = absurd cc

pub all_inside : (p : Parts) (names : List Text) (es : List ℕ) → targets p names ≡ Ok es → any_outside p es ≡ false
all_inside p [] es h = let none : es ≡ [] = cc in ap (any_outside p) none
all_inside p (name ∷ names) es h = inside_then p (target p name) (each (target p) names) es (maker_inside p name (canonical_of name)) (all_inside p names) h
