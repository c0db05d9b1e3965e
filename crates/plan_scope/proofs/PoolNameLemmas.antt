-- Names in a set. Used for src/edge/pool_names.rt.
use Rattle.std.proofs.Common.{◌≡◌, Bool, true, false, ◌||◌, [], ◌∷◌, ◌++◌, map, Option, Some, None, refl, ap, sym, ◌∙◌, bytes_eq, cond, option_map}
use Rattle.std.specs.Prelude.{is_some}
use Rattle.std.proofs.lemmas.List.{map-append}
use Rattle.plan_scope.specs.Scopes.{Name, Bindings, last_of, or_else}
use Rattle.plan_scope.specs.Edges.{is_among}
use Rattle.plan_scope.proofs.SmallMapLemmas.{bytes_eq_sym}

known_by : {V : Type 0} (t : Bool) (o : Option V) (v : V) (x : Bool) → x ≡ is_some o → (t || x) ≡ is_some (or_else o (cond t (Some v) None))
known_by true None v x e = refl
known_by true (Some w) v x e = refl
known_by false None v x e = e
known_by false (Some w) v x e = e

-- An option is Some if and only if its image is.
pub some_mapped : {A B : Type 0} (f : A → B) (o : Option A) → is_some (option_map f o) ≡ is_some o
some_mapped f None = refl
some_mapped f (Some x) = refl

-- A name is bound if and only if it is among the names.
pub names_known : {V : Type 0} (name : Name) (bs : Bindings V) → is_among (map (λ b. b.0) bs) name ≡ is_some (last_of name bs)
names_known name [] = refl
names_known name (b ∷ bs) =
    ap (λ t. t || is_among (map (λ b. b.0) bs) name) (bytes_eq_sym name b.0)
    ∙ known_by (bytes_eq b.0 name) (last_of name bs) b.1 (is_among (map (λ b. b.0) bs) name) (names_known name bs)

-- One more name.
pub names_more : {V : Type 0} (held now : Bindings V) (name n : Name) (value : V) → last_of n now ≡ last_of n (held ++ (name, value) ∷ [])
    → is_among (map (λ b. b.0) now) n ≡ is_among (map (λ b. b.0) held ++ name ∷ []) n
names_more {V} held now name n value e =
    names_known n now ∙ (ap is_some e ∙ (sym (names_known n (held ++ (name, value) ∷ [])) ∙ ap (λ names. is_among names n) (map-append (λ (b : Name × V). b.0) held ((name, value) ∷ []))))
