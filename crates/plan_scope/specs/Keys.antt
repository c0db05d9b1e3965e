-- Values by scope and name, as a map holds them.
use Rattle.std.specs.Prelude.{◌≡◌, ◌+◌, ◌*◌, ◌%◌, ℕ, Bool, true, false, List, [], ◌∷◌, ◌++◌, ◌&&◌, None, bytes_eq, length, nat_eq, slice_index_or}
use Rattle.std.specs.Cmp.{IsEquivalence, and_equiv, on_equiv, nat_eq_equiv}
use Rattle.std.specs.Cmp.Lexicographic.{nat_list_eq_equiv}
use Rattle.std.specs.Hash as fed
use Rattle.std.specs.Cmp.Rules.{hashing}
use Rattle.std.proofs.Common.{rules}
use Rattle.plan_text.specs.HashWords.{words}
use Rattle.plan_scope.specs.declared.scope.scoped_map.Key.{Key}
use Rattle.plan_scope.specs.Scopes.{Name, Bindings, ScopedBindings, frame, last_of}

-- The same scope and the same name.
abbrev pub same_key : ℕ × Name → ℕ × Name → Bool
same_key x y = nat_eq x.0 y.0 && bytes_eq x.1 y.1

pub same_key_equiv : IsEquivalence same_key
same_key_equiv = and_equiv (on_equiv (λ t. t.0) nat_eq_equiv) (on_equiv (λ t. t.1) nat_list_eq_equiv)

-- The input of a key to its hasher: its scope, and the words of its name.
abbrev pub key_input : ℕ × Name → List (List ℕ)
key_input x = fed.usize x.0 ++ words x.1

pub same_key_fed : (x y : ℕ × Name) → same_key x y ≡ true → key_input x ≡ key_input y
same_key_fed = Prim.search (hashing, rules)

-- A key, as the map holds it.
abbrev pub key_of : Key → ℕ × Name
key_of k = (k.scope, k.name.items)

-- The entries of a map as bindings in their scopes.
abbrev pub scoped_by : {V : Type 0} → List (Key × V) → ScopedBindings V
scoped_by [] = []
scoped_by (e ∷ es) = scoped_by es ++ (e.0.scope, (e.0.name.items, e.1)) ∷ []

-- The number of marks.
abbrev pub marks : ℕ
marks = 64

-- The mark of a name.
abbrev pub mark_of : Name → ℕ
mark_of [] = 0
mark_of (b ∷ rest) = (b + 3 * (length (b ∷ rest) % marks)) % marks

-- No name is bound without its mark.
abbrev pub AreMarked : {V : Type 0} → List Bool → Bindings V → Type 0
AreMarked marked bs = (length marked ≡ marks) × ((name : Name) → slice_index_or marked (mark_of name) false ≡ false → last_of name bs ≡ None)

-- No scope has a name without its mark.
abbrev pub IsMarked : {V : Type 0} → List Bool → List (Key × V) → Type 0
IsMarked marked es = (length marked ≡ marks) × ((scope : ℕ) (name : Name) → slice_index_or marked (mark_of name) false ≡ false → last_of name (frame scope (scoped_by es)) ≡ None)
