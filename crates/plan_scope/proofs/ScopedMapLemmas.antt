-- The bindings that a scoped map shows of its map. Used for src/scope/scoped_map.rt.
use Rattle.std.proofs.Common.{◌≡◌, ◌<◌, ℕ, zero, suc, Bool, true, false, ◌&&◌, List, [], ◌∷◌, ◌++◌, ◌==◌, Option, Some, None, refl, ap, sym, ◌∙◌, bytes_eq, cond, nat_eq, slice_index_or, slice_set, subst}
use Rattle.std.proofs.lemmas.List.{get_or-set_same, length-set}
use Rattle.std.proofs.lemmas.Slice.Eq.{bytes_eq-Decides}
use Rattle.std.specs.Map.{lookup}
use Rattle.indexmap.specs.IndexMap.{insert_entry}
use Rattle.plan_scope.specs.declared.scope.scoped_map.Key.{Key}
use Rattle.plan_scope.specs.Scopes.{Name, Bindings, ScopedBindings, last_of, frame, nearest, or_else}
use Rattle.plan_scope.specs.Keys.{AreMarked, IsMarked, mark_of, marks, same_key, same_key_equiv, key_of, scoped_by}
use Rattle.plan_scope.proofs.SmallMapLemmas.{last_of_push}

-- One more binding, and the bindings of a scope after it.
frame_push : {V : Type 0} (s : ℕ) (bs : ScopedBindings V) (b : ℕ × (Name × V)) → frame s (bs ++ b ∷ []) ≡ frame s bs ++ cond (b.0 == s) (b.1 ∷ []) []
frame_push {V} s [] b = elim (b.0 == s) as (λ t. ◌≡◌ {A = Bindings V} (cond t (b.1 ∷ []) []) (cond t (b.1 ∷ []) [])) [ true ↦ refl | false ↦ refl ]
frame_push {V} s (x ∷ xs) b =
    elim (x.0 == s) as (λ t. ◌≡◌ {A = Bindings V} (cond t (x.1 ∷ frame s (xs ++ b ∷ [])) (frame s (xs ++ b ∷ []))) (cond t (x.1 ∷ frame s xs) (frame s xs) ++ cond (b.0 == s) (b.1 ∷ []) []))
    [ true ↦ ap (λ (l : Bindings V). x.1 ∷ l) (frame_push s xs b) | false ↦ frame_push s xs b ]

none_more : {V : Type 0} (n : Name) (bs : Bindings V) → last_of n (bs ++ []) ≡ last_of n bs
none_more n [] = refl
none_more {V} n (x ∷ xs) = ap (λ (o : Option V). or_else o (cond (bytes_eq x.0 n) (Some x.1) None)) (none_more n xs)

-- The last value of a name in a scope, with one more binding.
pub last_in_push : {V : Type 0} (s : ℕ) (n : Name) (bs : ScopedBindings V) (b : ℕ × (Name × V))
    → last_of n (frame s (bs ++ b ∷ [])) ≡ cond (same_key (b.0, b.1.0) (s, n)) (Some b.1.1) (last_of n (frame s bs))
last_in_push {V} s n bs b =
    ap (last_of n) (frame_push s bs b)
    ∙ elim (b.0 == s) as (λ t. last_of n (frame s bs ++ cond t (b.1 ∷ []) []) ≡ cond (t && bytes_eq b.1.0 n) (Some b.1.1) (last_of n (frame s bs)))
    [ true ↦ last_of_push n (frame s bs) b.1 | false ↦ none_more n (frame s bs) ]

-- A lookup in the map gives the last value of a name in a scope.
pub last_in_scoped : {V : Type 0} (s : ℕ) (n : Name) (es : List (Key × V)) → last_of n (frame s (scoped_by es)) ≡ lookup (λ k. same_key (s, n) (key_of k)) es
last_in_scoped s n [] = refl
last_in_scoped {V} s n (e ∷ es) =
    last_in_push s n (scoped_by es) (e.0.scope, (e.0.name.items, e.1))
    ∙ (ap (λ (t : Bool). cond t (Some e.1) (last_of n (frame s (scoped_by es)))) (same_key_equiv.symm (key_of e.0) (s, n))
    ∙ ap (λ (o : Option V). cond (same_key (s, n) (key_of e.0)) (Some e.1) o) (last_in_scoped s n es))

both_same : {V : Type 0} (q k e : ℕ × Name) (v w : V) (rest : Option V) → same_key k e ≡ false → (t u : Bool) → same_key q e ≡ t → same_key k q ≡ u
    → ◌≡◌ {A = Option V} (cond t (Some w) (cond u (Some v) rest)) (cond u (Some v) (cond t (Some w) rest))
both_same q k e v w rest h false u a b = refl
both_same q k e v w rest h true false a b = refl
both_same q k e v w rest h true true a b = let c = same_key_equiv.congr k q e b in cc

inserted_at : {V : Type 0} (q : ℕ × Name) (es : List (Key × V)) (e : Key × V) (k : Key) (v : V)
    → lookup (λ x. same_key q (key_of x)) (insert_entry (λ x y. same_key (key_of x) (key_of y)) es k v) ≡ cond (same_key (key_of k) q) (Some v) (lookup (λ x. same_key q (key_of x)) es)
    → (t : Bool) → same_key (key_of k) (key_of e.0) ≡ t
    → lookup (λ x. same_key q (key_of x)) (cond t ((e.0, v) ∷ es) (e ∷ insert_entry (λ x y. same_key (key_of x) (key_of y)) es k v))
    ≡ cond (same_key (key_of k) q) (Some v) (cond (same_key q (key_of e.0)) (Some e.1) (lookup (λ x. same_key q (key_of x)) es))
inserted_at {V} q es e k v more true h =
    let rest : Option V = lookup (λ x. same_key q (key_of x)) es in
    let there : same_key (key_of k) q ≡ same_key q (key_of e.0) = same_key_equiv.congr (key_of k) (key_of e.0) q h ∙ same_key_equiv.symm (key_of e.0) q in
    ap (λ (t : Bool). cond t (Some v) rest) (sym there)
    ∙ (elim (same_key (key_of k) q) as (λ t. cond t (Some v) rest ≡ cond t (Some v) (cond t (Some e.1) rest)) [ true ↦ refl | false ↦ refl ]
    ∙ ap (λ (t : Bool). cond (same_key (key_of k) q) (Some v) (cond t (Some e.1) rest)) there)
inserted_at {V} q es e k v more false h =
    ap (λ (o : Option V). cond (same_key q (key_of e.0)) (Some e.1) o) more
    ∙ both_same q (key_of k) (key_of e.0) v e.1 (lookup (λ x. same_key q (key_of x)) es) h (same_key q (key_of e.0)) (same_key (key_of k) q) refl refl

-- The bindings after an insertion.
lookup_inserted : {V : Type 0} (q : ℕ × Name) (es : List (Key × V)) (k : Key) (v : V)
    → lookup (λ x. same_key q (key_of x)) (insert_entry (λ x y. same_key (key_of x) (key_of y)) es k v) ≡ cond (same_key (key_of k) q) (Some v) (lookup (λ x. same_key q (key_of x)) es)
lookup_inserted {V} q [] k v = ap (λ (t : Bool). cond {A = Option V} t (Some v) None) (same_key_equiv.symm q (key_of k))
lookup_inserted {V} q (e ∷ es) k v = inserted_at q es e k v (lookup_inserted q es k v) (same_key (key_of k) (key_of e.0)) refl

-- After a name was bound again.
pub set_scoped : {V : Type 0} (es fs : List (Key × V)) (key : Key) (name : Name) (value : V) → key.name.items ≡ name
    → fs ≡ insert_entry (λ x y. same_key (key_of x) (key_of y)) es key value
    → (s : ℕ) (n : Name) → last_of n (frame s (scoped_by fs)) ≡ last_of n (frame s (scoped_by es ++ (key.scope, (name, value)) ∷ []))
set_scoped {V} es fs key name value e f s n =
    let own : key_of key ≡ (key.scope, name) = ap (λ (x : Name). (key.scope, x)) e in
    ap (λ (xs : List (Key × V)). last_of n (frame s (scoped_by xs))) f
    ∙ (last_in_scoped s n (insert_entry (λ x y. same_key (key_of x) (key_of y)) es key value)
    ∙ (lookup_inserted (s, n) es key value
    ∙ (ap (λ (x : ℕ × Name). cond (same_key x (s, n)) (Some value) (lookup (λ k. same_key (s, n) (key_of k)) es)) own
    ∙ (ap (λ (o : Option V). cond (same_key (key.scope, name) (s, n)) (Some value) o) (sym (last_in_scoped s n es))
    ∙ sym (last_in_push s n (scoped_by es) (key.scope, (name, value)))))))

-- A name that no scope has.
pub nearest_none : {V : Type 0} (bound : ScopedBindings V) (name : Name) → ((s : ℕ) → last_of name (frame s bound) ≡ None) → (scopes : List ℕ) → nearest bound scopes name ≡ None
nearest_none bound name h [] = refl
nearest_none {V} bound name h (s ∷ outer) = ap (λ (o : Option V). or_else o (nearest bound outer name)) (h s) ∙ nearest_none bound name h outer

-- A name without a mark after one more was set had none before.
unmarked_before : (l : List Bool) (i j : ℕ) → slice_index_or (slice_set l i true) j false ≡ false → slice_index_or l j false ≡ false
unmarked_before [] i j e = refl
unmarked_before (x ∷ xs) zero zero e = cc
unmarked_before (x ∷ xs) zero (suc j) e = e
unmarked_before (x ∷ xs) (suc i) zero e = e
unmarked_before (x ∷ xs) (suc i) (suc j) e = unmarked_before xs i j e

and_true : (x y : Bool) → (x && y) ≡ true → y ≡ true
and_true true y e = e
and_true false y e = cc

marked_at : {V : Type 0} (es : List (Key × V)) (marked : List Bool) (i scope : ℕ) (name : Name) (value : V) → IsMarked marked es → i ≡ mark_of name → i < marks
    → (s : ℕ) (n : Name) → slice_index_or (slice_set marked i true) (mark_of n) false ≡ false
    → (t : Bool) → same_key (scope, name) (s, n) ≡ t → ◌≡◌ {A = Option V} (cond t (Some value) (last_of n (frame s (scoped_by es)))) None
marked_at {V} es marked i scope name value h m lt s n e true k =
    let same : name ≡ n = (bytes_eq-Decides name n).0 (and_true (nat_eq scope s) (bytes_eq name n) k) in
    let at : i ≡ mark_of n = m ∙ ap mark_of same in
    let there : slice_index_or (slice_set marked i true) i false ≡ true = get_or-set_same marked i true false (subst (λ x. i < x) (sym h.0) lt) in
    let no : true ≡ false = sym there ∙ (ap (λ j. slice_index_or (slice_set marked i true) j false) at ∙ e) in
    cc
marked_at es marked i scope name value h m lt s n e false k = h.1 s n (unmarked_before marked i (mark_of n) e)

-- After a name was bound again and its mark was set.
pub marked_set : {V : Type 0} (es fs : List (Key × V)) (marked : List Bool) (i : ℕ) (key : Key) (name : Name) (value : V) → IsMarked marked es → i ≡ mark_of name → i < marks
    → key.name.items ≡ name → fs ≡ insert_entry (λ x y. same_key (key_of x) (key_of y)) es key value → IsMarked (slice_set marked i true) fs
marked_set es fs marked i key name value h m lt k f = (
  length-set marked i true ∙ h.0,
  λ s n e.
      set_scoped es fs key name value k f s n
      ∙ (last_in_push s n (scoped_by es) (key.scope, (name, value))
      ∙ marked_at es marked i key.scope name value h m lt s n e (same_key (key.scope, name) (s, n)) refl),
)

marked_there : {V : Type 0} (bs : Bindings V) (marked : List Bool) (i : ℕ) (name : Name) (value : V) → AreMarked marked bs → i ≡ mark_of name → i < marks
    → (n : Name) → slice_index_or (slice_set marked i true) (mark_of n) false ≡ false
    → (t : Bool) → bytes_eq name n ≡ t → ◌≡◌ {A = Option V} (cond t (Some value) (last_of n bs)) None
marked_there {V} bs marked i name value h m lt n e true k =
    let same : name ≡ n = (bytes_eq-Decides name n).0 k in
    let at : i ≡ mark_of n = m ∙ ap mark_of same in
    let there : slice_index_or (slice_set marked i true) i false ≡ true = get_or-set_same marked i true false (subst (λ x. i < x) (sym h.0) lt) in
    let no : true ≡ false = sym there ∙ (ap (λ j. slice_index_or (slice_set marked i true) j false) at ∙ e) in
    cc
marked_there bs marked i name value h m lt n e false k = h.1 n (unmarked_before marked i (mark_of n) e)

-- One more binding, and its mark.
pub marked_more : {V : Type 0} (bs : Bindings V) (marked : List Bool) (i : ℕ) (name : Name) (value : V) → AreMarked marked bs → i ≡ mark_of name → i < marks
    → AreMarked (slice_set marked i true) (bs ++ (name, value) ∷ [])
marked_more bs marked i name value h m lt = (
  length-set marked i true ∙ h.0,
  λ n e. last_of_push n bs (name, value) ∙ marked_there bs marked i name value h m lt n e (bytes_eq name n) refl,
)
