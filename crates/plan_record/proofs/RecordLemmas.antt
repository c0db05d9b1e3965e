-- The numbers by outputs of a record's entries. Lemmas for src/record.rt.
use Rattle.std.proofs.Common.{◌≡◌, ℕ, suc, Bool, true, false, List, [], ◌∷◌, ◌++◌, length, Option, Some, None, refl, ap, sym, ◌∙◌, bytes_eq, cond, if◌then◌else◌, option_map}
use Rattle.std.specs.Map.{lookup}
use Rattle.std.specs.Cmp.Lexicographic.{nat_list_eq_equiv}
use Rattle.std.specs.declared.vec.Vec.{Vec}
use Rattle.std.specs.declared.alloc.Global.{Global}
use Rattle.std.specs.Prelude.{slice_get}
use Rattle.indexmap.specs.IndexMap.{insert_entry}
use Rattle.plan_record.specs.Entries.{EntryData, last_of, or_later}
use Rattle.plan_record.specs.Outputs.{later, last_number, IsIndexOf}

-- the number of the last entry, after one more
pub last_number_push : (output : List ℕ) (xs : List EntryData) (x : EntryData) → last_number output (xs ++ x ∷ []) ≡ cond (bytes_eq x.output output) (Some (length xs)) (last_number output xs)
last_number_push output [] x = elim (bytes_eq x.output output) as (λ t. later (cond t (Some 0) None) None ≡ cond t (Some 0) None) [ true ↦ refl | false ↦ refl ]
last_number_push output (y ∷ ys) x =
    let front : Option ℕ = if bytes_eq y.output output then Some 0 else None in
    ap (λ o. later front (option_map suc o)) (last_number_push output ys x)
    ∙ elim (bytes_eq x.output output) as (λ t. later front (option_map suc (cond t (Some (length ys)) (last_number output ys))) ≡ cond t (Some (suc (length ys))) (later front (option_map suc (last_number output ys)))) [ true ↦ refl | false ↦ refl ]

-- a number, and the entry with it
abbrev AreAlike : Option ℕ → Option EntryData → List EntryData → Type 0
AreAlike None None entries = entries ≡ entries
AreAlike None (Some x) entries = ⊥
AreAlike (Some n) None entries = ⊥
AreAlike (Some n) (Some x) entries = slice_get entries n ≡ Some x

alike_behind : (x : EntryData) (xs : List EntryData) (n : Option ℕ) (last : Option EntryData) → AreAlike n last xs → (t : Bool)
    → AreAlike (later (cond t (Some 0) None) (option_map suc n)) (or_later (cond t (Some x) None) last) (x ∷ xs)
alike_behind x xs None None h true = refl
alike_behind x xs None None h false = refl
alike_behind x xs None (Some y) h t = absurd h
alike_behind x xs (Some n) None h t = absurd h
alike_behind x xs (Some n) (Some y) h t = h

alike : (output : List ℕ) (xs : List EntryData) → AreAlike (last_number output xs) (last_of output xs) xs
alike output [] = refl
alike output (x ∷ xs) = alike_behind x xs (last_number output xs) (last_of output xs) (alike output xs) (bytes_eq x.output output)

alike_some : (n : ℕ) (number : Option ℕ) (last : Option EntryData) (xs : List EntryData) → AreAlike number last xs → Some n ≡ number → slice_get xs n ≡ last
alike_some n None last xs h e = absurd cc
alike_some n (Some m) None xs h e = absurd h
alike_some n (Some m) (Some x) xs h e = let same : n ≡ m = cc in ap (slice_get xs) same ∙ h

alike_none : (number : Option ℕ) (last : Option EntryData) (xs : List EntryData) → AreAlike number last xs → None ≡ number → None ≡ last
alike_none None None xs h e = refl
alike_none None (Some x) xs h e = absurd h
alike_none (Some n) last xs h e = absurd cc

-- The entry with the last number is the last one of the output.
pub numbered_last : (output : List ℕ) (numbers : List (Vec ℕ Global × ℕ)) (entries : List EntryData) (n : ℕ) → IsIndexOf numbers entries → Some n ≡ lookup (λ k. bytes_eq output k.items) numbers
    → slice_get entries n ≡ last_of output entries
numbered_last output numbers entries n index found = alike_some n (last_number output entries) (last_of output entries) entries (alike output entries) (found ∙ index output)

-- There is no entry if there is no number.
pub none_numbered : (output : List ℕ) (numbers : List (Vec ℕ Global × ℕ)) (entries : List EntryData) → IsIndexOf numbers entries → None ≡ lookup (λ k. bytes_eq output k.items) numbers
    → None ≡ last_of output entries
none_numbered output numbers entries index found = alike_none (last_number output entries) (last_of output entries) entries (alike output entries) (found ∙ index output)

both_same : (q k e : List ℕ) (v w : ℕ) (rest : Option ℕ) → bytes_eq k e ≡ false → (t u : Bool) → bytes_eq q e ≡ t → bytes_eq k q ≡ u
    → ◌≡◌ {A = Option ℕ} (cond t (Some w) (cond u (Some v) rest)) (cond u (Some v) (cond t (Some w) rest))
both_same q k e v w rest h false u a b = refl
both_same q k e v w rest h true false a b = refl
both_same q k e v w rest h true true a b = let c = nat_list_eq_equiv.congr k q e b in cc

abbrev Held : Type 0
Held = Vec ℕ Global

inserted_at : (q : List ℕ) (es : List (Held × ℕ)) (e : Held × ℕ) (k : Held) (v : ℕ)
    → lookup (λ x. bytes_eq q x.items) (insert_entry (λ x y. bytes_eq x.items y.items) es k v) ≡ cond (bytes_eq k.items q) (Some v) (lookup (λ x. bytes_eq q x.items) es)
    → (t : Bool) → bytes_eq k.items e.0.items ≡ t
    → lookup (λ x. bytes_eq q x.items) (cond t ((e.0, v) ∷ es) (e ∷ insert_entry (λ x y. bytes_eq x.items y.items) es k v))
    ≡ cond (bytes_eq k.items q) (Some v) (cond (bytes_eq q e.0.items) (Some e.1) (lookup (λ x. bytes_eq q x.items) es))
inserted_at q es e k v more true h =
    let rest : Option ℕ = lookup (λ x. bytes_eq q x.items) es in
    let there : bytes_eq k.items q ≡ bytes_eq q e.0.items = nat_list_eq_equiv.congr k.items e.0.items q h ∙ nat_list_eq_equiv.symm e.0.items q in
    ap (λ (t : Bool). cond t (Some v) rest) (sym there)
    ∙ (elim (bytes_eq k.items q) as (λ t. cond t (Some v) rest ≡ cond t (Some v) (cond t (Some e.1) rest)) [ true ↦ refl | false ↦ refl ]
    ∙ ap (λ (t : Bool). cond (bytes_eq k.items q) (Some v) (cond t (Some e.1) rest)) there)
inserted_at q es e k v more false h =
    ap (λ (o : Option ℕ). cond (bytes_eq q e.0.items) (Some e.1) o) more
    ∙ both_same q k.items e.0.items v e.1 (lookup (λ x. bytes_eq q x.items) es) h (bytes_eq q e.0.items) (bytes_eq k.items q) refl refl

lookup_inserted : (q : List ℕ) (es : List (Held × ℕ)) (k : Held) (v : ℕ)
    → lookup (λ x. bytes_eq q x.items) (insert_entry (λ x y. bytes_eq x.items y.items) es k v) ≡ cond (bytes_eq k.items q) (Some v) (lookup (λ x. bytes_eq q x.items) es)
lookup_inserted q [] k v = ap (λ (t : Bool). cond {A = Option ℕ} t (Some v) None) (nat_list_eq_equiv.symm q k.items)
lookup_inserted q (e ∷ es) k v = inserted_at q es e k v (lookup_inserted q es k v) (bytes_eq k.items e.0.items) refl

-- Numbers by outputs with that of one more entry.
pub index_grows : (numbers more : List (Held × ℕ)) (entries : List EntryData) (x : EntryData) (key : Held) (n : ℕ) → IsIndexOf numbers entries → key.items ≡ x.output → n ≡ length entries
    → more ≡ insert_entry (λ x y. bytes_eq x.items y.items) numbers key n → IsIndexOf more (entries ++ x ∷ [])
index_grows numbers more entries x key n so_far own number inserted output =
    ap (λ es. lookup (λ k. bytes_eq output k.items) es) inserted
    ∙ lookup_inserted output numbers key n
    ∙ ap (λ (o : Option ℕ). cond (bytes_eq key.items output) (Some n) o) (so_far output)
    ∙ ap (λ (k : List ℕ). cond (bytes_eq k output) (Some n) (last_number output entries)) own
    ∙ ap (λ (m : ℕ). cond (bytes_eq x.output output) (Some m) (last_number output entries)) number
    ∙ sym (last_number_push output entries x)
