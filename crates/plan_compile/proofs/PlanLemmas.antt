-- The slots and the table of outputs, as the code builds them.
use Rattle.std.proofs.Common.{◌≡◌, ℕ, suc, ◌+◌, ◌*◌, ◌≤◌, List, [], ◌∷◌, ◌++◌, length, drop, Some, refl, sym, ap, ◌∙◌, arith, length-append}
use Rattle.std.specs.Prelude.{slice_get}
use Rattle.std.proofs.lemmas.List.{append_assoc}
use Rattle.plan_image.specs.declared.image.Slot.{Slot}
use Rattle.plan_image.specs.declared.body.Kind.{Kind}
use Rattle.plan_compile.specs.declared.layout.Output.{Output}
use Rattle.plan_compile.specs.Builds.{Build}
use Rattle.plan_compile.specs.OutputTable.{Table, put, filled}
use Rattle.plan_compile.specs.Slots.{own_kinds, own_len, owned, pairs, slot_count, stamps, slots_from, form_of, newest_by, newest_from, made, all_made}
use Rattle.plan_compile.proofs.BuildLemmas.{drop_here}
use Rattle.plan_compile.proofs.RunLemmas.{owned_length}

pub filled_app : (table : Table) (os ps : List Output) → filled table (os ++ ps) ≡ filled (filled table os) ps
filled_app table [] ps = refl
filled_app table (o ∷ os) ps = filled_app (put table o) os ps

own_length : (old new : List Slot) (e : ℕ) (x : Build) → new ≡ old ++ owned e (own_kinds x) → length new ≡ length old + own_len x
own_length old new e x h =
    ap (λ (ss : List Slot). length ss) h ∙ length-append old (owned e (own_kinds x)) ∙ ap (λ (n : ℕ). length old + n) (owned_length e (own_kinds x))

pub slots_step : (xs : List Build) (n e : ℕ) (x : Build) (old new whole : List Slot) → slice_get xs n ≡ Some x → e ≡ n → new ≡ old ++ owned e (own_kinds x)
    → old ++ slots_from n (drop n xs) ≡ whole → new ++ slots_from (n + 1) (drop (n + 1) xs) ≡ whole
slots_step xs n e x old new whole at same grown h =
    let next : n + 1 ≡ suc n = omega arith in
    ap (λ (k : ℕ). new ++ slots_from k (drop (n + 1) xs)) next
    ∙ ap (λ (ss : List Slot). ss ++ slots_from (suc n) (drop (n + 1) xs)) (grown ∙ ap (λ (k : ℕ). old ++ owned k (own_kinds x)) same)
    ∙ append_assoc old (owned n (own_kinds x)) (slots_from (suc n) (drop (n + 1) xs))
    ∙ ap (λ (ys : List Build). old ++ slots_from n ys) (sym (drop_here xs n x at)) ∙ h

pub table_step : (xs : List Build) (n e : ℕ) (x : Build) (old new : List Slot) (table next whole : Table) → slice_get xs n ≡ Some x → new ≡ old ++ owned e (own_kinds x)
    → next ≡ filled table (made (length old) x) → filled table (all_made (length old) (drop n xs)) ≡ whole → filled next (all_made (length new) (drop (n + 1) xs)) ≡ whole
table_step xs n e x old new table next whole at grown laid h =
    ap (λ (k : ℕ). filled next (all_made k (drop (n + 1) xs))) (own_length old new e x grown)
    ∙ ap (λ (t : Table). filled t (all_made (length old + own_len x) (drop (n + 1) xs))) laid
    ∙ sym (filled_app table (made (length old) x) (all_made (length old + own_len x) (drop (n + 1) xs)))
    ∙ ap (λ (ys : List Build). filled table (all_made (length old) ys)) (sym (drop_here xs n x at)) ∙ h

pub newest_step : (xs : List Build) (n e : ℕ) (x : Build) (old new : List Slot) (olds news whole : List ℕ) → slice_get xs n ≡ Some x → new ≡ old ++ owned e (own_kinds x)
    → news ≡ olds ++ newest_by (form_of x) (length old) ∷ [] → olds ++ newest_from (length old) (drop n xs) ≡ whole → news ++ newest_from (length new) (drop (n + 1) xs) ≡ whole
newest_step xs n e x old new olds news whole at grown pushed h =
    let first : ℕ = newest_by (form_of x) (length old) in
    let rest : List ℕ = newest_from (length old + own_len x) (drop (n + 1) xs) in
    ap (λ (k : ℕ). news ++ newest_from k (drop (n + 1) xs)) (own_length old new e x grown)
    ∙ ap (λ (ns : List ℕ). ns ++ rest) pushed
    ∙ append_assoc olds (first ∷ []) rest
    ∙ ap (λ (ys : List Build). olds ++ newest_from (length old) ys) (sym (drop_here xs n x at)) ∙ h

-- ---- how many slots there are

pub stamps_length : (fs : List ℕ) → length (stamps fs) ≡ length fs
stamps_length [] = refl
stamps_length (f ∷ fs) = ap suc (stamps_length fs)

pub pairs_length : (fs : List ℕ) → length (pairs fs) ≡ 2 * length fs
pairs_length [] = refl
pairs_length (f ∷ fs) = let h : length (pairs fs) ≡ 2 * length fs = pairs_length fs in omega (arith, h)

pub slots_length : (e : ℕ) (xs : List Build) → length (slots_from e xs) ≡ slot_count xs
slots_length e [] = refl
slots_length e (x ∷ xs) =
    length-append (owned e (own_kinds x)) (slots_from (suc e) xs) ∙ ap (λ (n : ℕ). n + length (slots_from (suc e) xs)) (owned_length e (own_kinds x)) ∙ ap (λ (n : ℕ). own_len x + n) (slots_length (suc e) xs)

-- the slots so far and those still to be added are as many as all
pub room_left : (old new : List Slot) (e : ℕ) (ks ls : List Kind) → new ++ owned e ks ≡ old ++ owned e ls → length new + length ks ≡ length old + length ls
room_left old new e ks ls h =
    let a : length (new ++ owned e ks) ≡ length new + length (owned e ks) = length-append new (owned e ks) in
    let b : length (old ++ owned e ls) ≡ length old + length (owned e ls) = length-append old (owned e ls) in
    omega (arith, a, b, ap (λ (ss : List Slot). length ss) h, owned_length e ks, owned_length e ls)

pub room_for : (xs : List Build) (n : ℕ) (x : Build) (old : List Slot) → slice_get xs n ≡ Some x → old ++ slots_from n (drop n xs) ≡ slots_from 0 xs → length old + own_len x ≤ slot_count xs
room_for xs n x old at h =
    let a : length (old ++ slots_from n (drop n xs)) ≡ length old + length (slots_from n (drop n xs)) = length-append old (slots_from n (drop n xs)) in
    let b : slot_count (drop n xs) ≡ own_len x + slot_count (drop (n + 1) xs) = ap slot_count (drop_here xs n x at) in
    omega (arith, a, b, ap (λ (ss : List Slot). length ss) h, slots_length n (drop n xs), slots_length 0 xs)
