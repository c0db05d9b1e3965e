-- The effect of filling a slot on the paths that are found.
use Rattle.std.proofs.Common.{◌≡◌, ◌≢◌, ℕ, ◌+◌, ◌<◌, ◌≤◌, List, [], ◌∷◌, ◌++◌, length, take, get_or, Bool, true, false, nat_eq, refl, sym, ap, ◌∙◌, subst, if◌then◌else◌, ◌⊎◌, inl, inr, arith}
use Rattle.std.proofs.Math.Seq.{get_or-append_seam, take-length, take-append_seam}
use Rattle.std.proofs.lemmas.Bool.{cases_eq, cases_lt}
use Rattle.std.proofs.lemmas.List.Elements.{All-from_get_or}
use Rattle.std.proofs.lemmas.List.Folds.{list_any_none}
use Rattle.std.proofs.lemmas.Slice.Eq.{bytes_eq-Decides}
use Rattle.std.specs.Cmp.Lexicographic.{pointwise}
use Rattle.std.specs.List.{list_any}
use Rattle.std.proofs.lemmas.List.{get_or_append_left, get_or-take}
use Rattle.plan_depfile.specs.Depfile.{with_path, with_paths}
use Rattle.plan_depfile.specs.PathSets.{hash_of, start_of, code_of, IsMet, IsVacant, IsPlaced, IsFilled, LeadElsewhere}

code_filled : (number hash : ℕ) → 0 < code_of number hash
unfolding code_of
code_filled number hash = omega arith

filled_before : (old new : List ℕ) (at filled start end : ℕ) → 0 < filled → IsFilled old at filled new
    → ((j : ℕ) → start ≤ j → j < end → get_or old j 0 ≢ 0) → (j : ℕ) → start ≤ j → j < end → get_or new j 0 ≢ 0
filled_before old new at filled start end some f h j low high none = by (cases_eq j at)
  where
    by : (j ≡ at) ⊎ (j ≢ at) → ⊥
    by (inl same) = let zero_here : filled ≡ 0 = sym f.here ∙ ap (λ (k : ℕ). get_or new k 0) (sym same) ∙ none in omega (arith, zero_here, some)
    by (inr other) = h j low high (sym (f.others j other) ∙ none)

-- a code that is found stays found if an empty slot is filled
met_stays : (old new : List ℕ) (at filled start code : ℕ) → get_or old at 0 ≡ 0 → 0 < filled → 0 < code → IsFilled old at filled new → IsMet old start code → IsMet new start code
met_stays old new at filled start code empty some more f m = record {
  at = m.at;
  behind = m.behind;
  lex_states = f.others m.at (λ e. let none : code ≡ 0 = sym m.lex_states ∙ ap (λ (k : ℕ). get_or old k 0) e ∙ empty in omega (arith, none, more)) ∙ m.lex_states;
  filled = filled_before old new at filled start m.at some f m.filled;
}

-- a code that fills the first empty slot is found
met_here : (old new : List ℕ) (at start code : ℕ) → IsVacant old start at → IsFilled old at code new → IsMet new start code
met_here old new at start code v f = record {
  at = at;
  behind = v.behind;
  lex_states = f.here;
  filled = λ j low high none. v.filled j low high (sym (f.others j (λ e. omega (arith, e, high))) ∙ none);
}

-- the paths that have their slots keep them
pub slots_kept : (paths : List (List ℕ)) (old new : List ℕ) (size count at number hash : ℕ) → get_or old at 0 ≡ 0 → IsFilled old at (code_of number hash) new
    → ((n : ℕ) → n < count → n < length paths → IsPlaced paths old size n) → (n : ℕ) → n < count → n < length paths → IsPlaced paths new size n
slots_kept paths old new size count at number hash empty f h n lt len =
    let path_hash = hash_of (get_or paths n []) in
    met_stays old new at (code_of number hash) (start_of size path_hash) (code_of n path_hash) empty (code_filled number hash) (code_filled n path_hash) f (h n lt len)

-- the next path got its slot
pub next_placed : (paths : List (List ℕ)) (old new : List ℕ) (size number at : ℕ) → IsVacant old (start_of size (hash_of (get_or paths number []))) at
    → IsFilled old at (code_of number (hash_of (get_or paths number []))) new
    → ((n : ℕ) → n < number → n < length paths → IsPlaced paths old size n) → (n : ℕ) → n < number + 1 → n < length paths → IsPlaced paths new size n
next_placed paths old new size number at v f h n lt len = by (cases_eq n number)
  where
    by : (n ≡ number) ⊎ (n ≢ number) → IsPlaced paths new size n
    by (inl same) = subst (λ (k : ℕ). IsPlaced paths new size k) (sym same) (met_here old new at _ _ v f)
    by (inr other) = slots_kept paths old new size number at number (hash_of (get_or paths number [])) v.empty f h n (omega (arith, lt, other)) len

-- appending a path leaves those before it placed
pub placed_before : (paths : List (List ℕ)) (path slots : List ℕ) (size n : ℕ) → n < length paths → IsPlaced paths slots size n → IsPlaced (paths ++ path ∷ []) slots size n
placed_before paths path slots size n lt h =
    subst (λ (p : List ℕ). IsMet slots (start_of size (hash_of p)) (code_of n (hash_of p))) (sym (get_or_append_left paths (path ∷ []) [] n lt)) h

-- one more path got its slot
pub one_placed : (paths : List (List ℕ)) (path old new : List ℕ) (size count at : ℕ) → IsVacant old (start_of size (hash_of path)) at → IsFilled old at (code_of (length paths) (hash_of path)) new
    → length paths ≤ count → ((n : ℕ) → n < count → n < length paths → IsPlaced paths old size n)
    → (n : ℕ) → n < length paths + 1 → n < length (paths ++ path ∷ []) → IsPlaced (paths ++ path ∷ []) new size n
one_placed paths path old new size count at v f all h n lt len = by (cases_eq n (length paths))
  where
    by : (n ≡ length paths) ⊎ (n ≢ length paths) → IsPlaced (paths ++ path ∷ []) new size n
    by (inl same) =
        subst (λ (k : ℕ). IsPlaced (paths ++ path ∷ []) new size k) (sym same)
        (subst (λ (p : List ℕ). IsMet new (start_of size (hash_of p)) (code_of (length paths) (hash_of p))) (sym (get_or-append_seam paths path [] [])) (met_here old new at _ _ v f))
    by (inr other) =
        let before : n < length paths = omega (arith, lt, other) in
        placed_before paths path new size n before (slots_kept paths old new size count at (length paths) (hash_of path) v.empty f h n (omega (arith, before, all)) before)

-- fewer paths stay placed
pub placed_of_fewer : (paths : List (List ℕ)) (slots : List ℕ) (size few n : ℕ) → n < few → IsPlaced paths slots size n → IsPlaced (take few paths) slots size n
placed_of_fewer paths slots size few n lt h =
    subst (λ (p : List ℕ). IsMet slots (start_of size (hash_of p)) (code_of n (hash_of p))) (sym (get_or-take few paths n [] lt)) h

-- a path that is found by a search is before the first empty slot
met_before : (slots : List ℕ) (start at code : ℕ) → 0 < code → IsVacant slots start at → (m : IsMet slots start code) → m.at < at
met_before slots start at code some v m = by (cases_lt m.at at)
  where
    by : (m.at < at) ⊎ (at ≤ m.at) → m.at < at
    by (inl before) = before
    by (inr after) =
        elim (cases_eq m.at at) [
          | inl same ↦ absurd (let none : code ≡ 0 = sym m.lex_states ∙ ap (λ (k : ℕ). get_or slots k 0) same ∙ v.empty in omega (arith, none, some))
          | inr other ↦ absurd (m.filled at v.behind (omega (arith, after, other)) v.empty)
        ]

-- a path that no slot refers to isn't in the list
pub is_new : (paths : List (List ℕ)) (slots path : List ℕ) (size count at : ℕ) → IsVacant slots (start_of size (hash_of path)) at → LeadElsewhere paths slots (start_of size (hash_of path)) at path
    → length paths ≤ count → ((n : ℕ) → n < count → n < length paths → IsPlaced paths slots size n) → list_any (pointwise nat_eq path) paths ≡ false
is_new paths slots path size count at v elsewhere all h = list_any_none (pointwise nat_eq path) paths (All-from_get_or (λ p. pointwise nat_eq path p ≡ false) paths [] differs)
  where
    by : (n : ℕ) → n < length paths → (t : Bool) → pointwise nat_eq path (get_or paths n []) ≡ t → t ≡ false
    by n lt false e = refl
    by n lt true e =
        let same : path ≡ get_or paths n [] = (bytes_eq-Decides path (get_or paths n [])).0 e in
        let m : IsMet slots (start_of size (hash_of path)) (code_of n (hash_of path)) =
        subst (λ (p : List ℕ). IsMet slots (start_of size (hash_of p)) (code_of n (hash_of p))) (sym same) (h n (omega (arith, lt, all)) lt) in
        sym e ∙ elsewhere m.at n m.behind (met_before slots (start_of size (hash_of path)) at (code_of n (hash_of path)) (code_filled n (hash_of path)) v m) lt m.lex_states

    differs : (n : ℕ) → n < length paths → pointwise nat_eq path (get_or paths n []) ≡ false
    differs n lt = by n lt (pointwise nat_eq path (get_or paths n [])) refl

kept : (paths : List (List ℕ)) (path : List ℕ) (t : Bool) → take (length paths) (if t then paths else paths ++ path ∷ []) ≡ paths
kept paths path true = take-length paths
kept paths path false = take-append_seam paths (path ∷ [])

-- adding a path keeps those before it
pub paths_kept : (paths : List (List ℕ)) (path : List ℕ) → take (length paths) (with_path paths path) ≡ paths
paths_kept paths path = kept paths path (list_any (pointwise nat_eq path) paths)

-- a path after others is added last
pub added_last : (paths more : List (List ℕ)) (path : List ℕ) → with_paths paths (more ++ path ∷ []) ≡ with_path (with_paths paths more) path
added_last paths [] path = refl
added_last paths (next ∷ more) path = added_last (with_path paths next) more path
