-- Paths that are in a set. Serves src/recalling.rt.
use Rattle.std.proofs.Common.{◌≡◌, ◌+◌, ◌<◌, ◌≤◌, ◌⊎◌, ℕ, List, [], ◌∷◌, ◌++◌, length, take, ap, inl, inr, sym, subst, ◌∙◌}
use Rattle.std.specs.Prelude.{Contains, get_or}
use Rattle.std.proofs.lemmas.List.{take_all, take_more}
use Rattle.std.proofs.lemmas.List.Elements.{Contains-append_left, Contains-push, Contains-push_cases}
use Rattle.plan_lanes.specs.Recalled.{AddsWanted, AreAmong}

-- one path more, which is found
found_one : (wanted paths found : List (List ℕ)) (path : List ℕ) → AreAmong wanted paths found → AreAmong wanted (paths ++ path ∷ []) (found ++ path ∷ [])
found_one wanted paths found path among =
    record { some = λ p h. some_of p (Contains-push_cases found path p h); all = λ p h w. all_of p w (Contains-push_cases paths path p h) }
  where
    some_of : (p : List ℕ) → Contains found p ⊎ (path ≡ p) → Contains (paths ++ path ∷ []) p
    some_of p (inl before) = Contains-append_left paths (path ∷ []) p (among.some p before)
    some_of p (inr is) = subst (λ (q : List ℕ). Contains (paths ++ path ∷ []) q) is (Contains-push paths path)

    all_of : (p : List ℕ) → Contains wanted p → Contains paths p ⊎ (path ≡ p) → Contains (found ++ path ∷ []) p
    all_of p w (inl before) = Contains-append_left found (path ∷ []) p (among.all p before w)
    all_of p w (inr is) = subst (λ (q : List ℕ). Contains (found ++ path ∷ []) q) is (Contains-push found path)

-- one path more, which isn't wanted
missed_one : (wanted paths found : List (List ℕ)) (path : List ℕ) → (Contains wanted path → ⊥) → AreAmong wanted paths found → AreAmong wanted (paths ++ path ∷ []) found
missed_one wanted paths found path unwanted among =
    record { some = λ p h. Contains-append_left paths (path ∷ []) p (among.some p h); all = λ p h w. all_of p w (Contains-push_cases paths path p h) }
  where
    all_of : (p : List ℕ) → Contains wanted p → Contains paths p ⊎ (path ≡ p) → Contains found p
    all_of p w (inl before) = among.all p before w
    all_of p w (inr is) = absurd (unwanted (subst (λ (q : List ℕ). Contains wanted q) (sym is) w))

-- one path more, which is found or isn't wanted
next_one : (wanted paths old new : List (List ℕ)) (path : List ℕ) → AddsWanted wanted path old new → AreAmong wanted paths old → AreAmong wanted (paths ++ path ∷ []) new
next_one wanted paths old new path (inl is) among = subst (λ (found : List (List ℕ)). AreAmong wanted (paths ++ path ∷ []) found) (sym is) (found_one wanted paths old path among)
next_one wanted paths old new path (inr (is, unwanted)) among =
    subst (λ (found : List (List ℕ)). AreAmong wanted (paths ++ path ∷ []) found) (sym is) (missed_one wanted paths old path unwanted among)

pub none_among : (wanted paths : List (List ℕ)) → AreAmong wanted (take 0 paths) []
none_among wanted paths = record { some = λ p h. h; all = λ p h w. h }

pub next_among : (wanted paths old new : List (List ℕ)) (n : ℕ) (path : List ℕ) → n < length paths → path ≡ get_or paths n [] → AddsWanted wanted path old new
    → AreAmong wanted (take n paths) old → AreAmong wanted (take (n + 1) paths) new
next_among wanted paths old new n path lt is adds among =
    let next : take n paths ++ path ∷ [] ≡ take (n + 1) paths = ap (λ (p : List ℕ). take n paths ++ p ∷ []) is ∙ sym (take_more paths n [] lt) in
    subst (λ (ps : List (List ℕ)). AreAmong wanted ps new) next (next_one wanted (take n paths) old new path adds among)

pub all_among : (wanted paths found : List (List ℕ)) (n : ℕ) → length paths ≤ n → AreAmong wanted (take n paths) found → AreAmong wanted paths found
all_among wanted paths found n le among = subst (λ (ps : List (List ℕ)). AreAmong wanted ps found) (take_all n paths le) among
