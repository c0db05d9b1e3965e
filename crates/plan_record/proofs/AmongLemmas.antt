-- Paths that are in a set. Serves src/paths.rt.
use Rattle.std.proofs.Common.{◌≡◌, ◌+◌, ◌-◌, ◌<◌, ◌≤◌, ◌⊎◌, ℕ, List, [], ◌∷◌, ◌++◌, length, take, drop, map, ap, inl, inr, sym, subst, refl, ◌∙◌, Some}
use Rattle.std.specs.Prelude.{Contains, slice_get}
use Rattle.std.proofs.lemmas.List.{drop-drop, map-append}
use Rattle.std.proofs.lemmas.List.Elements.{Contains-append_left, Contains-push, Contains-push_cases}
use Rattle.plan_text.specs.SharedRows.{row_in}
use Rattle.plan_text.specs.declared.shared_rows.Place.{Place}
use Rattle.plan_record.specs.Among.{AddsWanted, AreAmong}
use Rattle.plan_record.specs.Paths.{paths_in, ArePaths}
use Rattle.plan_record.specs.Reading.{some_paths_at}
use Rattle.plan_record.proofs.PathsLemmas.{Placed, all_placed, none_placed, one_more_placed}

-- one path more, which is found
found_one : (wanted paths found : List (List ℕ)) (path : List ℕ) → AreAmong wanted paths found → AreAmong wanted (paths ++ path ∷ []) (found ++ path ∷ [])
found_one wanted paths found path among =
    record { some = λ p h. some_of p (Contains-push_cases found path p h); all = λ p h w. all_of p w (Contains-push_cases paths path p h) }
  where
    some_of : (p : List ℕ) → Contains found p ⊎ (path ≡ p) → Contains (paths ++ path ∷ []) p
    some_of p (inl before) = Contains-append_left paths (path ∷ []) p (among.some p before)
    some_of p (inr is) = subst (λ (q : List ℕ). Contains (paths ++ path ∷ []) q) is (Contains-push paths path)

    all_of : (p : List ℕ) → Contains wanted p → Contains paths p ⊎ (path ≡ p) → Contains (found ++ path ∷ []) p
    all_of p w (inl before) = Contains-append_left found (path ∷ []) p (among.all p before w)
    all_of p w (inr is) = subst (λ (q : List ℕ). Contains (found ++ path ∷ []) q) is (Contains-push found path)

-- one path more, which isn't wanted
missed_one : (wanted paths found : List (List ℕ)) (path : List ℕ) → (Contains wanted path → ⊥) → AreAmong wanted paths found → AreAmong wanted (paths ++ path ∷ []) found
missed_one wanted paths found path unwanted among =
    record { some = λ p h. Contains-append_left paths (path ∷ []) p (among.some p h); all = λ p h w. all_of p w (Contains-push_cases paths path p h) }
  where
    all_of : (p : List ℕ) → Contains wanted p → Contains paths p ⊎ (path ≡ p) → Contains found p
    all_of p w (inl before) = among.all p before w
    all_of p w (inr is) = absurd (unwanted (subst (λ (q : List ℕ). Contains wanted q) (sym is) w))

-- one path more, which is found or isn't wanted
next_one : (wanted paths old new : List (List ℕ)) (path : List ℕ) → AddsWanted wanted path old new → AreAmong wanted paths old → AreAmong wanted (paths ++ path ∷ []) new
next_one wanted paths old new path (inl is) among = subst (λ (found : List (List ℕ)). AreAmong wanted (paths ++ path ∷ []) found) (sym is) (found_one wanted paths old path among)
next_one wanted paths old new path (inr (is, unwanted)) among =
    subst (λ (found : List (List ℕ)). AreAmong wanted (paths ++ path ∷ []) found) (sym is) (missed_one wanted paths old path unwanted among)

-- the paths that were placed, and those of them that were found
pub record FoundSo (count taken : ℕ) (bytes : List ℕ) (start : ℕ) (wanted found : List (List ℕ)) : Type 0 where
  pub places : List Place
  pub placed : Placed count taken bytes start places
  pub among : AreAmong wanted (map (row_in bytes) places) found

-- No path is found before the first.
pub none_found : (count : ℕ) (bytes : List ℕ) (wanted : List (List ℕ)) → ArePaths count bytes → FoundSo count 0 bytes 0 wanted []
none_found count bytes wanted there = record { places = []; placed = none_placed count bytes there; among = record { some = λ p h. h; all = λ p h w. h } }

-- One more path, which is found or isn't wanted.
pub next_found : (count taken : ℕ) (bytes rest : List ℕ) (start len : ℕ) (wanted old new : List (List ℕ)) (path : List ℕ) → taken < count
    → FoundSo count taken bytes start wanted old
    → rest ≡ drop start bytes
    → len ≤ length rest
    → ArePaths (count - taken - 1) (drop len rest)
    → paths_in (some_paths_at (count - taken - 1) (drop len rest)) ≡ drop 1 (paths_in (some_paths_at (count - taken) rest))
    → slice_get (paths_in (some_paths_at (count - taken) rest)) 0 ≡ Some (take (len - 2) (drop 2 rest))
    → path ≡ take (len - 2) (drop 2 rest)
    → AddsWanted wanted path old new
    → FoundSo count (taken + 1) bytes (start + len) wanted new
next_found count taken bytes rest start len wanted old new path lt so_far is within there left first cut adds =
    let place : Place = record { start = start + 2; len = len - 2 } in
    let row : row_in bytes place ≡ path = ap (take (len - 2)) (sym (ap (drop 2) is ∙ drop-drop 2 start bytes)) ∙ sym cut in
    record {
      places = so_far.places ++ place ∷ [];
      placed = one_more_placed count taken bytes rest start len so_far.places place lt so_far.placed is within there left first refl refl;
      among =
          subst (λ (ps : List (List ℕ)). AreAmong wanted ps new)
          (ap (λ (p : List ℕ). map (row_in bytes) so_far.places ++ p ∷ []) (sym row) ∙ sym (map-append (row_in bytes) so_far.places (place ∷ [])))
          (next_one wanted (map (row_in bytes) so_far.places) old new path adds so_far.among);
    }

-- If no path remains, those that were found are among all.
pub all_found : (count taken : ℕ) (bytes : List ℕ) (start : ℕ) (wanted found : List (List ℕ)) → count ≤ taken → FoundSo count taken bytes start wanted found
    → AreAmong wanted (paths_in (some_paths_at count bytes)) found
all_found count taken bytes start wanted found le so_far =
    subst (λ (ps : List (List ℕ)). AreAmong wanted ps found) (all_placed count taken bytes start so_far.places le so_far.placed) so_far.among
