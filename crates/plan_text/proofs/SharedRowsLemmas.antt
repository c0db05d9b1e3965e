-- Rows that are parts of shared bytes. Lemmas for src/shared_rows.rt.
use Rattle.std.proofs.Common.{◌≡◌, ℕ, suc, ◌+◌, ◌-◌, ◌<◌, ◌≤◌, ◌⊎◌, inl, inr, List, [], ◌∷◌, length, refl, sym, ◌∙◌, ap, arith, take, drop, subst}
use Rattle.std.specs.Prelude.{map}
use Rattle.std.proofs.lemmas.Bool.{cases_order}
use Rattle.std.proofs.lemmas.List.{drop-take, take-take}
use Rattle.plan_text.specs.declared.shared_rows.Place.{Place}
use Rattle.plan_text.specs.SharedRows.{AreWithin, IsWithin, row_in}

-- a row that ends within the first bytes is theirs
row_of_front : (bytes : List ℕ) (place : Place) (end : ℕ) → place.start + place.len ≤ end → row_in (take end bytes) place ≡ row_in bytes place
row_of_front bytes place end within =
    let whole : place.start + (end - place.start) ≡ end = omega (arith, within) in
    let fits : place.len ≤ end - place.start = omega (arith, within) in
    ap (λ (n : ℕ). take place.len (drop place.start (take n bytes))) (sym whole)
    ∙ ap (take place.len) (drop-take place.start (end - place.start) bytes)
    ∙ take-take place.len (end - place.start) (drop place.start bytes) fits

-- two lists of bytes with the same front have the same row there
row_of_both : (bytes others : List ℕ) (place : Place) (end : ℕ) → place.start + place.len ≤ end → take end bytes ≡ take end others → row_in bytes place ≡ row_in others place
row_of_both bytes others place end within same =
    sym (row_of_front bytes place end within) ∙ ap (λ (b : List ℕ). row_in b place) same ∙ row_of_front others place end within

-- lists of the same places within the same front have the same rows
pub rows_of_both : (bytes others : List ℕ) (end : ℕ) (first second : List Place) → take end bytes ≡ take end others → length first ≡ length second → AreWithin end first second (length first)
    → map (row_in bytes) first ≡ map (row_in others) second
rows_of_both bytes others end [] [] same long within = refl
rows_of_both bytes others end [] (q ∷ qs) same long within = absurd (omega (arith, long))
rows_of_both bytes others end (p ∷ ps) [] same long within = absurd (omega (arith, long))
rows_of_both bytes others end (p ∷ ps) (q ∷ qs) same long within =
    let here = within 0 (omega arith) in
    let is_first : p ≡ here.0 = cc in
    let is_second : here.0 ≡ q = cc in
    let row : row_in bytes p ≡ row_in others q =
    ap (row_in bytes) is_first ∙ row_of_both bytes others here.0 end here.3 same ∙ ap (row_in others) is_second in
    let left : length ps ≡ length qs = omega (arith, long) in
    let rest : map (row_in bytes) ps ≡ map (row_in others) qs =
    rows_of_both bytes others end ps qs same left (λ n inside. within (suc n) (omega (arith, inside))) in
    cc

-- the places up to a number, and that one too
pub one_more : (end next new n : ℕ) (first second : List Place) → end ≤ new → next ≤ new → AreWithin end first second n → IsWithin next first second n → AreWithin new first second (n + 1)
one_more end next new n first second below above before here k lt = by k lt (cases_order k n)
  where
    by : (k : ℕ) → k < n + 1 → (k ≡ n) ⊎ ((k < n) ⊎ (n < k)) → IsWithin new first second k
    by k lt (inl is) = subst (IsWithin new first second) (sym is) (here.0, here.1, here.2, omega (arith, here.3, above))
    by k lt (inr (inl less)) = let it = before k less in (it.0, it.1, it.2, omega (arith, it.3, below))
    by k lt (inr (inr more)) = absurd (omega (arith, lt, more))
