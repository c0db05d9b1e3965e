-- The fixed data of an image, as the schedule uses them.
use Rattle.std.proofs.Common.{◌≡◌, ℕ, zero, suc, ◌+◌, ◌<◌, ◌≤◌, ◌^◌, List, [], ◌∷◌, ◌++◌, length, map, get_or, Option, Some, None, refl, sym, ap, ◌∙◌, subst, arith, inl, inr, add-one}
use Rattle.std.specs.Prelude.{All, IfOk, Result, Ok, Err, slice_get, slice_index, slice_index_or}
use Rattle.std.specs.List.{AllByRecursion}
use Rattle.std.proofs.lemmas.Bool.{cases_lt}
use Rattle.std.proofs.lemmas.List.{get_or_past}
use Rattle.plan_image.specs.declared.image.Edge.{Edge}
use Rattle.plan_image.specs.declared.image.Pool.{Pool}
use Rattle.plan_image.specs.declared.image.Parts.{Parts}
use Rattle.plan_image.specs.Spelling.{EdgeFits, HasSpelling, pool_number}
use Rattle.plan_verify.specs.Tables.{pool_in, pool_of, waits_in, waits_of}
use Rattle.plan_verify.specs.WellShaped.{IsWellShaped}
use Rattle.plan_verify.specs.Facts.{TablesAreInRange}
use Rattle.plan_schedule.specs.declared.plan.Plan.{Plan}
use Rattle.plan_schedule.specs.Scheduling.{IsPlan}
use Rattle.plan_machine.specs.Firsts.{first_of}
use Rattle.plan_machine.specs.Kept.{IsPlanOf}
use Rattle.plan_machine.proofs.ListLemmas.{index_member, map_length}
use Rattle.plan_machine.proofs.RankLemmas.{wait_below}

-- ---- the first values of a function

pub first_more : {A : Type 0} (f : ℕ → A) (n : ℕ) → first_of f (n + 1) ≡ first_of f n ++ f n ∷ []
first_more f n = rw add-one refl

append_length : {A : Type 0} (xs : List A) (y : A) → length (xs ++ y ∷ []) ≡ length xs + 1
append_length [] y = refl
append_length (x ∷ xs) y = let rest = append_length xs y in omega (arith, rest)

append_at : {A : Type 0} (xs : List A) (y d : A) (e : ℕ) → e < length xs → get_or (xs ++ y ∷ []) e d ≡ get_or xs e d
append_at [] y d e lt = absurd (omega (arith, lt))
append_at (x ∷ xs) y d zero lt = refl
append_at (x ∷ xs) y d (suc e) lt = append_at xs y d e (omega (arith, lt))

append_last : {A : Type 0} (xs : List A) (y d : A) (e : ℕ) → e ≡ length xs → get_or (xs ++ y ∷ []) e d ≡ y
append_last [] y d zero is = refl
append_last [] y d (suc e) is = absurd (omega (arith, is))
append_last (x ∷ xs) y d zero is = absurd (omega (arith, is))
append_last (x ∷ xs) y d (suc e) is = append_last xs y d e (omega (arith, is))

pub first_length : {A : Type 0} (f : ℕ → A) (n : ℕ) → length (first_of f n) ≡ n
first_length f zero = refl
first_length f (suc n) = let one = append_length (first_of f n) (f n) in let rest = first_length f n in omega (arith, one, rest)

pub first_at : {A : Type 0} (f : ℕ → A) (n e : ℕ) (d : A) → e < n → get_or (first_of f n) e d ≡ f e
first_at f zero e d lt = absurd (omega (arith, lt))
first_at f (suc n) e d lt = elim (cases_lt e n) [
  | inl below ↦ append_at (first_of f n) (f n) d e (omega (arith, below, first_length f n)) ∙ first_at f n e d below
  | inr past ↦ let same : e ≡ n = omega (arith, lt, past) in append_last (first_of f n) (f n) d e (omega (arith, same, first_length f n)) ∙ ap f (sym same)
]

-- ---- edges

pub get_past : {A : Type 0} (xs : List A) (k : ℕ) → length xs ≤ k → slice_get xs k ≡ None
get_past [] k h = refl
get_past (x ∷ xs) zero h = absurd (omega (arith, h))
get_past (x ∷ xs) (suc k) h = get_past xs k (omega (arith, h))

all_at : {A : Type 0} (P : A → Type 0) (xs : List A) (e : ℕ) (x : A) → AllByRecursion P xs → slice_get xs e ≡ Some x → P x
all_at P [] e x all at = absurd cc
all_at P (y ∷ xs) zero x all at = let same : y ≡ x = cc in subst P same all.0
all_at P (y ∷ xs) (suc e) x all at = all_at P xs e x all.1 at

waits_rows : (p : Parts) (e : ℕ) → get_or (first_of (waits_of p) (length p.edges)) e [] ≡ waits_of p e
waits_rows p e = elim (cases_lt e (length p.edges)) [
  | inl below ↦ first_at (waits_of p) (length p.edges) e [] below
  | inr past ↦ get_or_past (first_of (waits_of p) (length p.edges)) e [] (omega (arith, past, first_length (waits_of p) (length p.edges))) ∙ ap waits_in (sym (get_past p.edges e past))
]

module _ (in_range : TablesAreInRange) (p : Parts) (shaped : IsWellShaped p) (spelled : HasSpelling p) where
  pub pool_below : (e : ℕ) → pool_number (pool_of p e) ≤ length p.pools
  pool_below e = by (slice_get p.edges e) refl
    where
      by_pool : (x : Edge) → slice_get p.edges e ≡ Some x → (o : Option ℕ) → x.pool ≡ o → pool_number o ≤ length p.pools
      by_pool x at None is = omega arith
      by_pool x at (Some q) is = let lt = ((in_range p shaped).edges e x at).pool q is in omega (arith, lt)

      by : (o : Option Edge) → slice_get p.edges e ≡ o → pool_number (pool_in o) ≤ length p.pools
      by None at = omega arith
      by (Some x) at = by_pool x at x.pool refl

  pub pool_small : (e : ℕ) → pool_number (pool_of p e) < 2 ^ 32
  pool_small e = let below = pool_below e in let few = spelled.limits.counts.pools in omega (arith, below, few)

  pub edges_few : length p.edges < 2 ^ 32
  edges_few = let few : length p.edges ≤ 1048576 = spelled.limits.counts.edges in omega (arith, few)

  waits_inside : (e : ℕ) → All (λ w. w < length p.edges) (waits_of p e)
  waits_inside e k d lt = elim (cases_lt e (length p.edges)) [
    | inl below ↦ (wait_below in_range p shaped e (slice_index_or (waits_of p e) k d) below (index_member (waits_of p e) k d lt)).0
    | inr past ↦ absurd (let none : waits_of p e ≡ [] = ap waits_in (get_past p.edges e past) in let short : length (waits_of p e) ≡ 0 = ap (λ (l : List ℕ). length l) none in omega (arith, lt, short))
  ]

  waits_short : (e : ℕ) → length (waits_of p e) < 2 ^ 32
  waits_short e = by (slice_get p.edges e) refl
    where
      by : (o : Option Edge) → slice_get p.edges e ≡ o → length (waits_in o) < 2 ^ 32
      by None at = omega arith
      by (Some x) at = (all_at EdgeFits p.edges e x spelled.limits.items.edges at).waits.0

  module _ (waits : List (List ℕ)) (pools depths : List ℕ) (waits_is : waits ≡ first_of (waits_of p) (length p.edges)) (pools_is : pools ≡ first_of (λ e. pool_number (pool_of p e)) (length p.edges)) (depths_is : depths ≡ 0 ∷ map (λ (pool : Pool). pool.depth) p.pools) where
    row : (e : ℕ) → get_or waits e [] ≡ waits_of p e
    row e = ap (λ (l : List (List ℕ)). get_or l e []) waits_is ∙ waits_rows p e

    pub waits_long : length waits ≡ length p.edges
    waits_long = ap (λ (l : List (List ℕ)). length l) waits_is ∙ first_length (waits_of p) (length p.edges)

    pool_at : (e : ℕ) → e < length p.edges → slice_index pools e ≡ pool_number (pool_of p e)
    pool_at e lt = ap (λ (l : List ℕ). slice_index l e) pools_is ∙ first_at (λ k. pool_number (pool_of p k)) (length p.edges) e 0 lt

    depths_long : length depths ≡ length p.pools + 1
    depths_long = let one : length (0 ∷ map (λ (pool : Pool). pool.depth) p.pools) ≡ length p.pools + 1 = (let rest = map_length (λ (pool : Pool). pool.depth) p.pools in omega (arith, rest)) in ap (λ (l : List ℕ). length l) depths_is ∙ one

    pub plan_few : length waits + 1 < 2 ^ 32
    plan_few = let few : length p.edges ≤ 1048576 = spelled.limits.counts.edges in omega (arith, few, waits_long)

    pub plan_pools : length pools ≡ length waits
    plan_pools = ap (λ (l : List ℕ). length l) pools_is ∙ first_length (λ k. pool_number (pool_of p k)) (length p.edges) ∙ sym waits_long

    pub plan_in_pools : (e : ℕ) → e < length waits → slice_index pools e < length depths
    plan_in_pools e lt = let at = pool_at e (omega (arith, lt, waits_long)) in let below = pool_below e in omega (arith, at, below, depths_long)

    pub plan_few_pools : length depths + 5 < 2 ^ 32
    plan_few_pools = let few = spelled.limits.counts.pools in omega (arith, few, depths_long)

    pub plan_inside : (e : ℕ) → All (λ w. w < length waits) (get_or waits e [])
    plan_inside e = subst (λ (n : ℕ). All (λ w. w < n) (get_or waits e [])) (sym waits_long) (subst (λ (l : List ℕ). All (λ w. w < length p.edges) l) (sym (row e)) (waits_inside e))

    pub plan_short : (e : ℕ) → length (get_or waits e []) < 2 ^ 32
    plan_short e = subst (λ (l : List ℕ). length l < 2 ^ 32) (sym (row e)) (waits_short e)

    pub plan_made : {E : Type 0} (r : Result Plan E) → IfOk r (λ q. (q.waits.items ≡ waits) × (q.pools.items ≡ pools) × (q.depths.items ≡ depths)) → IfOk r IsPlan → IfOk r (IsPlanOf p)
    plan_made (Err x) rows good = tt
    plan_made (Ok q) rows good =
        record {
          good = good;
          edges = ap (λ (l : List (List ℕ)). length l) rows.0 ∙ waits_long;
          waits = λ e. ap (λ (l : List (List ℕ)). get_or l e []) rows.0 ∙ row e;
          pools = λ e lt. ap (λ (l : List ℕ). slice_index l e) rows.1 ∙ pool_at e lt;
          depths = rows.2 ∙ depths_is;
        }
