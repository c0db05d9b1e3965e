-- Rows of waits with further ones. Used for src/further_waits.rt.
use Rattle.std.proofs.Common.{◌≡◌, ◌⊎◌, inl, inr, ◌<◌, ◌≤◌, ◌+◌, ◌++◌, ◌∷◌, [], ℕ, zero, suc, List, arith, get_or, length, sym, subst, Option, Some, None, Result, Ok, Err, IfOk, IfSome}
use Rattle.std.specs.Prelude.{All, Contains}
use Rattle.std.proofs.lemmas.List.Elements.{All-append, All-contains, All-nil, All-weaker}
use Rattle.plan_graph.specs.declared.further_waits.Wait.{Wait}
use Rattle.plan_graph.specs.Cycles.{IsCycle, WaitsFor}
use Rattle.plan_graph.specs.FurtherWaits.{AreAmong, ClosesCycle, IsFurther, IsRow}
use Rattle.plan_graph.specs.Walking.{InRange}

-- A property of each row by its number holds with one more row.
one_more : (Q : ℕ → List ℕ → Type 0) (rows : List (List ℕ)) (row : List ℕ) → ((e : ℕ) → Q e []) → ((e : ℕ) → Q e (get_or rows e [])) → Q (length rows) row → (e : ℕ) → Q e (get_or (rows ++ row ∷ []) e [])
one_more Q [] row none all here zero = here
one_more Q [] row none all here (suc e) = none (suc e)
one_more Q (r ∷ rows) row none all here zero = all zero
one_more Q (r ∷ rows) row none all here (suc e) = one_more (λ n. Q (suc n)) rows row (λ n. none (suc n)) (λ n. all (suc n)) here e

-- A row of own waits, with further ones.
pub row_of : (waits : List (List ℕ)) (more : List Wait) (e : ℕ) (own added : List ℕ) → All (λ w. (w < length waits) × WaitsFor waits e w) own → All (λ w. (w < length waits) × IsFurther more e w) added → IsRow waits more e (own ++ added)
row_of waits more e own added h k =
    All-append (λ w. (w < length waits) × (WaitsFor waits e w ⊎ IsFurther more e w)) own added
    (All-weaker (λ w. (w < length waits) × WaitsFor waits e w) (λ w. (w < length waits) × (WaitsFor waits e w ⊎ IsFurther more e w)) (λ w p. (p.0, inl p.1)) own h)
    (All-weaker (λ w. (w < length waits) × IsFurther more e w) (λ w. (w < length waits) × (WaitsFor waits e w ⊎ IsFurther more e w)) (λ w p. (p.0, inr p.1)) added k)

no_row : (waits : List (List ℕ)) (more : List Wait) (e : ℕ) → IsRow waits more e []
no_row waits more e = All-nil (λ w. (w < length waits) × (WaitsFor waits e w ⊎ IsFurther more e w))

pub no_rows : (waits : List (List ℕ)) (more : List Wait) (e : ℕ) → IsRow waits more e (get_or {A = List ℕ} [] e [])
no_rows waits more zero = no_row waits more zero
no_rows waits more (suc e) = no_row waits more (suc e)

pub rows_more : (waits : List (List ℕ)) (more : List Wait) (rows : List (List ℕ)) (row : List ℕ) (n : ℕ) → length rows ≡ n → ((e : ℕ) → IsRow waits more e (get_or rows e [])) → IsRow waits more n row
    → (e : ℕ) → IsRow waits more e (get_or (rows ++ row ∷ []) e [])
rows_more waits more rows row n long all here = one_more (IsRow waits more) rows row (no_row waits more) all (subst (λ m. IsRow waits more m row) (sym long) here)

pub in_range : (waits : List (List ℕ)) (more : List Wait) (rows : List (List ℕ)) → length rows ≡ length waits → ((e : ℕ) → IsRow waits more e (get_or rows e [])) → InRange rows
in_range waits more rows long all =
    λ e. All-weaker (λ w. (w < length waits) × (WaitsFor waits e w ⊎ IsFurther more e w)) (λ w. w < length rows) (λ w p. omega (arith, p.0, long)) (get_or rows e []) (all e)

closes : (waits : List (List ℕ)) (more : List Wait) (rows : List (List ℕ)) (es : List ℕ) → ((e : ℕ) → IsRow waits more e (get_or rows e [])) → IsCycle rows es → ClosesCycle waits more es
closes waits more rows es all is =
    (rows, (λ e w h. (All-contains (λ v. (v < length waits) × (WaitsFor waits e v ⊎ IsFurther more e v)) (get_or rows e []) w (all e) h).1), is)

pub closes_if : {E : Type 0} (waits : List (List ℕ)) (more : List Wait) (rows : List (List ℕ)) (result : Result (Option (List ℕ)) E) → ((e : ℕ) → IsRow waits more e (get_or rows e [])) → IfOk result (λ c. IfSome c (λ es. IsCycle rows es))
    → IfOk result (λ c. IfSome c (λ es. ClosesCycle waits more es))
closes_if waits more rows (Ok (Some es)) all is = closes waits more rows es all is
closes_if waits more rows (Ok None) all is = tt
closes_if waits more rows (Err e) all is = tt
