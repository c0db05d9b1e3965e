-- Lines of edges, one edge after another. Serves src/outcomes.rt.
use Rattle.std.proofs.Common.{◌≡◌, ◌<◌, ℕ, zero, suc, ◌+◌, refl, ltb, arith, Bool, true, false, ◌&&◌, List, ◌∷◌, ◌++◌, sym, ap, ◌∙◌, append_assoc, slice_get, Option}
use Rattle.std.proofs.lemmas.Bool.{ltb-true, ltb-false}
use Rattle.plan_image.specs.declared.image.Edge.{Edge}
use Rattle.plan_image.specs.declared.image.Parts.{Parts}
use Rattle.plan_machine.specs.declared.event.Outcome.{Outcome}
use Rattle.plan_machine.specs.State.{State, outcome_at}
use Rattle.plan_status.specs.Outcomes.{are_done, edge_line, is_done, outcomes_from}

-- one line more
pub one_more : (p : Parts) (s : State) (i : ℕ) (edge : Edge) (outcome : Option Outcome) (left rest : List Edge) (done total : List ℕ)
    → left ≡ edge ∷ rest → outcome ≡ outcome_at (slice_get s.edges i) → done ++ outcomes_from p s i left ≡ total
    → (done ++ edge_line p i edge outcome) ++ outcomes_from p s (i + 1) rest ≡ total
one_more p s i edge outcome left rest done total is came so_far =
    let behind : List ℕ = outcomes_from p s (i + 1) rest in
    let there : done ++ outcomes_from p s i (edge ∷ rest) ≡ total = ap (λ ys. done ++ outcomes_from p s i ys) (sym is) ∙ so_far in
    let named : done ++ (edge_line p i edge outcome ++ behind) ≡ done ++ (edge_line p i edge (outcome_at (slice_get s.edges i)) ++ behind)
    = ap (λ (o : Option Outcome). done ++ (edge_line p i edge o ++ behind)) came in
    append_assoc done (edge_line p i edge outcome) behind ∙ (named ∙ there)

-- one edge more is done
pub one_done : (s : State) (e : ℕ) (well : Bool) → are_done s e ≡ true → well ≡ is_done (outcome_at (slice_get s.edges e)) → well ≡ true → are_done s (e + 1) ≡ true
one_done s e well so_far is yet =
    let one : e + 1 ≡ suc e = omega arith in
    let both : (are_done s e && is_done (outcome_at (slice_get s.edges e))) ≡ true = ap (λ (b : Bool). b && is_done (outcome_at (slice_get s.edges e))) so_far ∙ (sym is ∙ yet) in
    rw one both

and_false : (a : Bool) → (a && false) ≡ false
and_false true = refl
and_false false = refl

last_not_done : (s : State) (e n : ℕ) (well : Bool) → (e < n → are_done s n ≡ false) → e < suc n → well ≡ is_done (outcome_at (slice_get s.edges e)) → well ≡ false → are_done s (suc n) ≡ false
last_not_done s e n well before less is ill = by_place (ltb e n) refl
  where
    by_place : (b : Bool) → ltb e n ≡ b → are_done s (suc n) ≡ false
    by_place true below = ap (λ (b : Bool). b && is_done (outcome_at (slice_get s.edges n))) (before (ltb-true e n below))
    by_place false above =
        let high = ltb-false e n above in
        let same : e ≡ n = omega (arith, less, high) in
        let last : is_done (outcome_at (slice_get s.edges n)) ≡ false = ap (λ (k : ℕ). is_done (outcome_at (slice_get s.edges k))) (sym same) ∙ (sym is ∙ ill) in
        ap (λ (b : Bool). are_done s n && b) last ∙ and_false (are_done s n)

-- an edge that isn't done is enough
pub not_done : (s : State) (e n : ℕ) (well : Bool) → e < n → well ≡ is_done (outcome_at (slice_get s.edges e)) → well ≡ false → are_done s n ≡ false
not_done s e zero well less is ill = absurd (omega (arith, less))
not_done s e (suc n) well less is ill = last_not_done s e n well (λ below. not_done s e n well below is ill) less is ill
