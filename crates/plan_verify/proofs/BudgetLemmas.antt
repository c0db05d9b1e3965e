-- Budgets, and the length of code.
use Rattle.std.proofs.Common.{◌≡◌, ℕ, zero, suc, ◌+◌, ◌^◌, ◌≤◌, List, [], ◌∷◌, length, drop, Option, Some, None, refl, ap, arith, add-one}
use Rattle.std.specs.Prelude.{slice_get}
use Rattle.plan_image.specs.declared.body.Instr.{Instr}
use Rattle.plan_image.specs.declared.body.BodyInstr.{BodyInstr}
use Rattle.plan_image.specs.declared.image.Edge.{Edge}
use Rattle.plan_image.specs.declared.image.Parts.{Parts}
use Rattle.plan_image.specs.Code.{code, edge_code}
use Rattle.plan_image.specs.Spelling.{HasSpelling, instructions, most_code}
use Rattle.plan_verify.specs.Budget.{cost, costs, edge_budget, budget_of_first}
use Rattle.plan_verify.proofs.OwnSlotsLemmas.{rest_at}

-- the cost of one instruction and of the code after it
pub spend_one : (is : List Instr) (place : ℕ) (i : Instr) → slice_get is place ≡ Some i → costs (drop place is) ≡ cost i + costs (drop (place + 1) is)
spend_one is place i here = ap costs (rest_at place is i here)

code_within : (bodies : Option (List (List BodyInstr))) (edges : List Edge) (e : ℕ) → length (edge_code bodies (slice_get edges e)) ≤ instructions bodies edges
code_within bodies [] e = omega arith
code_within bodies (x ∷ xs) zero = omega arith
code_within bodies (x ∷ xs) (suc e) = let rest = code_within bodies xs e in omega (arith, rest)

few_by : (bodies : Option (List (List BodyInstr))) → most_code bodies ≤ 2 ^ 26
few_by None = omega arith
few_by (Some bs) = omega arith

-- the code of an edge of an image is short
pub code_short : (p : Parts) (e : ℕ) → HasSpelling p → length (code p e) ≤ 67108864
code_short p e spelled =
    let most = spelled.limits.instructions in
    let few : most_code p.bodies ≤ 67108864 = few_by p.bodies in
    let one = code_within p.bodies p.edges e in
    omega (arith, most, few, one)

-- the budget of one more edge
pub budget_more : (p : Parts) (n : ℕ) → budget_of_first p (n + 1) ≡ budget_of_first p n + edge_budget p n
budget_more p n = rw add-one refl
