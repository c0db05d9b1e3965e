use Rattle.std.proofs.Common.{◌≡◌, ◌<◌, ◌∙◌, ℕ, List, [], Some, length, get_or, sym, subst, arith}
use Rattle.std.specs.Prelude.{Contains}
use Rattle.std.proofs.lemmas.List.Elements.{Contains-get_or}
use Rattle.plan_tools.proofs.order.maker_of_input.Goals as goal

pub returns-in-Some : goal.returns-in-Some
returns-in-Some c =
    let inputs : List ℕ = c.row-inputs.result.now in
    let within : c.args.passed < length inputs = omega (arith, c.if-passed-inputs.false) in
    let n : ℕ = get_or inputs c.args.passed 0 in
    (n, subst (λ (is : List ℕ). Contains is n) c.row-inputs.ensures (Contains-get_or inputs c.args.passed 0 within), sym c.producer_at.ensures ∙ c.in-Some.is)
