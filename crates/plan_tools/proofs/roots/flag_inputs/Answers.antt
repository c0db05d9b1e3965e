use Rattle.std.proofs.Common.{◌≡◌, ◌≤◌, ◌++◌, ◌∷◌, ◌∙◌, [], List, ℕ, Bool, refl, ap, sym, subst, append-nil, arith, get_or, length, not}
use Rattle.std.specs.Prelude.{filter}
use Rattle.std.proofs.lemmas.List.{drop_all}
use Rattle.plan_graph.specs.Files.{producer_at}
use Rattle.plan_tools.specs.Inputs.{is_edge}
use Rattle.plan_tools.specs.Roots.{AreFlagsOf}
use Rattle.plan_tools.proofs.RootLemmas.{one_filtered}
use Rattle.plan_tools.proofs.roots.flag_inputs.Goals as goal

pub loop-input-preserved : goal.loop-input-preserved
loop-input-preserved c =
    let items : List ℕ = c.row-input-items.result.now in
    let i : ℕ = c.loop-input.input-index in
    let test : ℕ → Bool = λ p. not (is_edge c.args.edge (producer_at c.args.graph.now.files p)) in (
      c.flag_input.ensures.sized ∙ c.loop-input.invariant.0,
      λ paths h. let so_far = c.loop-input.invariant.1 paths h in (
        so_far.0 ++ filter test (get_or items i 0 ∷ []),
        one_filtered test items i (get_or items i 0) so_far.0 paths c.loop-input-test.true refl so_far.1,
        c.flag_input.ensures.set so_far.0 so_far.2,
      ),
    )

pub returns-clause-set : goal.returns-clause-set
returns-clause-set c paths h =
    let items : List ℕ = c.row-input-items.result.now in
    let i : ℕ = c.loop-input.input-index in
    let test : ℕ → Bool = λ p. not (is_edge c.args.edge (producer_at c.args.graph.now.files p)) in
    let so_far = c.loop-input.invariant.1 paths h in
    let past : length items ≤ i = omega (arith, c.loop-input-test.false) in
    let all : so_far.0 ≡ paths ++ filter test (get_or c.args.graph.now.inputs c.args.edge []) =
    sym (append-nil so_far.0) ∙ (ap (λ (xs : List ℕ). so_far.0 ++ filter test xs) (sym (drop_all i items past)) ∙ (so_far.1 ∙ ap (λ (xs : List ℕ). paths ++ filter test xs) c.row-input-items.ensures)) in
    subst (λ (xs : List ℕ). AreFlagsOf xs c.loop-input.flags) all so_far.2
