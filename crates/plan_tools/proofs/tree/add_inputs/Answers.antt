use Rattle.std.proofs.Common.{◌≡◌, ◌≤◌, ◌++◌, ◌-◌, ◌∷◌, ◌∙◌, [], List, ℕ, Bool, ap, subst, not, get_or, length}
use Rattle.std.specs.Prelude.{filter}
use Rattle.plan_graph.specs.Files.{producer_at}
use Rattle.plan_tools.specs.Inputs.{is_edge}
use Rattle.plan_tools.specs.Tree.{lines_left, trees_of}
use Rattle.plan_tools.specs.declared.tree.Branch.{Branch}
use Rattle.plan_tools.proofs.RootLemmas.{filter_parts}
use Rattle.plan_tools.proofs.TreeLemmas.{one_before}
use Rattle.plan_tools.proofs.tree.add_inputs.Goals as goal

pub loop-number-preserved : goal.loop-number-preserved
loop-number-preserved c =
    let g = c.args.graph.now in
    let inputs : List ℕ = get_or g.inputs c.args.edge [] in
    let test : ℕ → Bool = λ i. not (is_edge c.args.edge (producer_at g.files i)) in
    let n : ℕ = c.loop-number.number in
    let within : n ≤ length inputs = subst (λ (is : List ℕ). n ≤ length is) c.row-inputs.ensures c.loop-number.auto.number in
    let new : List Branch = lines_left g c.add_input.new.stack.items in
    let old : List Branch = lines_left g c.loop-number.stack.items in
    let is : new ≡ trees_of g c.args.below c.args.indent (filter test (get_or inputs (n - 1) 0 ∷ [])) ++ old =
    c.in_ok-add_input.ensures ∙ ap (λ (is : List ℕ). trees_of g c.args.below c.args.indent (filter test (get_or is (n - 1) 0 ∷ [])) ++ old) c.row-inputs.ensures in
    one_before g c.args.below c.args.indent (filter test) (filter_parts test) inputs n new old (lines_left g c.args.stack.now.items) c.loop-number-test.true within is c.loop-number.invariant
