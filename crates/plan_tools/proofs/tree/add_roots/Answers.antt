use Rattle.std.proofs.Common.{◌≡◌, ◌++◌, ◌-◌, ◌∷◌, ◌∙◌, [], List, ℕ, refl, ap, get_or}
use Rattle.plan_tools.specs.Tree.{branch, lines_left, trees_of}
use Rattle.plan_tools.specs.declared.tree.Branch.{Branch}
use Rattle.plan_tools.proofs.TreeLemmas.{left_one, one_before}
use Rattle.plan_tools.proofs.tree.add_roots.Goals as goal

pub loop-number-preserved : goal.loop-number-preserved
loop-number-preserved c =
    let g = c.args.graph.now in
    let roots : List ℕ = c.args.roots.now in
    let n : ℕ = c.loop-number.number in
    let new : List Branch = lines_left g c.push.new.self.items in
    let old : List Branch = c.loop-number.stack.items in
    let is : new ≡ trees_of g c.args.below 0 (get_or roots (n - 1) 0 ∷ []) ++ lines_left g old =
    ap (lines_left g) c.in_ok-push.ensures.items ∙ left_one g old (branch 0 c.args.below (get_or roots (n - 1) 0)) in
    one_before g c.args.below 0 (λ xs. xs) (λ y ys. refl) roots n new (lines_left g old) (lines_left g c.args.stack.now.items) c.loop-number-test.true c.loop-number.auto.number is c.loop-number.invariant
