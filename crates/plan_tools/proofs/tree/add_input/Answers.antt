use Rattle.std.proofs.Common.{◌≡◌, ◌++◌, ◌∷◌, ◌∙◌, [], List, Bool, true, ap, sym, not}
use Rattle.std.specs.Prelude.{cond}
use Rattle.plan_graph.specs.Files.{producer_at}
use Rattle.plan_tools.specs.Inputs.{is_edge}
use Rattle.plan_tools.specs.Tree.{lines_left, trees_of}
use Rattle.plan_tools.specs.declared.tree.Branch.{Branch}
use Rattle.plan_tools.proofs.TreeLemmas.{left_one}
use Rattle.plan_tools.proofs.tree.add_input.Goals as goal

pub returns-in_ok-push : goal.returns-in_ok-push
returns-in_ok-push c =
    let g = c.args.graph.now in
    let b : Branch = c.args.input in
    let old : List Branch = c.args.stack.now.items in
    let made : Bool = is_edge c.args.edge (producer_at g.files b.path) in
    let other : not made ≡ true = ap not (sym c.is_made_by.ensures ∙ c.if-not-is_made_by.true) in
    let one : lines_left g c.push.new.self.items ≡ trees_of g b.below b.indent (b.path ∷ []) ++ lines_left g old = ap (lines_left g) c.in_ok-push.ensures.items ∙ left_one g old b in
    one ∙ ap (λ (t : Bool). trees_of g b.below b.indent (cond t (b.path ∷ []) []) ++ lines_left g old) (sym other)
