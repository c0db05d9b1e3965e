use Rattle.std.proofs.Common.{◌∙◌, ◌++◌, [], List, ℕ, ap, get_or}
use Rattle.plan_scope.specs.Scopes.{Text}
use Rattle.plan_chunks.specs.Joining.{joined}
use Rattle.plan_scope.specs.TextLists.{whole}
use Rattle.plan_scope.proofs.TextListLemmas.{parts_whole, text_at}
use Rattle.plan_scope.proofs.edge.text_list.TextList.text.Goals as goal

pub returns : goal.returns
returns c =
    let chunks : List Text = c.self.inside.chunks in
    let rows : List Text = c.self.inside.rows in
    let long : List (List ℕ) = c.self.inside.long in
    let n = c.args.number in
    ap whole c.new.ensures ∙ parts_whole c.row.result.now chunks c.row-2.result.now
    ∙ ap (λ (t : Text). t ++ joined chunks c.row-2.result.now) c.row.ensures
    ∙ ap (λ (ns : List ℕ). get_or rows n [] ++ joined chunks ns) c.row-2.ensures
    ∙ text_at chunks rows long n c.self.invariant.0
    ∙ ap (λ (ts : List Text). get_or ts n []) c.self.view_is
