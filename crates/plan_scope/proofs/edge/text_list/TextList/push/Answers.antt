use Rattle.std.proofs.Common.{◌∙◌, ◌++◌, ◌∷◌, [], List, ap}
use Rattle.plan_scope.specs.Scopes.{Text}
use Rattle.plan_scope.specs.TextLists.{texts_from}
use Rattle.plan_scope.proofs.TextListLemmas.{row_put}
use Rattle.plan_scope.proofs.edge.text_list.TextList.push.Goals as goal

pub returns-then-text-lt-LONG_TEXT : goal.returns-then-text-lt-LONG_TEXT
returns-then-text-lt-LONG_TEXT c =
    let chunks : List Text = c.self.inside.chunks in
    ap (λ (rows : List Text). texts_from chunks rows c.self.inside.long) c.in_ok-push.ensures.more
    ∙ row_put chunks c.self.inside.rows c.self.inside.long c.args.text.now c.self.invariant.0
    ∙ ap (λ (ts : List Text). ts ++ c.args.text.now ∷ []) c.self.view_is
