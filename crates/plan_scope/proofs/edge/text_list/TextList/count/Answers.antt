use Rattle.std.proofs.Common.{◌∙◌, List, ap, length, sym}
use Rattle.plan_scope.specs.Scopes.{Text}
use Rattle.plan_scope.proofs.TextListLemmas.{texts_length}
use Rattle.plan_scope.proofs.edge.text_list.TextList.count.Goals as goal

pub returns : goal.returns
returns c =
    c.in_ok-count.ensures ∙ sym (texts_length c.self.inside.chunks c.self.inside.rows c.self.inside.long) ∙ ap (λ (ts : List Text). length ts) c.self.view_is
