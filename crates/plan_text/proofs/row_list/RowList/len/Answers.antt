use Rattle.std.proofs.Common.{◌∙◌, ap, length, sym}
use Rattle.plan_text.proofs.RowListLemmas.{length_rows}
use Rattle.plan_text.proofs.row_list.RowList.len.Goals as goal

pub returns : goal.returns
returns g c =
    let items = c.self.inside.items.items in
    let ends = c.self.inside.ends.items in
    c.len.ensures ∙ (c.self.inside.ends.ok.0 ∙ (sym (length_rows 0 items ends) ∙ ap (λ rs. length rs) c.self.view_is))
