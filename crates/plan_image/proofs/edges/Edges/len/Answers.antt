use Rattle.std.proofs.Common.{◌∙◌, ap, length, sym}
use Rattle.plan_image.specs.Columns.{edge_with}
use Rattle.plan_image.proofs.ColumnLemmas.{length_by}
use Rattle.plan_image.proofs.edges.Edges.len.Goals as goal

pub returns : goal.returns
returns c =
    let f = edge_with c.self.inside.outputs c.self.inside.waits c.self.inside.opcodes c.self.inside.operands in
    c.len.ensures ∙ (c.self.inside.heads.ok.0 ∙ (sym (length_by f 0 c.self.inside.heads.items) ∙ ap (λ es. length es) c.self.view_is))
