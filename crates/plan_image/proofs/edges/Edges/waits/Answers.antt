use Rattle.std.proofs.Common.{[], ◌<◌, ◌≤◌, ◌∙◌, Some, ap, arith, get_or, length, refl, sym}
use Rattle.std.specs.Prelude.{option_map, slice_get}
use Rattle.plan_image.specs.declared.image.Edge.{Edge}
use Rattle.plan_image.specs.Columns.{edge_with}
use Rattle.plan_image.proofs.ColumnLemmas.{each_by, past_by}
use Rattle.plan_image.proofs.edges.Edges.waits.Goals as goal

pub returns-then-number-len : goal.returns-then-number-len
returns-then-number-len c =
    let heads = c.self.inside.heads.items in
    let f = edge_with c.self.inside.outputs c.self.inside.waits c.self.inside.opcodes c.self.inside.operands in
    let n = c.args.number in
    let past : length heads ≤ n = omega (arith, c.if-number-len.true, c.len.ensures, c.self.inside.heads.ok.0) in
    ap (option_map (λ (e : Edge). e.waits)) (sym (past_by f heads n past)) ∙ ap (λ es. option_map (λ (e : Edge). e.waits) (slice_get es n)) c.self.view_is

pub returns : goal.returns
returns c =
    let heads = c.self.inside.heads.items in
    let f = edge_with c.self.inside.outputs c.self.inside.waits c.self.inside.opcodes c.self.inside.operands in
    let n = c.args.number in
    let here : n < length heads = omega (arith, c.if-number-len.false, c.len.ensures, c.self.inside.heads.ok.0) in
    ap Some c.row.ensures ∙ (sym (each_by (λ (e : Edge). e.waits) (get_or c.self.inside.waits n []) f heads n here (λ h. refl)) ∙ ap (λ es. option_map (λ (e : Edge). e.waits) (slice_get es n)) c.self.view_is)
