use Rattle.std.proofs.Common.{◌<◌, ◌≤◌, ◌∙◌, Some, ap, arith, length, sym}
use Rattle.std.specs.Prelude.{option_map, slice_get}
use Rattle.plan_image.specs.declared.image.Edge.{Edge}
use Rattle.plan_image.specs.Columns.{edge_with}
use Rattle.plan_image.proofs.ColumnLemmas.{found_by, past_by}
use Rattle.plan_image.proofs.edges.Edges.code.Goals as goal

pub returns-then-number-len : goal.returns-then-number-len
returns-then-number-len c =
    let heads = c.self.inside.heads.items in
    let f = edge_with c.self.inside.outputs c.self.inside.waits c.self.inside.opcodes c.self.inside.operands in
    let n = c.args.number in
    let past : length heads ≤ n = omega (arith, c.if-number-len.true, c.len.ensures, c.self.inside.heads.ok.0) in
    ap (option_map (λ (e : Edge). e.code)) (sym (past_by f heads n past)) ∙ ap (λ es. option_map (λ (e : Edge). e.code) (slice_get es n)) c.self.view_is

pub returns : goal.returns
returns c =
    let heads = c.self.inside.heads.items in
    let f = edge_with c.self.inside.outputs c.self.inside.waits c.self.inside.opcodes c.self.inside.operands in
    let n = c.args.number in
    let here : n < length heads = omega (arith, c.if-number-len.false, c.len.ensures, c.self.inside.heads.ok.0) in
    ap Some c.code_in.ensures ∙ (ap (option_map (λ (e : Edge). e.code)) (sym (found_by f heads n c.index.result.now here c.index.ensures)) ∙ ap (λ es. option_map (λ (e : Edge). e.code) (slice_get es n)) c.self.view_is)
