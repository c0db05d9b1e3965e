use Rattle.std.proofs.Common.{◌<◌, ◌≤◌, ◌∙◌, ap, arith, get_or, length, sym, []}
use Rattle.std.specs.Prelude.{option_map, slice_get}
use Rattle.plan_image.specs.declared.image.Edge.{Edge}
use Rattle.plan_image.specs.Columns.{edge_with, shared_body}
use Rattle.plan_image.proofs.ColumnLemmas.{found_by, past_by, shared_is}
use Rattle.plan_image.proofs.edges.Edges.shared_body.Goals as goal

pub returns-then-number-len : goal.returns-then-number-len
returns-then-number-len c =
    let heads = c.self.inside.heads.items in
    let f = edge_with c.self.inside.outputs c.self.inside.waits c.self.inside.opcodes c.self.inside.operands in
    let n = c.args.number in
    let past : length heads ≤ n = omega (arith, c.if-number-len.true, c.len.ensures, c.self.inside.heads.ok.0) in
    ap shared_body (ap (option_map (λ (e : Edge). e.code)) (sym (past_by f heads n past)) ∙ ap (λ es. option_map (λ (e : Edge). e.code) (slice_get es n)) c.self.view_is)

pub returns : goal.returns
returns c =
    let inside = c.self.inside in
    let heads = inside.heads.items in
    let f = edge_with inside.outputs inside.waits inside.opcodes inside.operands in
    let n = c.args.number in
    let here : n < length heads = omega (arith, c.if-number-len.false, c.len.ensures, c.self.inside.heads.ok.0) in
    shared_is c.index.result.now.body (get_or inside.opcodes n []) (get_or inside.operands n [])
    ∙ ap shared_body (ap (option_map (λ (e : Edge). e.code)) (sym (found_by f heads n c.index.result.now here c.index.ensures)) ∙ ap (λ es. option_map (λ (e : Edge). e.code) (slice_get es n)) c.self.view_is)
