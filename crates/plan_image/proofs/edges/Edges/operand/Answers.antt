use Rattle.std.proofs.Common.{◌≡◌, ◌∙◌, ap, get_or, sym}
use Rattle.std.specs.Prelude.{is_some, option_map, slice_get}
use Rattle.plan_image.specs.declared.image.Edge.{Edge}
use Rattle.plan_image.specs.Columns.{code_at, edge_with, shared_body, shared_operands}
use Rattle.plan_image.proofs.ColumnLemmas.{get_by, operands_are}
use Rattle.plan_image.proofs.edges.Edges.operand.Goals as goal

pub returns : goal.returns
returns c =
    let inside = c.self.inside in
    let heads = inside.heads.items in
    let f = edge_with inside.outputs inside.waits inside.opcodes inside.operands in
    let n = c.args.number in
    let same : option_map (λ (e : Edge). e.code) (option_map (f n) (slice_get heads n)) ≡ code_at c.args.self.now n =
    ap (option_map (λ (e : Edge). e.code)) (sym (get_by f heads n)) ∙ ap (λ es. option_map (λ (e : Edge). e.code) (slice_get es n)) c.self.view_is in
    let shares = ap (λ code. is_some (shared_body code)) same ∙ c.requires in
    c.number_at.ensures ∙ ap (λ ns. get_or ns c.args.rank 0) (c.row.ensures ∙ operands_are inside.outputs inside.waits inside.opcodes inside.operands n (slice_get heads n) shares ∙ ap shared_operands same)
