use Rattle.std.proofs.Common.{◌≡◌, ◌∷◌, ◌++◌, ◌∙◌, [], List, ap, refl}
use Rattle.std.proofs.lemmas.Result.{err_from_is_err_and}
use Rattle.plan_image.specs.declared.image.Edge.{Edge}
use Rattle.plan_image.specs.declared.edge_ref.Head.{Head}
use Rattle.plan_image.specs.Columns.{by_place, edge_with, lent}
use Rattle.plan_image.proofs.ColumnLemmas.{edges_more, edges_same, rows_stay}
use Rattle.plan_image.proofs.edges.Edges.push_ref.Goals as goal

pub returns-in_err-put_row-clause-refused : goal.returns-in_err-put_row-clause-refused
returns-in_err-put_row-clause-refused c =
    let s = c.self.inside in
    let n = c.len-number.result in
    let p = err_from_is_err_and c.from_residual.result c.from_residual.ensures.1 in
    rw p.1 (edges_same s.heads.items n s.outputs c.put_row.new.rows s.waits s.waits s.opcodes s.opcodes s.operands s.operands (c.len-number.ensures ∙ s.heads.ok.0)
    c.put_row.ensures.above (rows_stay s.waits n) (rows_stay s.opcodes n) (rows_stay s.operands n) ∙ c.self.view_is)

pub returns-in_err-put_row-2-clause-refused : goal.returns-in_err-put_row-2-clause-refused
returns-in_err-put_row-2-clause-refused c =
    let s = c.self.inside in
    let n = c.len-number.result in
    let p = err_from_is_err_and c.from_residual-in_err-put_row-2.result c.from_residual-in_err-put_row-2.ensures.1 in
    rw p.1 (edges_same s.heads.items n s.outputs c.put_row.new.rows s.waits c.put_row-2.new.rows s.opcodes s.opcodes s.operands s.operands (c.len-number.ensures ∙ s.heads.ok.0)
    c.put_row.ensures.above c.put_row-2.ensures.above (rows_stay s.opcodes n) (rows_stay s.operands n) ∙ c.self.view_is)

pub returns-in_err-put_row-3-clause-refused : goal.returns-in_err-put_row-3-clause-refused
returns-in_err-put_row-3-clause-refused c =
    let s = c.self.inside in
    let n = c.len-number.result in
    let p = err_from_is_err_and c.from_residual-in_err-put_row-3.result c.from_residual-in_err-put_row-3.ensures.1 in
    rw p.1 (edges_same s.heads.items n s.outputs c.put_row.new.rows s.waits c.put_row-2.new.rows s.opcodes c.put_row-3.new.rows s.operands s.operands (c.len-number.ensures ∙ s.heads.ok.0)
    c.put_row.ensures.above c.put_row-2.ensures.above c.put_row-3.ensures.above (rows_stay s.operands n) ∙ c.self.view_is)

pub returns-in_err-put_row-4-clause-refused : goal.returns-in_err-put_row-4-clause-refused
returns-in_err-put_row-4-clause-refused c =
    let s = c.self.inside in
    let n = c.len-number.result in
    let p = err_from_is_err_and c.from_residual-in_err-put_row-4.result c.from_residual-in_err-put_row-4.ensures.1 in
    rw p.1 (edges_same s.heads.items n s.outputs c.put_row.new.rows s.waits c.put_row-2.new.rows s.opcodes c.put_row-3.new.rows s.operands c.put_row-4.new.rows (c.len-number.ensures ∙ s.heads.ok.0)
    c.put_row.ensures.above c.put_row-2.ensures.above c.put_row-3.ensures.above c.put_row-4.ensures.above ∙ c.self.view_is)

pub returns-in_err-push-clause-refused : goal.returns-in_err-push-clause-refused
returns-in_err-push-clause-refused c =
    let s = c.self.inside in
    let n = c.len-number.result in
    let f = edge_with c.put_row.new.rows c.put_row-2.new.rows c.put_row-3.new.rows c.put_row-4.new.rows in
    let p = err_from_is_err_and c.from_residual-in_err-push.result c.from_residual-in_err-push.ensures.1 in
    rw p.1 (ap (λ (hs : List Head). by_place f 0 hs) c.in_err-push.ensures.items
    ∙ (edges_same s.heads.items n s.outputs c.put_row.new.rows s.waits c.put_row-2.new.rows s.opcodes c.put_row-3.new.rows s.operands c.put_row-4.new.rows (c.len-number.ensures ∙ s.heads.ok.0)
    c.put_row.ensures.above c.put_row-2.ensures.above c.put_row-3.ensures.above c.put_row-4.ensures.above ∙ c.self.view_is))

pub returns-clause-more : goal.returns-clause-more
returns-clause-more c =
    let s = c.self.inside in
    let n = c.len-number.result in
    let x = c.args.edge in
    let f = edge_with c.put_row.new.rows c.put_row-2.new.rows c.put_row-3.new.rows c.put_row-4.new.rows in
    let head : Head = record { sort = x.sort; pool = x.pool; rank = x.rank; label = x.label; body = c.columns_of-body.result.0 } in
    let shown : f n head ≡ lent x = rw (c.in_ok-put_row.ensures.put, c.in_ok-put_row-2.ensures.put, c.in_ok-put_row-3.ensures.put, c.in_ok-put_row-4.ensures.put, c.columns_of-body.ensures) refl in
    ap (λ (hs : List Head). by_place f 0 hs) c.in_ok-push.ensures.items
    ∙ (edges_more s.heads.items n head (lent x) s.outputs c.put_row.new.rows s.waits c.put_row-2.new.rows s.opcodes c.put_row-3.new.rows s.operands c.put_row-4.new.rows (c.len-number.ensures ∙ s.heads.ok.0)
    c.put_row.ensures.above c.put_row-2.ensures.above c.put_row-3.ensures.above c.put_row-4.ensures.above shown ∙ ap (λ (es : List Edge). es ++ lent x ∷ []) c.self.view_is)
