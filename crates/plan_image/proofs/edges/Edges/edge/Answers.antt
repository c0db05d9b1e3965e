use Rattle.std.proofs.Common.{◌≡◌, ◌<◌, ◌+◌, ◌∷◌, ◌∙◌, List, ap, arith, drop, length, refl, sym}
use Rattle.std.specs.Prelude.{slice_get}
use Rattle.plan_image.specs.declared.image.Edge.{Edge}
use Rattle.plan_image.specs.Columns.{edge_with, lent}
use Rattle.plan_image.proofs.ColumnLemmas.{drop_by, found_by, length_by}
use Rattle.plan_image.proofs.edges.Edges.edge.Goals as goal

pub index-head-requires : goal.index-head-requires
index-head-requires c =
    let f = edge_with c.self.inside.outputs c.self.inside.waits c.self.inside.opcodes c.self.inside.operands in
    let long : length c.args.self.now ≡ length c.self.inside.heads.items = ap (λ es. length es) (sym c.self.view_is) ∙ length_by f 0 c.self.inside.heads.items in
    omega (arith, c.requires, long, c.self.inside.heads.ok.0)

pub returns-clause-found : goal.returns-clause-found
returns-clause-found c =
    let heads = c.self.inside.heads.items in
    let f = edge_with c.self.inside.outputs c.self.inside.waits c.self.inside.opcodes c.self.inside.operands in
    let n = c.args.number in
    let long : length c.args.self.now ≡ length heads = ap (λ es. length es) (sym c.self.view_is) ∙ length_by f 0 heads in
    let here : n < length heads = omega (arith, c.requires, long) in
    ap (λ es. slice_get es n) (sym c.self.view_is)
    ∙ (found_by f heads n c.index-head.result.now here c.index-head.ensures ∙ rw (c.code_in.ensures, c.row.ensures, c.row-2.ensures) refl)

pub returns-clause-rest : goal.returns-clause-rest
returns-clause-rest c =
    let heads = c.self.inside.heads.items in
    let f = edge_with c.self.inside.outputs c.self.inside.waits c.self.inside.opcodes c.self.inside.operands in
    let n = c.args.number in
    let long : length c.args.self.now ≡ length heads = ap (λ es. length es) (sym c.self.view_is) ∙ length_by f 0 heads in
    let here : n < length heads = omega (arith, c.requires, long) in
    let shown : f n c.index-head.result.now ∷ drop (n + 1) c.args.self.now ≡ lent (record { sort = c.index-head.result.now.sort; pool = c.index-head.result.now.pool; rank = c.index-head.result.now.rank; label = c.index-head.result.now.label; outputs = c.row.result; waits = c.row-2.result; code = c.code_in.result }) ∷ drop (n + 1) c.args.self.now
    = rw (c.code_in.ensures, c.row.ensures, c.row-2.ensures) refl in
    ap (λ es. drop n es) (sym c.self.view_is)
    ∙ (drop_by f heads n c.index-head.result.now here c.index-head.ensures
    ∙ (ap (λ (es : List Edge). f n c.index-head.result.now ∷ drop (n + 1) es) c.self.view_is ∙ shown))
