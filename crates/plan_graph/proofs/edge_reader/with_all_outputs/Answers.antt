use Rattle.std.proofs.Common.{◌++◌, ◌∙◌, List, ap, sym}
use Rattle.std.proofs.lemmas.Result.{err_from_is_err_and}
use Rattle.plan_graph.specs.Files.{Path, numbers_past, paths_in}
use Rattle.plan_graph.specs.Reading.{with_outputs}
use Rattle.plan_graph.proofs.NumberLemmas.{outputs_paths, row_more}
use Rattle.plan_graph.proofs.EdgeReaderLemmas.{two_outputs, outputs_refused}
use Rattle.plan_graph.proofs.edge_reader.with_all_outputs.Goals as goal

pub returns-in_err-with_outputs-clause-table : goal.returns-in_err-with_outputs-clause-table
returns-in_err-with_outputs-clause-table c =
    let p = err_from_is_err_and c.from_residual.result c.from_residual.ensures.1 in
    rw (p.1, p.2) (λ other. ap (λ (x : List Path). with_outputs c.args.files.now c.args.number (x ++ c.args.edge.now.paths.implicit_outputs)) (sym c.outputs.ensures)
    ∙ outputs_refused c.args.number c.args.files.now c.in_err-with_outputs.field-0.0 c.outputs.result c.args.edge.now.paths.implicit_outputs (c.in_err-with_outputs.ensures.table other))

pub returns-in_err-with_outputs-2-clause-table : goal.returns-in_err-with_outputs-2-clause-table
returns-in_err-with_outputs-2-clause-table c =
    let files = c.args.files.now in
    let p = err_from_is_err_and c.from_residual-in_err-with_outputs-2.result c.from_residual-in_err-with_outputs-2.ensures.1 in
    let named = ap (λ (x : List Path). with_outputs files c.args.number (x ++ c.implicit_outputs.result)) c.outputs.ensures ∙ ap (λ (y : List Path). with_outputs files c.args.number (c.args.edge.now.paths.outputs ++ y)) c.implicit_outputs.ensures in
    rw (p.1, p.2) (λ other. sym (two_outputs c.args.number files c.with_outputs.new.files c.outputs.result c.implicit_outputs.result c.in_ok-with_outputs.ensures.table ∙ named) ∙ c.in_err-with_outputs-2.ensures.table other)

pub returns-clause-table : goal.returns-clause-table
returns-clause-table c =
    let files = c.args.files.now in
    let named = ap (λ (x : List Path). with_outputs files c.args.number (x ++ c.implicit_outputs.result)) c.outputs.ensures ∙ ap (λ (y : List Path). with_outputs files c.args.number (c.args.edge.now.paths.outputs ++ y)) c.implicit_outputs.ensures in
    sym (two_outputs c.args.number files c.with_outputs.new.files c.outputs.result c.implicit_outputs.result c.in_ok-with_outputs.ensures.table ∙ named) ∙ c.in_ok-with_outputs-2.ensures.table

pub returns-clause-row : goal.returns-clause-row
returns-clause-row c =
    let files = c.args.files.now in
    let seen = paths_in files in
    let one = c.with_outputs.new.files in
    let xs : List Path = c.outputs.result in
    let ys : List Path = c.implicit_outputs.result in
    let row = c.args.row.now.items in
    row_more seen (paths_in one) row c.with_outputs.new.row.items c.with_outputs-2.new.row.items xs ys c.in_ok-with_outputs.ensures.row (outputs_paths files c.args.number xs one c.in_ok-with_outputs.ensures.table) c.in_ok-with_outputs-2.ensures.row
    ∙ (ap (λ (x : List Path). row ++ numbers_past seen (x ++ ys)) c.outputs.ensures ∙ ap (λ (y : List Path). row ++ numbers_past seen (c.args.edge.now.paths.outputs ++ y)) c.implicit_outputs.ensures)
