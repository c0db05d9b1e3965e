use Rattle.std.proofs.Common.{◌≡◌, ◌<◌, ◌≤◌, get_or, length, refl, rules, sym, arith}
use Rattle.std.proofs.lemmas.List.{length-map}
use Rattle.std.specs.Vec.{with_item}
use Rattle.plan_scope.specs.declared.edge.edge_list.EdgeMarks.{EdgeMarks}
use Rattle.plan_scope.specs.declared.edge.edge_list.EdgeRows.{EdgeRows}
use Rattle.plan_scope.specs.EdgeRows.{edge_at, edges_in}
use Rattle.plan_scope.specs.Extended.{added}
use Rattle.plan_scope.proofs.ExtendingLemmas.{changed_beyond, edges_added, edges_kept, on_err, placed_at}
use Rattle.plan_scope.proofs.edge.extending.add_paths.Goals as goal

pub returns-then-number-len-clause-added : goal.returns-then-number-len-clause-added
returns-then-number-len-clause-added c =
    let rows : EdgeRows = c.args.rows.now in
    let few : length rows.marks.items ≤ c.args.addition.now.edge = search rules in
    let long = length-map rows.marks.items (edge_at rows.paths.rows rows.texts) in
    sym (changed_beyond c.args.addition.now.edge (added c.args.addition.now) (edges_in rows) (omega (arith, few, long)))

pub returns-in_err-paths-clause-same : goal.returns-in_err-paths-clause-same
returns-in_err-paths-clause-same c =
    let before : EdgeRows = c.args.rows.now in
    let now : EdgeRows = record { paths = record { rows = c.put_paths.new.rows; buffer = before.paths.buffer; has_empty = before.paths.has_empty; has_long = before.paths.has_long }; texts = before.texts; marks = before.marks; spare = before.spare } in
    on_err c.from_residual.result (edges_kept before now c.in_err-paths.ensures.more refl refl c.requires).0

pub returns-clause-within : goal.returns-clause-within
returns-clause-within c =
    let before : EdgeRows = c.args.rows.now in
    let m : EdgeMarks = c.index-marks.result.now in
    let now : EdgeRows = record { paths = record { rows = c.put_paths.new.rows; buffer = before.paths.buffer; has_empty = before.paths.has_empty; has_long = before.paths.has_long }; texts = before.texts; marks = with_item before.marks c.args.addition.now.edge (placed_at c.in_ok-paths.paths m); spare = before.spare } in
    let at : get_or before.marks.items c.args.addition.now.edge m ≡ m = search rules in
    let lt : c.args.addition.now.edge < length before.marks.items = search rules in
    (edges_added before now c.args.addition.now c.in_ok-paths.paths m c.args.addition.now.edge at lt c.requires c.in_ok-paths.ensures.more refl refl c.in_ok-paths.ensures.placed c.in_ok-paths.ensures.paths).1

pub returns-clause-added : goal.returns-clause-added
returns-clause-added c =
    let before : EdgeRows = c.args.rows.now in
    let m : EdgeMarks = c.index-marks.result.now in
    let now : EdgeRows = record { paths = record { rows = c.put_paths.new.rows; buffer = before.paths.buffer; has_empty = before.paths.has_empty; has_long = before.paths.has_long }; texts = before.texts; marks = with_item before.marks c.args.addition.now.edge (placed_at c.in_ok-paths.paths m); spare = before.spare } in
    let at : get_or before.marks.items c.args.addition.now.edge m ≡ m = search rules in
    let lt : c.args.addition.now.edge < length before.marks.items = search rules in
    (edges_added before now c.args.addition.now c.in_ok-paths.paths m c.args.addition.now.edge at lt c.requires c.in_ok-paths.ensures.more refl refl c.in_ok-paths.ensures.placed c.in_ok-paths.ensures.paths).0
