use Rattle.std.proofs.Common.{◌≤◌, ◌<◌, ◌+◌, ◌++◌, [], ◌∙◌, List, ap, arith, drop, length, sym, take, ℕ}
use Rattle.std.proofs.Math.ListN.{drop_of_length-le}
use Rattle.std.proofs.lemmas.Result.{err_from_is_err_and}
use Rattle.plan_graph.specs.Files.{paths_in}
use Rattle.plan_graph.specs.Reading.{inputs_past, outputs_past, with_edges}
use Rattle.plan_graph.proofs.NumberLemmas.{due_refused, edge_paths, edge_read, edge_refused, inputs_read, outputs_read}
use Rattle.plan_graph.proofs.WaitsLemmas.{item_here, there}
use Rattle.plan_graph.proofs.edge_reader.read_edges.Goals as goal

pub returns-in_err-check_targets-clause-table : goal.returns-in_err-check_targets-clause-table
returns-in_err-check_targets-clause-table c =
    let edges = c.args.manifest.now.edges in
    let files = c.loop-number.read.files in
    let ds = c.loop-number.defaults.now in
    let i = c.loop-number.number in
    let fault = c.in_err-check_targets.field-0.0 in
    let lt : i < length edges = omega (arith, c.loop-number-test.true, c.in_ok-count.ensures, c.len.ensures) in
    let at = there edges i lt in
    let due = c.split_at.ensures.front ∙ ap (λ n. take n ds) c.targets_above.ensures.len in
    let p = err_from_is_err_and c.from_residual-in_err-check_targets.result c.from_residual-in_err-check_targets.ensures.1 in
    rw (p.1, p.2) (λ other. sym c.loop-number.invariant.0 ∙ due_refused files i ds edges i at.0 c.split_at.result.0.now fault lt (item_here edges i at.0 at.0 at.1) due (c.in_err-check_targets.ensures other))

pub returns-in_err-read_edge-clause-table : goal.returns-in_err-read_edge-clause-table
returns-in_err-read_edge-clause-table c =
    let edges = c.args.manifest.now.edges in
    let files = c.loop-number.read.files in
    let ds = c.loop-number.defaults.now in
    let i = c.loop-number.number in
    let e = c.edge.result in
    let fault = c.in_err-read_edge.field-0.0 in
    let lt : i < length edges = omega (arith, c.loop-number-test.true, c.in_ok-count.ensures, c.len.ensures) in
    let due = c.split_at.ensures.front ∙ ap (λ n. take n ds) c.targets_above.ensures.len in
    let p = err_from_is_err_and c.from_residual-in_err-read_edge.result c.from_residual-in_err-read_edge.ensures.1 in
    rw (p.1, p.2) (λ other. sym c.loop-number.invariant.0 ∙ edge_refused files i ds edges i e c.split_at.result.0.now fault lt (item_here edges i e e c.edge.ensures) due c.in_ok-check_targets.ensures (c.in_err-read_edge.ensures.table other))

pub loop-number-preserved : goal.loop-number-preserved
loop-number-preserved c =
    let edges = c.args.manifest.now.edges in
    let files = c.loop-number.read.files in
    let more = c.read_edge.new.read.files in
    let ds = c.loop-number.defaults.now in
    let i = c.loop-number.number in
    let e = c.edge.result in
    let lt : i < length edges = omega (arith, c.loop-number-test.true, c.in_ok-count.ensures, c.len.ensures) in
    let here = item_here edges i e e c.edge.ensures in
    let due = c.split_at.ensures.front ∙ ap (λ n. take n ds) c.targets_above.ensures.len in
    let rest = c.split_at.ensures.back ∙ ap (λ n. drop n ds) c.targets_above.ensures.len in
    let taken = c.in_ok-read_edge.ensures.table in
    let grown = edge_paths files i e more taken in (
      sym (edge_read files more i ds edges i e c.split_at.result.0.now c.split_at.result.1.now lt here due rest c.in_ok-check_targets.ensures taken) ∙ c.loop-number.invariant.0,
      ap (λ (rows : List (List ℕ)). rows ++ outputs_past (paths_in more) (drop (i + 1) edges)) c.in_ok-read_edge.ensures.outputs
          ∙ outputs_read (paths_in files) (paths_in more) c.loop-number.read.outputs (outputs_past [] edges) edges i e lt here grown c.loop-number.invariant.1,
      ap (λ (rows : List (List ℕ)). rows ++ inputs_past (paths_in more) (drop (i + 1) edges)) c.in_ok-read_edge.ensures.inputs
          ∙ inputs_read (paths_in files) (paths_in more) c.loop-number.read.inputs (inputs_past [] edges) edges i e lt here grown c.loop-number.invariant.2,
    )

pub returns-in_err-check_targets-2-clause-table : goal.returns-in_err-check_targets-2-clause-table
returns-in_err-check_targets-2-clause-table c =
    let edges = c.args.manifest.now.edges in
    let files = c.loop-number.read.files in
    let ds = c.loop-number.defaults.now in
    let i = c.loop-number.number in
    let past : length edges ≤ i = omega (arith, c.loop-number-test.false, c.in_ok-count.ensures, c.len.ensures) in
    let p = err_from_is_err_and c.from_residual-in_err-check_targets-2.result c.from_residual-in_err-check_targets-2.ensures.1 in
    rw (p.1, p.2) (λ other. sym c.loop-number.invariant.0 ∙ (ap (with_edges files i ds) (drop_of_length-le edges past) ∙ c.in_err-check_targets-2.ensures other))
