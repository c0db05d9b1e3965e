use Rattle.std.proofs.Common.{◌<◌, [], ◌++◌, ◌+◌, ◌∙◌, List, ℕ, ap, arith, drop, length}
use Rattle.plan_graph.specs.Files.{numbers_past, paths_in}
use Rattle.plan_graph.proofs.NumberLemmas.{numbers_step, output_path, outputs_step}
use Rattle.plan_graph.proofs.WaitsLemmas.{item_at}
use Rattle.plan_graph.proofs.edge_reader.with_outputs.Goals as goal

pub loop-place-preserved : goal.loop-place-preserved
loop-place-preserved c =
    let files = c.loop-place.files in
    let more = c.with_output.new.files in
    let i = c.loop-place.place in
    let o = c.path.result.now in
    let outputs = c.args.outputs.now in
    let number = c.args.number in
    let lt : i < length outputs = omega (arith, c.loop-place-test.true, c.len-place-end.ensures) in
    let here = item_at outputs i o [] lt c.path.ensures in
    let table = c.in_ok-at.ensures.table in (
      outputs_step files more number outputs i o lt here table ∙ c.loop-place.invariant.0,
      ap (λ (row : List ℕ). row ++ numbers_past (paths_in more) (drop (i + 1) outputs)) c.in_ok-push.ensures.items
          ∙ (numbers_step (paths_in files) (paths_in more) c.loop-place.row.items outputs i o c.in_ok-at.at lt here c.in_ok-at.ensures.number (output_path files number o more table)
          ∙ c.loop-place.invariant.1),
    )
