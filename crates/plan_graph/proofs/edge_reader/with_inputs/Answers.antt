use Rattle.std.proofs.Common.{◌<◌, [], ◌++◌, ◌+◌, ◌∙◌, List, ℕ, ap, arith, drop, length, sym}
use Rattle.plan_graph.specs.Files.{numbers_past, paths_in}
use Rattle.plan_graph.specs.Reading.{with_input}
use Rattle.plan_graph.proofs.NumberLemmas.{input_path, inputs_step, numbers_step}
use Rattle.plan_graph.proofs.EdgeReaderLemmas.{ok_is}
use Rattle.plan_graph.proofs.WaitsLemmas.{item_at}
use Rattle.plan_graph.proofs.edge_reader.with_inputs.Goals as goal

pub loop-place-preserved : goal.loop-place-preserved
loop-place-preserved c =
    let own = c.args.own in
    let files = c.loop-place.files in
    let more = c.with_input.new.files in
    let i = c.loop-place.place in
    let p = c.path.result.now in
    let inputs = c.args.inputs.now in
    let lt : i < length inputs = omega (arith, c.loop-place-test.true, c.len-place-end.ensures) in
    let here = item_at inputs i p [] lt c.path.ensures in
    let table = ok_is (with_input own files p) more c.in_ok-at.ensures.table in (
      inputs_step own files more inputs i p lt here table ∙ c.loop-place.invariant.0,
      ap (λ (row : List ℕ). row ++ numbers_past (paths_in more) (drop (i + 1) inputs)) c.in_ok-push.ensures.items
          ∙ (numbers_step (paths_in files) (paths_in more) c.loop-place.row.items inputs i p c.in_ok-at.at lt here c.in_ok-at.ensures.number (ap paths_in (sym table) ∙ input_path own files p)
          ∙ c.loop-place.invariant.1),
    )
