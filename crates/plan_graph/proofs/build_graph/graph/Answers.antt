use Rattle.std.specs.Prelude.{All}
use Rattle.std.proofs.Common.{◌≡◌, ◌<◌, ◌≤◌, ◌∙◌, List, ℕ, ap, arith, length, subst, sym}
use Rattle.std.proofs.lemmas.List.{length-map}
use Rattle.std.proofs.lemmas.Result.{err_from_is_err_and}
use Rattle.plan_graph.specs.Files.{Path}
use Rattle.plan_graph.specs.Graph.{all_waits, default_edges, inputs_named, max_edges, outputs_of, rows_of, waits_of}
use Rattle.plan_graph.specs.Walking.{InRange, TellsCycle}
use Rattle.plan_graph.proofs.BuildGraphLemmas.{inputs_known, outputs_known, own_producer, refuses, refuses_cycle, rows_are, sound_table, waits_range}
use Rattle.plan_graph.proofs.EdgeReaderLemmas.{row_is}
use Rattle.plan_graph.proofs.build_graph.graph.Goals as goal

pub returns-in_err-read : goal.returns-in_err-read
returns-in_err-read c =
    let p = err_from_is_err_and c.from_residual.result c.from_residual.ensures.1 in
    rw (p.1, p.2) (refuses c.args.manifest.now c.in_err-read.field-0.0 c.in_err-read.ensures.table)

pub all_waits-requires-clause-fits : goal.all_waits-requires-clause-fits
all_waits-requires-clause-fits c = (sound_table c.args.manifest.now c.in_ok-read.read.files c.in_ok-read.ensures.table).1

pub all_waits-requires-clause-inputs : goal.all_waits-requires-clause-inputs
all_waits-requires-clause-inputs c =
    let read = c.in_ok-read.read in
    inputs_known read.files c.args.manifest.now.edges read.inputs (sound_table c.args.manifest.now read.files c.in_ok-read.ensures.table).1 c.in_ok-read.ensures.inputs

pub ranks-requires-clause-range : goal.ranks-requires-clause-range
ranks-requires-clause-range c =
    let edges = c.args.manifest.now.edges in
    subst InRange (rows_are (all_waits edges) c.in_ok-waits.waits c.in_ok-waits.ensures) (waits_range edges)

pub ranks-requires-clause-few : goal.ranks-requires-clause-few
ranks-requires-clause-few c =
    let edges = c.args.manifest.now.edges in
    let rows : all_waits edges ≡ c.in_ok-waits.waits = rows_are (all_waits edges) c.in_ok-waits.waits c.in_ok-waits.ensures in
    let few : length edges ≤ max_edges = (sound_table c.args.manifest.now c.in_ok-read.read.files c.in_ok-read.ensures.table).1.few in
    let long : length (all_waits edges) ≡ length edges = length-map edges (waits_of edges) in
    let same : length (all_waits edges) ≡ length c.in_ok-waits.waits = ap (λ (w : List (List ℕ)). length w) rows in
    omega (arith, few, long, same)

pub returns-in_err-ranks : goal.returns-in_err-ranks
returns-in_err-ranks c =
    let m = c.args.manifest.now in
    let rows = sym (rows_are (all_waits m.edges) c.in_ok-waits.waits c.in_ok-waits.ensures) in
    let sound = (sound_table m c.in_ok-read.read.files c.in_ok-read.ensures.table).0 in
    let fault = c.in_err-ranks.field-0.0 in
    let p = err_from_is_err_and c.from_residual-in_err-ranks.result c.from_residual-in_err-ranks.ensures.1 in
    rw (p.1, p.2) (refuses_cycle m fault sound (subst (λ (w : List (List ℕ)). TellsCycle w fault) rows c.in_err-ranks.ensures.cycle))

pub default_edges-requires-clause-fits : goal.default_edges-requires-clause-fits
default_edges-requires-clause-fits c = (sound_table c.args.manifest.now c.in_ok-read.read.files c.in_ok-read.ensures.table).1

pub default_edges-requires-clause-outputs : goal.default_edges-requires-clause-outputs
default_edges-requires-clause-outputs c =
    let read = c.in_ok-read.read in
    outputs_known read.files c.args.manifest.now.edges read.outputs (sound_table c.args.manifest.now read.files c.in_ok-read.ensures.table).1 c.in_ok-read.ensures.outputs

pub returns : goal.returns
returns c =
    let m = c.args.manifest.now in
    let read = c.in_ok-read.read in
    let table = sound_table m read.files c.in_ok-read.ensures.table in
    let fits = table.1 in
    let waits = sym (rows_are (all_waits m.edges) c.in_ok-waits.waits c.in_ok-waits.ensures) in
    let long : length c.in_ok-waits.waits ≡ length m.edges = ap (λ (w : List (List ℕ)). length w) waits ∙ length-map m.edges (waits_of m.edges) in
    record {
      sound = table.0;
      few = fits.few;
      files = fits.paths;
      producers = fits.producers;
      own = own_producer read.files m.edges fits;
      outputs = outputs_known read.files m.edges read.outputs fits c.in_ok-read.ensures.outputs ∙ ap (λ (ps : List Path). rows_of outputs_of ps m.edges) fits.paths;
      inputs = inputs_known read.files m.edges read.inputs fits c.in_ok-read.ensures.inputs ∙ ap (λ (ps : List Path). rows_of inputs_named ps m.edges) fits.paths;
      waits = waits;
      ranks = c.in_ok-ranks.ensures.ranks;
      low = subst (λ n. All (λ r. r < n) c.in_ok-ranks.ranks) long c.in_ok-ranks.ensures.low;
      defaults = sym (row_is (default_edges m.edges c.as_slice.result.now) c.in_ok-defaults.defaults c.in_ok-defaults.ensures) ∙ ap (default_edges m.edges) c.as_slice.ensures;
    }
