use Rattle.std.proofs.Common.{◌++◌, ◌∷◌, [], ◌∙◌, List, ap, ℕ}
use Rattle.plan_graph.specs.Files.{Path, numbers_past, paths_in}
use Rattle.plan_graph.specs.Graph.{inputs_named, outputs_of}
use Rattle.plan_graph.proofs.NumberLemmas.{outputs_paths}
use Rattle.plan_graph.proofs.edge_reader.read_edge.Goals as goal

pub returns-clause-inputs : goal.returns-clause-inputs
returns-clause-inputs c =
    let files = c.args.read.now.files in
    let edge = c.args.edge.now in
    let more = c.read_outputs.new.read.files in
    c.in_ok-read_inputs.ensures.inputs
    ∙ (ap (λ (rows : List (List ℕ)). rows ++ numbers_past (paths_in more) (inputs_named edge) ∷ []) c.in_ok-read_outputs.ensures.inputs
    ∙ ap (λ (ps : List Path). c.args.read.now.inputs ++ numbers_past ps (inputs_named edge) ∷ []) (outputs_paths files c.args.number (outputs_of edge) more c.in_ok-read_outputs.ensures.table))
