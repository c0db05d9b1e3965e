use Rattle.std.proofs.Common.{◌≡◌, ◌++◌, ◌∙◌, List, Option, ℕ, ap, subst, is_ok, get_or, slice_get, []}
use Rattle.plan_text.specs.Sinks.{Writes}
use Rattle.plan_tools.specs.Commands.{text_or_none}
use Rattle.plan_tools.specs.Inputs.{inputs_at}
use Rattle.plan_tools.specs.CompilationDatabase.{command_of, comma_before, first_path, object}
use Rattle.plan_tools.proofs.compilation_database.write_listed.Goals as goal

pub returns : goal.returns
returns g c =
    let graph = c.args.graph.now in
    let folder : List ℕ = c.args.folder.now in
    let edge : ℕ = get_or c.args.edges.now c.args.number 0 in
    let front : List ℕ = comma_before c.args.number in
    let command : List ℕ = command_of (slice_get c.args.manifest.now.edges edge) in
    let file : List ℕ = first_path graph (inputs_at graph edge) in
    let output : List ℕ = first_path graph (get_or graph.outputs edge []) in
    let file_is : c.first_input_path.result.now ≡ file = c.first_input_path.ensures in
    let output_is : c.first_path.result.now ≡ output = c.first_path.ensures ∙ ap (first_path graph) c.row.ensures in
    let is : c.comma_before.result.now ++ object folder (text_or_none c.command_at.result) c.first_input_path.result.now c.first_path.result.now ≡ front ++ object folder command file output =
    ap (λ (t : List ℕ). t ++ object folder (text_or_none c.command_at.result) c.first_input_path.result.now c.first_path.result.now) c.comma_before.ensures
    ∙ (ap (λ (t : List ℕ). front ++ object folder t c.first_input_path.result.now c.first_path.result.now) c.command_at.ensures
    ∙ (ap (λ (t : List ℕ). front ++ object folder command t c.first_path.result.now) file_is
    ∙ ap (λ (t : List ℕ). front ++ object folder command file t) output_is)) in
    let old : ℕ × Option (List ℕ) = (g.W.Sink.failures c.args.out.now, g.W.Sink.taken c.args.out.now) in
    let new : ℕ × Option (List ℕ) = (g.W.Sink.failures c.write_object.new.out, g.W.Sink.taken c.write_object.new.out) in
    subst (λ (t : List ℕ). Writes (is_ok c.write_object.result) old new t) is c.write_object.ensures
