use Rattle.std.proofs.Common.{◌∙◌, List, None, Some, ap, sym}
use Rattle.std.specs.Prelude.{if◌then◌else◌}
use Rattle.plan_scope.specs.Edges.{is_among}
use Rattle.plan_graph.specs.Files.{Path, Table, number_of, paths_in}
use Rattle.plan_graph.proofs.FilesLemmas.{paths_are, place_is}
use Rattle.plan_graph.proofs.files.Files.number.Goals as goal

pub returns : goal.returns
returns c =
    let keys = c.self.inside.paths.keys in
    let path = c.args.path.now in
    let found = λ (ps : List Path). if is_among ps path then Some (number_of ps path) else None in
    c.get_index_of.ensures.index
    ∙ (place_is (λ k. k.bytes.now) path keys
    ∙ (ap found (sym (paths_are (λ k. k.bytes.now) keys c.self.inside.known.items c.self.invariant)) ∙ ap (λ (t : Table). found (paths_in t)) c.self.view_is))
