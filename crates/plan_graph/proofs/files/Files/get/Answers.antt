use Rattle.std.proofs.Common.{◌∙◌, ap}
use Rattle.plan_graph.specs.Files.{file_at, paths_in}
use Rattle.plan_graph.proofs.FilesLemmas.{file_missing, file_numbered, place_given, place_missing}
use Rattle.plan_graph.proofs.files.Files.get.Goals as goal

pub returns-in-Some : goal.returns-in-Some
returns-in-Some c =
    let files = c.args.self.now in
    let path = c.args.path.now in
    c.at.ensures ∙ (ap (λ n. file_at n files) (place_given (paths_in files) path c.in-Some.number c.in-Some.ensures) ∙ file_numbered files path)

pub returns-in-None : goal.returns-in-None
returns-in-None c = file_missing c.args.self.now c.args.path.now (place_missing (paths_in c.args.self.now) c.args.path.now c.in-None.ensures)
