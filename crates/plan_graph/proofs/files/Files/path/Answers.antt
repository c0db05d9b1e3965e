use Rattle.std.proofs.Common.{◌∙◌, ap, option_map, sym}
use Rattle.std.specs.Prelude.{slice_get}
use Rattle.std.proofs.lemmas.Option.{slice_get-map}
use Rattle.plan_graph.specs.Files.{Table, paths_in}
use Rattle.plan_graph.proofs.FilesLemmas.{paths_are}
use Rattle.plan_graph.proofs.files.Files.path.Goals as goal

pub returns-in-Some : goal.returns-in-Some
returns-in-Some c =
    let keys = c.self.inside.paths.keys in
    let n = c.args.number in
    ap (option_map (λ k. k.bytes.now)) c.in-Some.ensures.key
    ∙ (sym (slice_get-map (λ k. k.bytes.now) keys n)
    ∙ (ap (λ ps. slice_get ps n) (sym (paths_are (λ k. k.bytes.now) keys c.self.inside.known.items c.self.invariant)) ∙ ap (λ (t : Table). slice_get (paths_in t) n) c.self.view_is))

pub returns-in-None : goal.returns-in-None
returns-in-None c =
    let keys = c.self.inside.paths.keys in
    let n = c.args.number in
    ap (option_map (λ k. k.bytes.now)) c.in-None.ensures.key
    ∙ (sym (slice_get-map (λ k. k.bytes.now) keys n)
    ∙ (ap (λ ps. slice_get ps n) (sym (paths_are (λ k. k.bytes.now) keys c.self.inside.known.items c.self.invariant)) ∙ ap (λ (t : Table). slice_get (paths_in t) n) c.self.view_is))
