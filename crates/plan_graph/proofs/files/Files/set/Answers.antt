use Rattle.std.proofs.Common.{◌∙◌, ap, arith, length, sym}
use Rattle.plan_graph.specs.Files.{Table, number_of, paths_in, with_file}
use Rattle.plan_graph.proofs.FilesLemmas.{table_length, table_set}
use Rattle.plan_graph.proofs.files.Files.set.Goals as goal

pub index_mut-requires : goal.index_mut-requires
index_mut-requires c =
    let long = table_length (λ k. k.bytes.now) c.self.inside.paths.keys c.self.inside.known.items c.self.invariant ∙ sym c.self.invariant in
    let same = ap (λ (t : Table). length t) c.self.view_is in
    omega (arith, long, same, c.requires, c.self.inside.known.ok.0)

pub returns : goal.returns
returns c path here =
    let keys = c.self.inside.paths.keys in
    let known = c.self.inside.known.items in
    let long = table_length (λ k. k.bytes.now) keys known c.self.invariant ∙ sym c.self.invariant in
    let same = ap (λ (t : Table). length t) c.self.view_is in
    table_set (λ k. k.bytes.now) keys known path c.args.file c.args.number c.self.invariant (omega (arith, long, same, c.requires))
    (here ∙ ap (λ (t : Table). number_of (paths_in t) path) (sym c.self.view_is)) ∙ ap (λ (t : Table). with_file t path c.args.file) c.self.view_is
