use Rattle.std.proofs.Common.{◌∷◌, [], List, ℕ, length, is_ok}
use Rattle.plan_tools.specs.Listings.{of_first}
use Rattle.plan_tools.specs.CompilationDatabase.{listed_object}
use Rattle.plan_tools.proofs.compilation_database.write_rest.Goals as goal

pub returns-in-Ok : goal.returns-in-Ok
returns-in-Ok g c =
    let objects : List ℕ = of_first (listed_object c.args.folder.now c.args.manifest.now c.args.graph.now c.args.edges.now) (length c.args.edges.now) in
    c.writes_join.ensures.join (is_ok c.write_all.result)
    (g.W.Sink.failures c.args.out.now, g.W.Sink.taken c.args.out.now)
    (g.W.Sink.failures c.write_objects.new.out, g.W.Sink.taken c.write_objects.new.out)
    (g.W.Sink.failures c.write_all.new.sink, g.W.Sink.taken c.write_all.new.sink)
    objects (10 ∷ 93 ∷ 10 ∷ []) c.in-Ok.ensures c.write_all.ensures
