use Rattle.std.proofs.Common.{◌∷◌, [], false}
use Rattle.std.proofs.lemmas.Result.{err_from_is_err_and}
use Rattle.plan_scope.specs.TextLists.{whole}
use Rattle.plan_scope.proofs.manifest.commands.write_line.Goals as goal

pub returns-in_err-write_all : goal.returns-in_err-write_all
returns-in_err-write_all g c =
    let p = err_from_is_err_and c.from_residual-in_err-write_all.result c.from_residual-in_err-write_all.ensures.1 in
    rw p.1 (c.writes_join.ensures.join false
    (g.W.Sink.failures c.args.out.now, g.W.Sink.taken c.args.out.now)
    (g.W.Sink.failures c.write_text.new.out, g.W.Sink.taken c.write_text.new.out)
    (g.W.Sink.failures c.write_all.new.sink, g.W.Sink.taken c.write_all.new.sink)
    (whole c.args.statement.now) (10 ∷ []) c.in_ok-write_text.ensures c.in_err-write_all.ensures)
