use Rattle.std.proofs.Common.{◌∷◌, [], is_ok}
use Rattle.plan_scope.specs.TextLists.{whole}
use Rattle.plan_tools.proofs.commands.write_text_line.Goals as goal

pub returns-in-Ok : goal.returns-in-Ok
returns-in-Ok g c =
    c.writes_join.ensures.join (is_ok c.write_all.result)
    (g.W.Sink.failures c.args.out.now, g.W.Sink.taken c.args.out.now)
    (g.W.Sink.failures c.write_text.new.out, g.W.Sink.taken c.write_text.new.out)
    (g.W.Sink.failures c.write_all.new.sink, g.W.Sink.taken c.write_all.new.sink)
    (whole c.args.text.now) (10 ∷ []) c.in-Ok.ensures c.write_all.ensures
