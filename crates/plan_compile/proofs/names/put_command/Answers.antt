use Rattle.plan_scope.specs.TextLists.{whole}
use Rattle.plan_compile.proofs.NameLemmas.{numbers_are}
use Rattle.plan_compile.proofs.names.put_command.Goals as goal

pub returns-clause-numbers : goal.returns-clause-numbers
returns-clause-numbers c =
    numbers_are c.args.texts.now c.put_shown.new.texts c.put_unless_empty.new.texts c.put_unless_empty-2.new.texts c.args.edge.now (whole c.description.result) (whole c.command.result) (whole c.depfile.result)
    (whole c.pool.result) c.in_ok-label.label c.in_ok-label.command c.in_ok-depfile.depfile c.in_ok-pool.pool c.description.ensures c.command.ensures c.depfile.ensures c.pool.ensures
    c.in_ok-label.ensures.texts c.in_ok-label.ensures.label c.in_ok-label.ensures.command c.in_ok-depfile.ensures.texts c.in_ok-depfile.ensures.number c.in_ok-pool.ensures.number
