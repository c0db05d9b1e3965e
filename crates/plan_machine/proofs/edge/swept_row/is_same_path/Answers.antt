use Rattle.plan_machine.proofs.SweptRowLemmas.{same_at, same_must}
use Rattle.plan_machine.proofs.edge.swept_row.is_same_path.Goals as goal

pub returns-clause-on : goal.returns-clause-on
returns-clause-on c on =
    same_at c.args.first.now c.args.second.now c.args.at c.args.from c.path.result.now c.path-2.result.now _ c.requires.first_inside c.requires.second_inside c.path.ensures c.path-2.ensures c.eq.ensures on

pub returns-clause-must : goal.returns-clause-must
returns-clause-must c same =
    same_must c.args.first.now c.args.second.now c.args.at c.args.from c.path.result.now c.path-2.result.now _ c.requires.first_inside c.requires.second_inside c.path.ensures c.path-2.ensures c.eq.ensures same
