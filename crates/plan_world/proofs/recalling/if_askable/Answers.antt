use Rattle.plan_world.proofs.recalling.if_askable.Goals as goal

pub returns-then-are_rows_askable-clause-askable :
    goal.returns-then-are_rows_askable-clause-askable
returns-then-are_rows_askable-clause-askable c = c.are_rows_askable.ensures.0 c.if-are_rows_askable.true
