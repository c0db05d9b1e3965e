use Rattle.std.proofs.Common.{◌≡◌, true}
use Rattle.plan_world.specs.Askable.{IsAskable}
use Rattle.plan_world.proofs.PathLemmas.{one_more}
use Rattle.plan_world.proofs.askable.are_rows_askable.Goals as goal

pub loop-number-preserved : goal.loop-number-preserved
loop-number-preserved c =
    let asked : c.is_askable.result ≡ true = let asked = c.if-not-is_askable.false in cc in
    one_more (λ p. IsAskable p) c.loop-number.number c.args.paths.now c.row.result.now c.row.ensures c.loop-number.invariant (c.is_askable.ensures.0 asked)
