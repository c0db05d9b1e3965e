use Rattle.std.proofs.Common.{refl, sym, ◌∙◌}
use Rattle.plan_world.proofs.PathLemmas.{plain_is_askable}
use Rattle.plan_world.proofs.askable.is_askable.Goals as goal

pub returns-then-is_plain : goal.returns-then-is_plain
returns-then-is_plain c =
    let plain = sym c.is_plain.ensures ∙ c.if-is_plain.true in
    (λ _. plain_is_askable c.args.path.now c.if-path-le-LONGEST_NAME.true plain, λ _. refl)
