use Rattle.std.proofs.Common.{◌≡◌, ℕ, List, IfOk, subst}
use Rattle.plan_progress.proofs.FailuresLemmas.{other_cause}
use Rattle.plan_progress.proofs.failures.failure_text.Goals as goal

pub returns-in_default : goal.returns-in_default
returns-in_default c =
    subst (λ (ys : List ℕ). IfOk c.failed_text.result (λ text. text.items ≡ ys))
    (other_cause c.args.colours c.args.image.now c.args.edge c.args.cause c.args.output.now c.in_default.not-MissingInput)
    c.failed_text.ensures
