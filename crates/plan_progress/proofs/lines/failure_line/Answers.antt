use Rattle.std.proofs.Common.{◌≡◌, ℕ, List, IfOk, subst}
use Rattle.plan_progress.specs.BuildLines.{look_of}
use Rattle.plan_progress.proofs.FailuresLemmas.{other_line}
use Rattle.plan_progress.proofs.lines.failure_line.Goals as goal

pub returns-in_default : goal.returns-in_default
returns-in_default c =
    subst (λ (ys : List ℕ). IfOk c.ended_line.result (λ line. line.items ≡ ys))
    (other_line (look_of c.args.display.now) c.args.image.now c.args.numbers c.args.edge c.args.cause c.in_default.not-MissingInput)
    c.ended_line.ensures
