use Rattle.std.proofs.Common.{◌≡◌, ◌⊎◌}
use Rattle.std.specs.Prelude.{All}
use Rattle.plan_commands.specs.Recorded.{DependsOn}
use Rattle.plan_commands.proofs.recorded.depends_on.Given as goal

abbrev pub invariant-loop-place : goal.invariant-loop-place
invariant-loop-place l = All (λ x. (x ≡ l.edge) ⊎ DependsOn l.waits l.edge x) l.met.items
