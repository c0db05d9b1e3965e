use Rattle.std.proofs.Common.{◌≡◌, List, ℕ, drop, subst, arith}
use Rattle.plan_record.proofs.PathsLemmas.{none_left}
use Rattle.plan_record.proofs.paths.Paths.advance.Goals as goal

pub returns-then-self-eq0 : goal.returns-then-self-eq0
returns-then-self-eq0 c =
    subst (λ (v : List (List ℕ)). v ≡ drop 1 v) c.self.view_is (none_left c.self.inside.count (drop c.self.inside.start c.self.inside.file.value.items) (omega (arith, c.if-self-eq0.true)))
