use Rattle.std.proofs.Common.{◌≡◌, ◌++◌, drop, filter, not}
use Rattle.plan_graph.specs.Files.{producer_at}
use Rattle.plan_compile.specs.Builds.{is_maker}
use Rattle.plan_compile.proofs.build.not_made_by.Given as goal

abbrev pub invariant-loop-number : goal.invariant-loop-number
invariant-loop-number l =
    l.kept.items ++ filter (λ f. not (is_maker (producer_at l.files f) l.edge)) (drop l.number-index l.numbers)
    ≡ filter (λ f. not (is_maker (producer_at l.files f) l.edge)) l.numbers
