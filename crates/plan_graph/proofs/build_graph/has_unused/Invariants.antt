use Rattle.std.proofs.Common.{◌≡◌, drop}
use Rattle.std.specs.Prelude.{not}
use Rattle.std.specs.List.{list_any}
use Rattle.plan_graph.specs.Files.{file_at}
use Rattle.plan_graph.proofs.build_graph.has_unused.Given as goal

abbrev pub invariant-loop-number : goal.invariant-loop-number
invariant-loop-number l = list_any (λ n. not (file_at n l.files).is_used) (drop l.number-index l.numbers) ≡ list_any (λ n. not (file_at n l.files).is_used) l.numbers
