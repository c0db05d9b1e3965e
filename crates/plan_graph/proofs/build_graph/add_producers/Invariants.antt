use Rattle.std.proofs.Common.{◌≡◌, ◌++◌, drop}
use Rattle.plan_graph.specs.Fitting.{producers_at}
use Rattle.plan_graph.proofs.build_graph.add_producers.Given as goal

abbrev pub invariant-loop-number : goal.invariant-loop-number
invariant-loop-number l = l.row.items ++ producers_at l.files l.own (drop l.number-index l.numbers) ≡ l.fn.row.items ++ producers_at l.files l.own l.numbers
