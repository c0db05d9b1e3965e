use Rattle.std.proofs.Common.{List, subst, ℕ}
use Rattle.plan_graph.specs.Cycles.{AreRanks}
use Rattle.plan_commands.proofs.commands.check_graph.Goals as goal

pub returns-in-Ok-clause-graph : goal.returns-in-Ok-clause-graph
returns-in-Ok-clause-graph c =
    let graph = c.in-Ok.ensures in
    (graph.sound, c.in-Ok.field-0.ranks, subst (λ (waits : List (List ℕ)). AreRanks waits c.in-Ok.field-0.ranks) graph.waits graph.ranks)
