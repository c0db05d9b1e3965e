use Rattle.std.proofs.Common.{[], List, Option, ℕ, refl}
use Rattle.plan_tools.specs.Tree.{target_tree}
use Rattle.plan_tools.proofs.TreeLemmas.{nothing_written}
use Rattle.plan_tools.proofs.tree.write_target_tree.Goals as goal

pub returns : goal.returns
returns g c =
    let now : ℕ × Option (List ℕ) = (g.W.Sink.failures c.args.out.now, g.W.Sink.taken c.args.out.now) in
    ([], target_tree c.args.graph.now c.args.rules.now c.args.roots.now c.args.depth, refl, nothing_written now)
