use Rattle.std.proofs.Common.{◌∙◌, ap, sym}
use Rattle.plan_tools.specs.Tree.{lines_left}
use Rattle.plan_tools.proofs.TreeLemmas.{left_first}
use Rattle.plan_tools.proofs.tree.next_branch.Goals as goal

pub returns : goal.returns
returns c = ap (lines_left c.args.graph.now) c.in-Some.ensures.items ∙ (left_first c.args.graph.now c.pop.new.self.items c.in-Some.branch ∙ sym c.in_ok-add_below.ensures)
