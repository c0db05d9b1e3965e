use Rattle.plan_machine.proofs.SweptRowLemmas.{merged_stack}
use Rattle.plan_machine.proofs.edge.stack.Stack.merge_row.Goals as goal

pub returns-clause-merged : goal.returns-clause-merged
returns-clause-merged c =
    merged_stack c.args.self.now c.pop_paths-swept.new.self c.pop_flag-missing.new.self c.pop_stamp-newest.new.self c.push.new.self c.push-2.new.self c.push-3.new.self
    c.pop_paths-swept.result.1 c.args.paths.now c.pop_paths-swept.result.0 c.row_len-count.result c.args.from c.pop_stamp-newest.result c.latest_of.result c.pop_flag-missing.result c.has_missing.result c.args.stamps.now
    c.pop_paths-swept.ensures c.pop_flag-missing.ensures c.pop_stamp-newest.ensures c.push.ensures c.push-2.ensures c.push-3.ensures
    c.latest_of.ensures c.has_missing.ensures c.row_len-count.ensures.few c.row_len-count.ensures.left c.row_len-count.ensures.same
