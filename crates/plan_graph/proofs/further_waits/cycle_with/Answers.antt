use Rattle.plan_graph.proofs.FurtherWaitLemmas.{closes_if}
use Rattle.plan_graph.proofs.further_waits.cycle_with.Goals as goal

pub returns : goal.returns
returns c = closes_if c.args.graph.now.waits c.args.more.now c.in_ok-rows.rows c.cycle_in.result c.in_ok-rows.ensures.rows (c.cycle_in.ensures c.in_ok-rows.rows c.in-Err.ensures.cycle)
