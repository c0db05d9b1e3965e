use Rattle.std.proofs.Common.{◌/◌, arith}
use Rattle.plan_commands.specs.Recorded.{AreRecalledBetween}
use Rattle.plan_commands.proofs.BuildingLemmas.{ok_so}
use Rattle.plan_commands.proofs.RecordedLemmas.{halves_recalled}
use Rattle.plan_commands.proofs.recorded.recalled_by_two.Goals as goal

pub returns-in_ok-all-in-Ok : goal.returns-in_ok-all-in-Ok
returns-in_ok-all-in-Ok g c =
    let found = c.recalled_apart-first in
    let first = c.in_ok-first-in-Ok.field-0 in
    halves_recalled g.W.World.allows c.args.edges.now (c.len-count.result / 2) c.len-count.result first.items c.in-Ok.second.items c.in_ok-all-in-Ok.all.items
    (ok_so (λ a. AreRecalledBetween g.W.World.allows c.args.edges.now 0 (c.len-count.result / 2) a.items) found.result.0 first c.in_ok-first-in-Ok.was found.ensures.first)
    (ok_so (λ a. AreRecalledBetween g.W.World.allows c.args.edges.now (c.len-count.result / 2) c.len-count.result a.items) found.result.1 c.in-Ok.second c.in-Ok.is found.ensures.second)
    c.in_ok-all-in-Ok.ensures (omega arith) c.len-count.ensures
