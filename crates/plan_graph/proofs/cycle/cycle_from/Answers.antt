use Rattle.std.proofs.Common.{◌≡◌, ◌-◌, drop, length, subst, sym, take}
use Rattle.std.proofs.lemmas.List.{take_rest}
use Rattle.plan_graph.specs.Cycles.{IsCycle, IsSimple}
use Rattle.plan_graph.proofs.WalkLemmas.{cycle_closed, cycle_told, simple_back}
use Rattle.plan_graph.proofs.cycle.cycle_from.Goals as goal

pub returns-in-Ok : goal.returns-in-Ok
returns-in-Ok c =
    let path = c.args.path.now in
    let place = c.place_of.result in
    let rest : take (length path - place) (drop place path) ≡ drop place path = take_rest path place in
    let is = subst (IsCycle c.args.waits.now) (sym rest) (cycle_closed c.args.waits.now path c.args.edge place c.place_of.ensures.within c.place_of.ensures.here c.requires.chain) in
    let simple = subst IsSimple (sym rest) (simple_back path place c.requires.simple) in
    let told = c.in-Ok.ensures in
    cycle_told c.args.waits.now (take (length path - place) (drop place path)) told.0 c.in-Ok.cycle is told.1 told.2 simple told.3
