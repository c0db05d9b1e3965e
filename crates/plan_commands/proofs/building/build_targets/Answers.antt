use Rattle.std.proofs.Common.{map}
use Rattle.plan_commands.specs.Building as defined
use Rattle.plan_commands.specs.Showing.{by_format}
use Rattle.plan_commands.proofs.BuildingLemmas.{err_so, targets_inside, targets_run, targets_stop}
use Rattle.plan_commands.proofs.building.build_targets.Goals as goal

pub run_with_sources-ran-requires-after_bounds : goal.run_with_sources-ran-requires-after_bounds
run_with_sources-ran-requires-after_bounds g c κs within = targets_inside c.args.image c.image.result.now _ c.in-Ok.edges.items c.deref.result.now c.image.ensures.same c.in-Ok.ensures.ok c.deref.ensures.value

pub returns-in-Ok-ran-clause-done : goal.returns-in-Ok-ran-clause-done
returns-in-Ok-ran-clause-done g c = λ kept is.
    targets_run (by_format g.F.Format.kept g.F.Format.tells kept) g.W.World.allows _ c.args.image c.image.result.now c.in-Ok.edges.items c.deref.result.now c.run_with_sources-ran.result.0 c.in-Ok-ran.report _ _ _
    c.image.ensures.same c.in-Ok.ensures.ok c.deref.ensures.value c.in-Ok-ran.is c.run_with_sources-ran.ensures.sources (c.run_with_sources-ran.ensures.ran kept is) c.end_of-done.ensures

pub returns-clause-refused : goal.returns-clause-refused
returns-clause-refused g c = λ kept is.
    targets_stop (by_format g.F.Format.kept g.F.Format.tells kept) g.W.World.allows (defined.asked c.args.order.now.manifest.now c.args.order.now.options (map (λ n. n.now) c.args.order.now.targets.now)) c.args.image c.image.result.now c.in-Ok.edges.items c.deref.result.now _ _ c.in-Err-ran.fault
    c.image.ensures.same c.in-Ok.ensures.ok c.deref.ensures.value (err_so _ c.run_with_sources-ran.result.0 c.in-Err-ran.fault c.in-Err-ran.is (c.run_with_sources-ran.ensures.refused kept is))
