use Rattle.std.proofs.Common.{inl, map, refl, subst}
use Rattle.plan_commands.specs.Building.{FindsNothingToDo, IsRead, IsReadAs, asked}
use Rattle.plan_commands.specs.Showing.{by_format}
use Rattle.plan_commands.proofs.BuildingLemmas.{err_so, maker_inside, maker_is, maker_stops, ok_so, on_ok, round_by}
use Rattle.plan_commands.proofs.building.update_manifest.Goals as goal

pub returns-in-Err-clause-refused : goal.returns-in-Err-clause-refused
returns-in-Err-clause-refused g c = λ kept is. inl (refl, inl c.in-Err.ensures.refused)

pub returns-in-Ok-NothingToDo-clause-round : goal.returns-in-Ok-NothingToDo-clause-round
returns-in-Ok-NothingToDo-clause-round g c =
    let gives = g.S.Source.gives c.args.source.now in
    let a = asked c.args.order.now.manifest.now c.args.order.now.options (map (λ n. n.now) c.args.order.now.targets.now) in
    let finds : FindsNothingToDo gives g.W.World.allows a = subst (IsReadAs gives g.W.World.allows a) c.in-Ok-NothingToDo.field-0-is c.in-Ok-NothingToDo.ensures.read in
    λ kept is. (finds, refl)

pub run_with_sources-ran-requires-after_bounds : goal.run_with_sources-ran-requires-after_bounds
run_with_sources-ran-requires-after_bounds g c κs within =
    maker_inside c.in-Ok-Image.image c.args.order.now.manifest.now c.in-Ok-Some.maker
    (maker_is c.in-Ok-Image.image c.image.result.now c.args.order.now.manifest.now c.in-Ok-Some.maker c.in-Ok-Some.field-0 c.image.ensures.same c.in-Ok-Some.field-0-is c.in-Ok-Some.ensures.maker)

pub returns-in-Ok-clause-round : goal.returns-in-Ok-clause-round
returns-in-Ok-clause-round g c =
    let gives = g.S.Source.gives c.args.source.now in
    let a = asked c.args.order.now.manifest.now c.args.order.now.options (map (λ n. n.now) c.args.order.now.targets.now) in
    let read : IsRead gives g.W.World.allows c.args.order.now.manifest.now c.in-Ok-Image.image = subst (IsReadAs gives g.W.World.allows a) c.in-Ok-Image.field-0-is c.in-Ok-Image.ensures.read in
    λ kept is.
    round_by gives (by_format g.F.Format.kept g.F.Format.tells kept) g.W.World.allows _ c.in-Ok-Image.image c.in-Ok-Some.maker c.in-Ok.report _ _ _ read
    (maker_is c.in-Ok-Image.image c.image.result.now c.args.order.now.manifest.now c.in-Ok-Some.maker c.in-Ok-Some.field-0 c.image.ensures.same c.in-Ok-Some.field-0-is c.in-Ok-Some.ensures.maker)
    (on_ok _ c.run_with_sources-ran.result.0 c.in-Ok.report c.in-Ok.is c.run_with_sources-ran.ensures.sources)
    (ok_so _ c.run_with_sources-ran.result.0 c.in-Ok.report c.in-Ok.is (c.run_with_sources-ran.ensures.ran kept is)) c.round_of.ensures

pub returns-in-Err-ran-clause-refused : goal.returns-in-Err-ran-clause-refused
returns-in-Err-ran-clause-refused g c =
    let gives = g.S.Source.gives c.args.source.now in
    let a = asked c.args.order.now.manifest.now c.args.order.now.options (map (λ n. n.now) c.args.order.now.targets.now) in
    let read : IsRead gives g.W.World.allows c.args.order.now.manifest.now c.in-Ok-Image.image = subst (IsReadAs gives g.W.World.allows a) c.in-Ok-Image.field-0-is c.in-Ok-Image.ensures.read in
    λ kept is.
    maker_stops gives _ (by_format g.F.Format.kept g.F.Format.tells kept) g.W.World.allows _ c.in-Ok-Image.image c.in-Ok-Some.maker _ _ c.in-Err-ran.fault read
    (maker_is c.in-Ok-Image.image c.image.result.now c.args.order.now.manifest.now c.in-Ok-Some.maker c.in-Ok-Some.field-0 c.image.ensures.same c.in-Ok-Some.field-0-is c.in-Ok-Some.ensures.maker)
    (err_so _ c.run_with_sources-ran.result.0 c.in-Err-ran.fault c.in-Err-ran.is (c.run_with_sources-ran.ensures.refused kept is))
