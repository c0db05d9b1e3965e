use Rattle.std.proofs.Common.{inl}
use Rattle.plan_commands.proofs.BuildingLemmas.{none_read, read_of}
use Rattle.plan_commands.proofs.building.read_image.Goals as goal

pub image_recorded-prepared-requires-after_bounds : goal.image_recorded-prepared-requires-after_bounds
image_recorded-prepared-requires-after_bounds g c κs within =
    let meant = c.in-Ok.ensures.meant in
    c.loaded_manifests_are_sound.ensures c.args.source.now (g.S.Source.failures c.args.source.now) (g.S.Source.failures c.manifest_at.new.source) c.args.order.now.manifest.now meant.0 c.in-Ok.manifest meant.1 meant.2

pub returns-clause-read : goal.returns-clause-read
returns-clause-read g c =
    read_of (g.S.Source.gives c.args.source.now) (g.S.Source.fails c.args.source.now) (g.S.Source.failures c.args.source.now) (g.S.Source.failures c.manifest_at.new.source) g.W.World.allows _ c.in-Ok.manifest _ _
    c.in-Ok.ensures.meant c.path_of_all.ensures c.image_recorded-prepared.ensures.prepared

pub returns-in-Err-clause-refused : goal.returns-in-Err-clause-refused
returns-in-Err-clause-refused g c = inl c.in-Err.ensures.refused

pub returns-clause-refused : goal.returns-clause-refused
returns-clause-refused g c = none_read _ (g.S.Source.gives c.args.source.now) _ g.W.World.allows c.args.order.now.manifest.now c.in-Ok.manifest c.image_recorded-prepared.result c.in-Ok.ensures.meant c.image_recorded-prepared.ensures.refused
