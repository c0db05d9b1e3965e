use Rattle.plan_tests_images.proofs.compile.halves.manifest.Goals as goal

pub returns-in-Ok-evaluate : goal.returns-in-Ok-evaluate
returns-in-Ok-evaluate c =
    c.loaded_manifests_are_sound.ensures (record { bytes = c.in_ok-bytes.bytes }) _ _ _ c.in-Ok.tree c.in-Ok-evaluate.manifest c.in-Ok.ensures.loaded.1 c.in-Ok-evaluate.ensures
