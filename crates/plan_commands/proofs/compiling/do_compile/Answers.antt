use Rattle.std.proofs.Common.{inl, inr, refl, rules}
use Rattle.plan_compile.specs.declared.baseline.OutOfDateRule.TheVariants.{Specified}
use Rattle.plan_image.specs.Spelling.{spelling}
use Rattle.plan_commands.proofs.CompilingLemmas.{not_compiled}
use Rattle.plan_commands.proofs.compiling.do_compile.Goals as goal

pub image_of-image-requires : goal.image_of-image-requires
image_of-image-requires g c =
    let meant = c.in_ok-manifest.ensures.meant in
    c.loaded_manifests_are_sound.ensures c.args.source.now (g.S.Source.failures c.args.source.now) (g.S.Source.failures c.manifest_at.new.source) c.args.path.now meant.0 c.in_ok-manifest.manifest meant.1 meant.2

pub returns-in-Err-clause-refused : goal.returns-in-Err-clause-refused
returns-in-Err-clause-refused g c = inl (refl, not_compiled Specified _ c.args.path.now c.in_ok-manifest.manifest c.in-Err.fault c.in_ok-manifest.ensures.meant c.in-Err.ensures.refused)

pub returns-in-Err-print_image-clause-refused : goal.returns-in-Err-print_image-clause-refused
returns-in-Err-print_image-clause-refused g c =
    let meant = c.in_ok-manifest.ensures.meant in
    inr (record {
      lines = meant.0;
      manifest = c.in_ok-manifest.manifest;
      bytes = spelling c.in-Ok-image.image;
      loaded = meant.1;
      means = meant.2;
      spells = c.in-Ok-image.ensures.spelled;
      failed = search rules;
      says = c.in-Ok.ensures;
    })
