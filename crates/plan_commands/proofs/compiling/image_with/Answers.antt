use Rattle.std.proofs.Common.{rules}
use Rattle.plan_verify.specs.WellShaped.{IsWellShaped}
use Rattle.plan_compile.specs.Builds.{builds}
use Rattle.plan_compile.specs.Images.{compiled}
use Rattle.plan_commands.proofs.compiling.image_with.Goals as goal

pub returns-in-Ok-clause-spelled : goal.returns-in-Ok-clause-spelled
returns-in-Ok-clause-spelled g c =
    let manifest = c.args.manifest.now in
    let graph = c.args.graph in
    let shaped : IsWellShaped (compiled c.args.rule manifest graph) = c.image_is_shaped.ensures (builds c.args.rule manifest graph) (c.manifests_are_sound.ensures c.args.rule manifest graph c.requires.sound c.requires.graph) in
    record { graph = graph; is_graph = c.requires.graph; spelled = search rules; shaped = shaped; same = search rules }

pub returns-in-Ok-clause-image : goal.returns-in-Ok-clause-image
returns-in-Ok-clause-image g c =
    let manifest = c.args.manifest.now in
    let graph = c.args.graph in
    let shaped : IsWellShaped (compiled c.args.rule manifest graph) = c.image_is_shaped.ensures (builds c.args.rule manifest graph) (c.manifests_are_sound.ensures c.args.rule manifest graph c.requires.sound c.requires.graph) in
    record { sound = c.requires.sound; graph = graph; is_graph = c.requires.graph; same = search rules; shaped = search rules }
