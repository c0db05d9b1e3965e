use Rattle.plan_verify.specs.WellShaped.{IsWellShaped}
use Rattle.plan_compile.specs.Builds.{builds}
use Rattle.plan_compile.specs.Images.{compiled}
use Rattle.plan_machine.specs.Depfile.{depfile}
use Rattle.plan_laws.proofs.laws.runs_keep_to_manifest.Goals as goal

pub returns : goal.returns
returns g0 c = λ rule m g sound graph limits targets r run e x status stage there at is.
    let whole = c.manifests_are_sound.ensures rule m g sound graph in
    let shaped : IsWellShaped (compiled rule m g) = c.image_is_shaped.ensures (builds rule m g) whole in
    let own = c.each_ran_by_itself.ensures depfile (compiled rule m g) shaped limits targets r.journal run.left r.state.run_state.now run.reached e status stage at is in
    let keeps = c.image_keeps_to_rule.ensures (builds rule m g) whole e x there depfile own.start own.typed own.set own.turns own.told (record { stage = stage; slots = own.end }) own.alone in
    record { slots = own.start; lent = own.lent; conversation = own.told; answered = own.heard; rest = keeps.0; follows = keeps.1; end = own.end; own = own.own; keeps = keeps.2 }
