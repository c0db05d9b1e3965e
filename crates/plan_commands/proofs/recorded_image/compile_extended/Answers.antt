use Rattle.std.proofs.Common.{◌⊎◌, sym, subst, take}
use Rattle.std.specs.Prelude.{All}
use Rattle.std.proofs.lemmas.List.Elements.{All-take}
use Rattle.plan_scope.specs.Extended.{IsMade, paths_in}
use Rattle.plan_scope.specs.Sound.{IsPath, IsSound}
use Rattle.plan_commands.proofs.recorded_image.compile_extended.Goals as goal

pub returns-in-Err-clause-sound : goal.returns-in-Err-clause-sound
returns-in-Err-clause-sound g c =
    let m = c.args.manifest.now in
    let additions = c.args.additions.now in
    let some = c.in-Err.ensures.some in
    subst IsSound (sym some.1) (c.extended_is_sound.ensures (take some.0 additions) m c.requires.sound (All-take (λ a. All (λ path. IsMade m path ⊎ IsPath path) (paths_in a)) some.0 additions c.requires.additions))
