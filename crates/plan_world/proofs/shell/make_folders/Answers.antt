use Rattle.std.proofs.Common.{◌≡◌, true}
use Rattle.std.specs.Prelude.{IsUtf8}
use Rattle.plan_world.proofs.PathLemmas.{one_more}
use Rattle.plan_world.proofs.shell.make_folders.Goals as goal

pub loop-number-preserved : goal.loop-number-preserved
loop-number-preserved g c =
    let made : c.make_folder.result ≡ true = let made = c.if-not-make_folder.false in cc in
    one_more (λ p. IsUtf8 p) c.loop-number.number c.args.files.now c.row.result.now c.row.ensures c.loop-number.invariant (c.make_folder.ensures made)
