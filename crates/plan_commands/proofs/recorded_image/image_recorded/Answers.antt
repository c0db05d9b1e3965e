use Rattle.std.proofs.Common.{◌⊎◌, inr, subst, sym}
use Rattle.std.proofs.lemmas.Result.{IfErr-weaker}
use Rattle.plan_scope.specs.Extended.{AreSoundFor, extended}
use Rattle.plan_compile.specs.declared.baseline.OutOfDateRule.TheVariants as OutOfDateRule
use Rattle.plan_commands.specs.Building.{IsCompiled, LacksRecorded}
use Rattle.plan_commands.specs.Commands.{LacksGraph}
use Rattle.plan_commands.specs.Compiling.{LacksImageOf}
use Rattle.plan_commands.specs.Recorded.{AreRecorded}
use Rattle.plan_commands.proofs.BuildingLemmas.{err_so}
use Rattle.plan_commands.proofs.RecordedLemmas.{recorded_sound}
use Rattle.plan_commands.proofs.recorded_image.image_recorded.Goals as goal

pub compile_extended-requires-clause-additions : goal.compile_extended-requires-clause-additions
compile_extended-requires-clause-additions g c κs within =
    let rule = g.W.World.allows in
    let m = c.args.manifest.now in
    let recorded : AreRecorded rule m c.in-Ok-Lacks.additions.items = subst (IsCompiled rule m _) c.in-Ok-Lacks.field-0-is c.in-Ok-Lacks.ensures.compiled in
    subst (AreSoundFor m) (sym c.deref.ensures.value) (recorded_sound rule m c.in-Ok-Lacks.additions.items recorded)

pub returns-in-Ok-Lacks-clause-refused : goal.returns-in-Ok-Lacks-clause-refused
returns-in-Ok-Lacks-clause-refused g c =
    let rule = g.W.World.allows in
    let m = c.args.manifest.now in
    let items = c.deref.result.now in
    let told : AreRecorded rule m c.in-Ok-Lacks.additions.items = subst (IsCompiled rule m _) c.in-Ok-Lacks.field-0-is c.in-Ok-Lacks.ensures.compiled in
    let recorded = subst (AreRecorded rule m) (sym c.deref.ensures.value) told in
    err_so (λ fault. LacksRecorded rule m fault) c.compile_extended.result c.in-Err-compile_extended.fault c.in-Err-compile_extended.is (
    IfErr-weaker c.compile_extended.result (λ fault. LacksGraph (extended items m) fault ⊎ LacksImageOf OutOfDateRule.Stricter (extended items m) fault) (λ fault. LacksRecorded rule m fault) (λ fault h. inr (items, recorded, h)) c.compile_extended.ensures.refused)
