use Rattle.std.proofs.Common.{subst}
use Rattle.plan_image.specs.declared.image.Parts.{Parts}
use Rattle.plan_image.specs.Refusal.{IsPartsFault}
use Rattle.plan_compile.specs.Images.{compiled}
use Rattle.plan_compile.proofs.RefusalLemmas.{passes_limit}
use Rattle.plan_compile.proofs.compiling.image_of.Goals as goal

pub returns-in-Err-clause-refused : goal.returns-in-Err-clause-refused
returns-in-Err-clause-refused g c =
    let m = c.args.manifest.now in
    let graph = c.args.graph.now in
    let why = c.in-Err._refused.1 in
    passes_limit (compiled c.args.rule m graph) why (c.image_is_spelled.ensures c.args.rule m graph c.requires.graph) (subst (λ (p : Parts). IsPartsFault p why) c.in_ok-parts.ensures.parts c.in-Err.ensures.fault)
