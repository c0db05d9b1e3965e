use Rattle.std.proofs.Common.{◌∙◌, ap, drop, List}
use Rattle.plan_image.specs.declared.body.Kind.{Kind}
use Rattle.plan_verify.proofs.KindsLemmas.{dropped}
use Rattle.plan_verify.proofs.kinds.Kinds.cut.Goals as goal

pub loop-preserved : goal.loop-preserved
loop-preserved c = c.pop.ensures ∙ ap (λ (ks : List Kind). drop 1 ks) c.loop.invariant ∙ dropped 1 c.loop.counter c.args.self.now
