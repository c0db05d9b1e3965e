use Rattle.std.proofs.Common.{◌∙◌, ap}
use Rattle.plan_scope.specs.Scopes.{expand}
use Rattle.plan_scope.specs.Kept.{kept}
use Rattle.plan_scope.proofs.TextLemmas.{paths_taken}
use Rattle.plan_scope.proofs.manifest.defaults.expand_targets.Goals as goal

pub loop-path-preserved : goal.loop-path-preserved
loop-path-preserved c = λ m h.
    paths_taken (expand m) c.args.paths.now c.loop-path.path-index c.path-item.result c.loop-path.texts.items c.push.new.self.items c.new.result
    c.loop-path-test.true c.path-item.is (c.loop-path.invariant m h)
    (ap kept c.new.ensures ∙ (c.in_ok-text.ensures.text m h ∙ ap (λ ps. kept (expand m ps)) c.as_slice.ensures))
    c.in_ok-push.ensures.items
