use Rattle.std.proofs.Common.{◌∙◌, ap}
use Rattle.plan_scope.specs.declared.tree.File.{File}
use Rattle.plan_scope.specs.LoadingUpTo.{end_of}
use Rattle.plan_scope.proofs.UpToLemmas.{up_to_loaded, up_to_refused}
use Rattle.plan_scope.proofs.tree.loader.load_up_to_include.Goals as goal

pub returns-in-Err : goal.returns-in-Err
returns-in-Err c =
    up_to_refused c.args.file.now.value c.as_ref.result.now c.args.start c.loaded.inside.bound c.args.loaded c.loaded.inside.statements c.in-Err.fault c.as_ref.ensures c.loaded.view_is c.loaded.invariant
    c.in-Err.ensures.refused

pub returns-in-Ok-push : goal.returns-in-Ok-push
returns-in-Ok-push c =
    up_to_loaded c.args.file.now.value c.as_ref.result.now c.args.start c.end_of-end.result c.loaded.inside.bound c.bind_up_to_include.new.bound c.args.loaded c.loaded.inside.statements c.push.new.self c.in-Ok.include c.as_ref.ensures c.loaded.view_is c.loaded.invariant
    c.in-Ok.ensures.bound (c.end_of-end.ensures ∙ ap (λ (f : File). end_of f c.in-Ok.include) c.as_ref-2.ensures) c.in-Ok-push.ensures
