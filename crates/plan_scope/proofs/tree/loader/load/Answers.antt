use Rattle.std.proofs.Common.{ℕ, List, [], ◌∷◌, ◌++◌, ap, ◌∙◌}
use Rattle.plan_scope.proofs.LoaderLemmas.{tree_loaded, tree_failed}
use Rattle.plan_scope.proofs.tree.loader.load.Goals as goal

pub returns-in-Ok-load_file-clause-loaded : goal.returns-in-Ok-load_file-clause-loaded
returns-in-Ok-load_file-clause-loaded g c =
    tree_loaded (g.S.Source.gives c.args.source.now) (g.S.Source.fails c.args.source.now) (g.S.Source.failures c.args.source.now) (g.S.Source.failures c.load_file.new.source) c.in-Ok.name c.args.path.now c.new.result c.new-none.result
    c.in-Ok-load_file.loaded c.into_tree.result c.in-Ok.ensures
    (c.new.ensures ∙ (c.in-Ok-push.ensures.items ∙ ap (λ (s : List ℕ). s ++ 0 ∷ []) c.new-scopes.ensures.items)) c.new-none.ensures c.into_tree.ensures c.in-Ok-load_file.ensures.loaded

pub returns-in-Err-clause-loaded : goal.returns-in-Err-clause-loaded
returns-in-Err-clause-loaded g c =
    tree_failed (g.S.Source.gives c.args.source.now) (g.S.Source.fails c.args.source.now) (g.S.Source.failures c.args.source.now) (g.S.Source.failures c.load_file.new.source) c.in-Ok.name c.args.path.now c.new.result c.new-none.result
    c.in-Err.fault c.in-Ok.ensures
    (c.new.ensures ∙ (c.in-Ok-push.ensures.items ∙ ap (λ (s : List ℕ). s ++ 0 ∷ []) c.new-scopes.ensures.items)) c.new-none.ensures c.in-Err.ensures.loaded
