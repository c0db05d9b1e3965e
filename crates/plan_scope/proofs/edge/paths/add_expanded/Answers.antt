use Rattle.std.proofs.Common.{◌∙◌, ◌∷◌, ◌++◌, ◌||◌, [], ap}
use Rattle.std.proofs.lemmas.Result.{on_ok_weaker}
use Rattle.plan_scope.specs.Scopes.{Text, is_empty, is_long_path}
use Rattle.plan_scope.specs.Edges.{path_of}
use Rattle.plan_scope.proofs.edge.paths.add_expanded.Goals as goal

pub returns : goal.returns
returns c =
    let value = c.deref.ensures.value in
    let read = c.args.read.now in
    on_ok_weaker c.push_seen.result
    (λ seen. (
      c.expand_path.new.buffer.items,
      record {
        rows = seen.0 ∙ ap (λ (t : Text). read.rows ++ path_of t ∷ []) value;
        empty = seen.1 ∙ ap (λ (t : Text). read.has_empty || is_empty t) value;
        long = seen.2 ∙ ap (λ (t : Text). read.has_long || is_long_path t) value;
      },
      c.in_ok-expand_path.ensures.text,
    ))
    c.push_seen.ensures
