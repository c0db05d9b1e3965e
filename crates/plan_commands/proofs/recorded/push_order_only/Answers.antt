use Rattle.std.proofs.Common.{◌≡◌, ◌++◌, ◌∷◌, [], ◌∙◌, ap}
use Rattle.plan_scope.specs.declared.edge.addition.Addition.{Addition}
use Rattle.plan_commands.specs.Recorded.{paths_for}
use Rattle.plan_commands.proofs.RecordedLemmas.{adds, paths_more, same_adds}
use Rattle.plan_commands.proofs.recorded.push_order_only.Goals as goal

pub returns-clause-paths : goal.returns-clause-paths
returns-clause-paths c = λ e.
    let old = c.args.additions.now.items in
    let a : Addition = adds c.args.edge [] [] c.args.paths in
    let pushed : c.push.new.self.items ≡ old ++ a ∷ [] = c.in_ok-push.ensures.items ∙ ap (λ (x : Addition). old ++ x ∷ []) (same_adds c.args.edge c.new-outputs.result c.new-inputs.result c.args.paths c.new-outputs.ensures c.new-inputs.ensures) in
    ap (paths_for e) pushed ∙ paths_more e old a
