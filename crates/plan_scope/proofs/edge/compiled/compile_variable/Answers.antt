use Rattle.std.proofs.Common.{◌≤◌, subst}
use Rattle.plan_scope.specs.ScopeNames.{names_in}
use Rattle.plan_scope.proofs.CompiledLemmas.{all_added, both_whole}
use Rattle.plan_scope.proofs.edge.compiled.compile_variable.Goals as goal

pub returns-in-Ok : goal.returns-in-Ok
returns-in-Ok c = λ e.
    let both = both_whole c.args.is_whole.now c.in-Ok.is_all e in (
      both.0,
      all_added c.args.rule.now (names_in c.args.file) c.new-parts.result.items c.add_variable.new.parts.items c.depth_limit-left.result c.args.name.now c.new-parts.ensures.items
          (subst (λ n. c.depth_limit-left.result ≤ n) c.len.ensures c.depth_limit-left.ensures) (c.in-Ok.ensures both.1),
    )
