use Rattle.std.proofs.lemmas.Result.{on_ok_weaker}
use Rattle.plan_scope.proofs.manifest.evaluator.add_statement.Goals as goal

pub returns-in-Directive-clause-found : goal.returns-in-Directive-clause-found
returns-in-Directive-clause-found c = on_ok_weaker c.add_directive.result (λ h. h c.args.facts.now.bound.now c.requires) c.add_directive.ensures.found
