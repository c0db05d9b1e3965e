use Rattle.plan_scope.proofs.CompiledLemmas.{found_set}
use Rattle.plan_scope.proofs.manifest.rules.replace_rule.Goals as goal

pub returns-in-Some : goal.returns-in-Some
returns-in-Some c = λ rules bound a h. found_set rules bound c.args.found.now.items c.in-Some.place c.args.rule a h
