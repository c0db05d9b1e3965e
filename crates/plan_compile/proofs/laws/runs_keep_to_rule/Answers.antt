use Rattle.plan_verify.specs.Alone.{at_begin}
use Rattle.plan_compile.specs.Means.{outputs_in, rule_of, Leaves}
use Rattle.plan_compile.proofs.Edge.{edge_means}
use Rattle.plan_compile.proofs.Running.{leads}
use Rattle.plan_compile.proofs.laws.runs_keep_to_rule.Goals as goal

pub returns : goal.returns
returns c = λ p e w is right meaning slots order_only typed lent given n told x run.
    leads meaning p e (Leaves (outputs_in w)) n (at_begin slots) x told (rule_of meaning p slots order_only w)
    (edge_means p e w is right meaning slots order_only typed lent given) run
