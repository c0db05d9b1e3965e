use Rattle.plan_verify.specs.Alone.{at_begin}
use Rattle.plan_compile.specs.Means.{Leaves}
use Rattle.plan_compile.specs.Slots.{base, made}
use Rattle.plan_compile.specs.Images.{image_of}
use Rattle.plan_compile.specs.Told.{edge_does, facts}
use Rattle.plan_compile.proofs.Running.{leads}
use Rattle.plan_compile.proofs.image_laws.image_keeps_to_rule.Goals as goal

pub returns : goal.returns
returns c = λ t sound e x is meaning slots typed lent n told y run.
    leads meaning (image_of t) e (Leaves (made (base t.edges e) x)) n (at_begin slots) y told (edge_does x.edge.phony meaning (facts t slots x))
    (c.image_means.ensures t sound e x is meaning slots typed lent) run
