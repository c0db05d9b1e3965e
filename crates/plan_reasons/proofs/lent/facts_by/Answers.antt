use Rattle.std.proofs.Common.{◌∙◌, List, ap, map}
use Rattle.plan_compile.specs.declared.layout.Input.{Input}
use Rattle.plan_reasons.specs.Lent.{input_left}
use Rattle.plan_reasons.proofs.LentLemmas.{facts_are}
use Rattle.plan_reasons.proofs.lent.facts_by.Goals as goal

pub returns : goal.returns
returns g c = λ p slots order_only left given text.
    let stamp = g.L.LentSlots.stamp_left c.args.lent.now in
    let flag = g.L.LentSlots.flag_left c.args.lent.now in
    facts_are stamp flag p slots order_only c.args.layout.now c.in_ok-named.named c.len.result c.len-2.result c.in_ok-command.command c.args.command.now
    left given text (c.in_ok-named.ensures ∙ ap (λ (is : List Input). map (input_left stamp flag) is) c.as_slice.ensures) c.len.ensures c.len-2.ensures c.in_ok-command.ensures
