use Rattle.std.proofs.Common.{◌∙◌, sym}
use Rattle.plan_commands.proofs.ComparingLemmas.{compared, not_replayed}
use Rattle.plan_commands.proofs.comparing.compare_runs.Goals as goal

pub returns-in-Ok-clause-compared : goal.returns-in-Ok-clause-compared
returns-in-Ok-clause-compared c =
    compared c.args.image.now c.args.first.now c.args.second.now c.as_slice-events.result.now c.as_slice-others.result.now c.in-Ok.same
    (sym c.are_comparable.ensures ∙ c.if-not-are_comparable.false) c.as_slice-events.ensures c.as_slice-others.ensures c.in-Ok.ensures.tells c.in-Ok.ensures.never_apart

pub returns-in-Err-clause-refused : goal.returns-in-Err-clause-refused
returns-in-Err-clause-refused c =
    not_replayed c.args.image.now c.args.first.now c.args.second.now c.as_slice-events.result.now c.as_slice-others.result.now c.in-Err.event c.in-Err.refused c.printed_refusal.result
    (sym c.are_comparable.ensures ∙ c.if-not-are_comparable.false) c.as_slice-events.ensures c.as_slice-others.ensures c.in-Err.ensures.refused c.printed_refusal.ensures
