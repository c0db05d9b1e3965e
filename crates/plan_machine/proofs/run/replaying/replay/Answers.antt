use Rattle.plan_machine.specs.Depfile.{depfile}
use Rattle.plan_machine.proofs.Applies.{if_ok_more}
use Rattle.plan_machine.proofs.ReplayLemmas.{on_ok_more, whole}
use Rattle.plan_machine.proofs.run.replaying.replay.Goals as goal

pub returns-in-Ok-clause-safe : goal.returns-in-Ok-clause-safe
returns-in-Ok-clause-safe c =
    let p = c.args.image.now in
    let start = c.in-Ok.state.run_state in
    let opens = c.in-Ok.ensures.opens in
    if_ok_more _ _ c.replay_on.result
    (λ x r. λ event flaw. c.never_wrong.ensures depfile p c.image-tables.ensures.shaped c.args.options c.args.targets.now c.args.events.now x.1.items x.0.run_state.now
    (whole p c.image-tables.ensures.shaped c.args.options c.args.targets.now c.args.events.now start opens.0 opens.1 x.1.items x.0.run_state r) event flaw) c.replay_on.ensures.ok

pub returns-in-Ok-clause-orderly : goal.returns-in-Ok-clause-orderly
returns-in-Ok-clause-orderly c =
    let p = c.args.image.now in
    let start = c.in-Ok.state.run_state in
    let opens = c.in-Ok.ensures.opens in
    if_ok_more _ _ c.replay_on.result
    (λ x r. c.marks_are_orderly.ensures depfile p c.image-tables.ensures.shaped c.args.options c.args.targets.now c.args.events.now x.1.items x.0.run_state.now
    (whole p c.image-tables.ensures.shaped c.args.options c.args.targets.now c.args.events.now start opens.0 opens.1 x.1.items x.0.run_state r)) c.replay_on.ensures.ok

pub returns-in-Ok-clause-bounded : goal.returns-in-Ok-clause-bounded
returns-in-Ok-clause-bounded c =
    let p = c.args.image.now in
    let start = c.in-Ok.state.run_state in
    let opens = c.in-Ok.ensures.opens in
    on_ok_more _ _ c.replay_on.result
    (λ x r. c.stays_in_budget.ensures depfile c.depfiles_are_frugal.ensures p c.image-tables.ensures.shaped c.args.options c.args.targets.now c.args.events.now x.1.items x.0.run_state.now
    (whole p c.image-tables.ensures.shaped c.args.options c.args.targets.now c.args.events.now start opens.0 opens.1 x.1.items x.0.run_state r)) c.replay_on.ensures.ok
