use Rattle.std.proofs.Common.{◌∙◌, List, [], ◌∷◌, ◌++◌, Option, ap, subst, sym}
use Rattle.plan_lanes.specs.declared.board.Advance.{Advance}
use Rattle.plan_lanes.specs.declared.board.Advance.TheVariants as advance
use Rattle.plan_lanes.specs.declared.board.Permit.{Permit}
use Rattle.plan_lanes.specs.Batches.{Gathers, Held}
use Rattle.plan_lanes.specs.Proceeds.{Proceeds}
use Rattle.plan_lanes.specs.SharedRuns.{Shared}
use Rattle.plan_lanes.proofs.BatchLemmas.{gathers_moved, gathers_none, permitted, takes_held, takes_nothing, takes_run}
use Rattle.plan_lanes.proofs.lanes.take.Goals as goal

pub loop-init : goal.loop-init
loop-init g c = (tt, tt, gathers_none c.args.shared.now.run c.args.batch.now)

pub loop-preserved-in-Ok-Moved : goal.loop-preserved-in-Ok-Moved
loop-preserved-in-Ok-Moved g c =
    let sofar : Gathers c.args.shared.now.run c.loop.shared.run c.args.batch.now c.advance.new.self [] =
    subst (λ (batch : List Held). Gathers c.args.shared.now.run c.loop.shared.run c.args.batch.now batch []) (sym c.advance.ensures.same) c.loop.invariant.2 in
    let moved = subst (λ (x : Advance). Proceeds c.loop.shared.run c.advance.new.shared.run x) c.in-Ok-Moved.field-0-is c.in-Ok-Moved.ensures.ok in
    (tt, tt, gathers_moved c.args.shared.now.run c.loop.shared.run c.advance.new.shared.run c.args.batch.now c.advance.new.self sofar moved)

pub new-requires : goal.new-requires
new-requires g c =
    let job : Proceeds c.loop.shared.run c.advance.new.shared.run (advance.Job c.in-Ok-Job.edge c.in-Ok-Job.question c.in-Ok-Job.permit) =
    subst (λ (x : Advance). Proceeds c.loop.shared.run c.advance.new.shared.run x) c.in-Ok-Job.field-0-is c.in-Ok-Job.ensures.ok in
    let run = subst (λ (o : Option Permit). Proceeds c.loop.shared.run c.advance.new.shared.run (advance.Job c.in-Ok-Job.edge c.in-Ok-Job.question o)) c.in-Some-permit.is job in
    permitted c.loop.shared.run c.advance.new.shared.run c.in-Ok-Job.edge c.in-Ok-Job.question c.in-Some-permit.permit run

pub returns-in-Some-permit : goal.returns-in-Some-permit
returns-in-Some-permit g c =
    let sofar : Gathers c.args.shared.now.run c.loop.shared.run c.args.batch.now c.advance.new.self [] =
    subst (λ (batch : List Held). Gathers c.args.shared.now.run c.loop.shared.run c.args.batch.now batch []) (sym c.advance.ensures.same) c.loop.invariant.2 in
    let job : Proceeds c.loop.shared.run c.advance.new.shared.run (advance.Job c.in-Ok-Job.edge c.in-Ok-Job.question c.in-Ok-Job.permit) =
    subst (λ (x : Advance). Proceeds c.loop.shared.run c.advance.new.shared.run x) c.in-Ok-Job.field-0-is c.in-Ok-Job.ensures.ok in
    let run = subst (λ (o : Option Permit). Proceeds c.loop.shared.run c.advance.new.shared.run (advance.Job c.in-Ok-Job.edge c.in-Ok-Job.question o)) c.in-Some-permit.is job in
    takes_run c.args.shared.now.run c.loop.shared.run c.advance.new.shared.run c.args.batch.now c.advance.new.self sofar c.in-Ok-Job.edge c.in-Ok-Job.question c.in-Some-permit.permit c.new.result c.new.ensures run

pub returns-then-not-push : goal.returns-then-not-push
returns-then-not-push g c = takes_nothing c.args.shared.now.run c.loop.shared.run c.advance.new.shared.run c.args.batch.now c.loop.batch c.loop.invariant.2 c.advance.ensures.goes

pub loop-preserved : goal.loop-preserved
loop-preserved g c =
    let sofar : Gathers c.args.shared.now.run c.loop.shared.run c.args.batch.now c.advance.new.self [] =
    subst (λ (batch : List Held). Gathers c.args.shared.now.run c.loop.shared.run c.args.batch.now batch []) (sym c.advance.ensures.same) c.loop.invariant.2 in
    let job : Proceeds c.loop.shared.run c.advance.new.shared.run (advance.Job c.in-Ok-Job.edge c.in-Ok-Job.question c.in-Ok-Job.permit) =
    subst (λ (x : Advance). Proceeds c.loop.shared.run c.advance.new.shared.run x) c.in-Ok-Job.field-0-is c.in-Ok-Job.ensures.ok in
    let asked = subst (λ (o : Option Permit). Proceeds c.loop.shared.run c.advance.new.shared.run (advance.Job c.in-Ok-Job.edge c.in-Ok-Job.question o)) c.in-None-permit.is job in
    let longer = c.push.ensures c.if-not-push.false ∙ ap (λ (m : Held). c.advance.new.self ++ m ∷ []) c.open.ensures in
    let held = takes_held c.args.shared.now.run c.loop.shared.run c.advance.new.shared.run c.args.batch.now c.advance.new.self sofar c.in-Ok-Job.edge c.in-Ok-Job.question asked c.push.new.self longer in
    (tt, tt, subst (λ (counted : Shared). Gathers c.args.shared.now.run counted.run c.args.batch.now c.push.new.self []) (sym c.count_taken.ensures) held)

pub returns-in-Err : goal.returns-in-Err
returns-in-Err g c = takes_nothing c.args.shared.now.run c.loop.shared.run c.advance.new.shared.run c.args.batch.now c.loop.batch c.loop.invariant.2 c.advance.ensures.goes
