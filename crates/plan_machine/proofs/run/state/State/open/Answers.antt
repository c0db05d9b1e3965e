use Rattle.std.proofs.Common.{◌≡◌, ℕ, Bool, List, None, Option, length, map, replicate, ap, ◌∙◌, subst}
use Rattle.plan_image.specs.declared.image.Parts.{Parts}
use Rattle.plan_verify.specs.declared.value.Value.{Value}
use Rattle.plan_schedule.specs.Opening.{opening_phase}
use Rattle.plan_machine.specs.RunState.{RunState}
use Rattle.plan_machine.specs.Kept.{IsPlanOf}
use Rattle.plan_machine.specs.Runs.{Opens, at_first}
use Rattle.plan_machine.specs.Total.{total_of}
use Rattle.plan_machine.specs.Wanted.{AreWanted}
use Rattle.plan_machine.proofs.KeptLemmas.{opens_kept}
use Rattle.plan_machine.proofs.StateLemmas.{first_state}
use Rattle.plan_machine.proofs.run.state.State.open.Goals as goal

pub returns-clause-state : goal.returns-clause-state
returns-clause-state c =
    let p = c.args.image.now in
    let wanted = c.in_ok-wanted.wanted.items in
    let tables : c.parts-parts.result.now ≡ p = c.parts-parts.ensures.tables ∙ c.image.ensures.same in
    let are : AreWanted p c.args.targets.now wanted = subst (λ (x : Parts). AreWanted x c.args.targets.now wanted) tables c.in_ok-wanted.ensures in
    let plan : IsPlanOf p c.in_ok-plan.plan = subst (λ (x : Parts). IsPlanOf x c.in_ok-plan.plan) tables c.in_ok-plan.ensures in
    let machine = c.in_ok-machine.machine in
    let edges : machine.now.edges ≡ map at_first wanted = ap (λ (g : RunState). g.now.edges) c.in_ok-machine.ensures ∙ ap (λ (l : List Bool). map at_first l) c.deref-2.ensures.value in
    let slots : machine.now.slots ≡ replicate {A = Option Value} (length p.slots) None =
    ap (λ (g : RunState). g.now.slots) c.in_ok-machine.ensures ∙ ap (λ (n : ℕ). replicate {A = Option Value} n None) (c.len.ensures ∙ ap (λ (x : Parts). length x.slots) tables) in
    let opens : Opens p c.args.targets.now machine.now = record { wanted = wanted; are = are; edges = edges; slots = slots } in
    let phases = c.in_ok-schedule.ensures.phases ∙ ap (λ (l : List Bool). map opening_phase l) c.deref.ensures.value in
    first_state p c.args.targets.now (record { run_state = machine; plan = c.in_ok-plan.plan; schedule = c.in_ok-schedule.schedule; total = c.total-total.result }) opens
    (opens_kept p machine.now c.in_ok-plan.plan c.in_ok-schedule.schedule wanted plan edges are.long c.in_ok-schedule.ensures.schedule phases)
    (c.total-total.ensures ∙ ap (λ (x : Parts). total_of x machine.now) tables)
