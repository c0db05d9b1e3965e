use Rattle.std.proofs.Common.{◌≡◌, ◌<◌, ℕ, Bool, false, List, length, replicate, ap, sym, ◌∙◌, subst, arith}
use Rattle.std.specs.Prelude.{slice_index_or}
use Rattle.std.proofs.Math.ListN.{length-replicate}
use Rattle.plan_verify.specs.Members.{is_member}
use Rattle.plan_machine.specs.Wanted.{AreWanted}
use Rattle.plan_machine.specs.Walk.{Walked, meet_all, left, Walks}
use Rattle.plan_machine.proofs.ListLemmas.{index_member}
use Rattle.plan_machine.proofs.WantedLemmas.{first_in, chosen_inside, waits_inside, walk_begins, walk_goes_on, walk_ends}
use Rattle.plan_machine.proofs.run.wanted.wanted_edges.Goals as goal

pub meet_all-requires : goal.meet_all-requires
meet_all-requires c k d lt =
    let e = slice_index_or c.chosen_targets.result.now k d in
    let inside = chosen_inside c.tables_are_in_range.ensures c.args.parts.now c.requires.shaped c.args.targets.now c.requires.inside e (ap (is_member e) (sym c.chosen_targets.ensures) ∙ index_member c.chosen_targets.result.now k d lt) in
    omega (arith, inside, ap (λ (w : Walked). length w.met) c.in_ok-walk.ensures, length-replicate c.edge_count.result false, c.edge_count.ensures)

pub loop-e-init : goal.loop-e-init
loop-e-init c =
    let met : c.in_ok-walk.walk.met ≡ replicate (length c.args.parts.now.edges) false = ap (λ (w : Walked). w.met) c.in_ok-walk.ensures ∙ ap (λ (n : ℕ). replicate n false) c.edge_count.ensures in
    let walks = walk_begins c.args.parts.now c.args.targets.now c.in_ok-walk.walk met (ap (λ (w : Walked). w.ahead) c.in_ok-walk.ensures) (chosen_inside c.tables_are_in_range.ensures c.args.parts.now c.requires.shaped c.args.targets.now c.requires.inside) in
    subst (λ (w : Walked). Walks c.args.parts.now c.args.targets.now w) (sym (c.in_ok-meet_all.ensures ∙ ap (meet_all c.in_ok-walk.walk) c.chosen_targets.ensures)) walks

pub meet_all-requires-in-Some : goal.meet_all-requires-in-Some
meet_all-requires-in-Some c k d lt =
    let e = slice_index_or c.waits.result.now k d in
    let walks = c.loop-e.invariant in
    let inside = waits_inside c.tables_are_in_range.ensures c.args.parts.now c.requires.shaped c.args.targets.now c.loop-e.walk walks c.in-Some.e (ap (is_member c.in-Some.e) c.in-Some.ensures.0 ∙ first_in c.in-Some.e c.next.new.self.ahead) e (ap (is_member e) (sym c.waits.ensures) ∙ index_member c.waits.result.now k d lt) in
    omega (arith, inside, walks.long, ap (λ (l : List Bool). length l) c.in-Some.ensures.1)

pub loop-e-smaller : goal.loop-e-smaller
loop-e-smaller c =
    let walks = c.loop-e.invariant in
    let on = walk_goes_on c.args.parts.now c.args.targets.now c.loop-e.walk c.next.new.self c.in-Some.e walks c.in-Some.ensures.0 c.in-Some.ensures.1
    (waits_inside c.tables_are_in_range.ensures c.args.parts.now c.requires.shaped c.args.targets.now c.loop-e.walk walks c.in-Some.e (ap (is_member c.in-Some.e) c.in-Some.ensures.0 ∙ first_in c.in-Some.e c.next.new.self.ahead)) in
    subst (λ (w : Walked). left w < left c.loop-e.walk) (sym (c.in_ok-meet_all-2.ensures ∙ ap (meet_all c.next.new.self) c.waits.ensures)) on.1

pub loop-e-preserved : goal.loop-e-preserved
loop-e-preserved c =
    let walks = c.loop-e.invariant in
    let on = walk_goes_on c.args.parts.now c.args.targets.now c.loop-e.walk c.next.new.self c.in-Some.e walks c.in-Some.ensures.0 c.in-Some.ensures.1
    (waits_inside c.tables_are_in_range.ensures c.args.parts.now c.requires.shaped c.args.targets.now c.loop-e.walk walks c.in-Some.e (ap (is_member c.in-Some.e) c.in-Some.ensures.0 ∙ first_in c.in-Some.e c.next.new.self.ahead)) in
    subst (λ (w : Walked). Walks c.args.parts.now c.args.targets.now w) (sym (c.in_ok-meet_all-2.ensures ∙ ap (meet_all c.next.new.self) c.waits.ensures)) on.0

pub returns : goal.returns
returns c =
    let done = c.in_default.ensures in
    let ends = walk_ends c.args.parts.now c.args.targets.now c.loop-e.walk c.loop-e.invariant done.0 in
    subst (λ (m : List Bool). AreWanted c.args.parts.now c.args.targets.now m) (sym (c.into_met.ensures ∙ ap (λ (w : Walked). w.met) done.1)) ends
