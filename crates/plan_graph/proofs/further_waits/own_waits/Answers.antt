use Rattle.std.proofs.Common.{◌≡◌, ◌<◌, ◌∙◌, Global, List, Vec, ℕ, ap, arith, get_or, length, subst, sym}
use Rattle.std.specs.Prelude.{All, Contains}
use Rattle.std.proofs.lemmas.List.Elements.{All-push, Contains-get_or}
use Rattle.plan_graph.specs.Cycles.{WaitsFor}
use Rattle.plan_graph.proofs.further_waits.own_waits.Goals as goal
use Rattle.plan_graph.proofs.further_waits.own_waits.Goals.{then-own-place+in_ok-push, else-own-place}

pub loop-place-preserved : goal.loop-place-preserved
loop-place-preserved c =
    let waits = c.args.waits.now in
    let own = c.row-own.result.now in
    let lt : c.loop-place.place < length own = omega (arith, c.loop-place-test.true) in
    let waited : WaitsFor waits c.args.edge (get_or own c.loop-place.place 0) = subst (λ (r : List ℕ). Contains r (get_or own c.loop-place.place 0)) c.row-own.ensures (Contains-get_or own c.loop-place.place 0 lt) in
    elim c.if-own-place.branch [
      | then-own-place+in_ok-push w ↦
          let within : get_or own c.loop-place.place 0 < length waits = omega (arith, w.if-own-place.true, c.len.ensures) in
          subst (All (λ v. (v < length waits) × WaitsFor waits c.args.edge v)) (sym (ap (λ (v : Vec ℕ Global). v.items) w.row-is ∙ w.in_ok-push.ensures.items))
          (All-push (λ v. (v < length waits) × WaitsFor waits c.args.edge v) c.loop-place.row.items (get_or own c.loop-place.place 0) c.loop-place.invariant (within, waited))
      | else-own-place w ↦ subst (All (λ v. (v < length waits) × WaitsFor waits c.args.edge v)) (sym (ap (λ (v : Vec ℕ Global). v.items) w.row-is)) c.loop-place.invariant
    ]
