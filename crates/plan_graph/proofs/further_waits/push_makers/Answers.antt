use Rattle.std.proofs.Common.{◌≡◌, ◌<◌, ◌++◌, ◌∷◌, [], ◌∙◌, Global, List, Vec, ℕ, ap, append_assoc, arith, get_or, length, refl, sym}
use Rattle.std.specs.Prelude.{All, Contains}
use Rattle.std.proofs.lemmas.List.Elements.{All-push, Contains-get_or}
use Rattle.plan_graph.specs.declared.further_waits.Wait.{Wait}
use Rattle.plan_graph.specs.FurtherWaits.{IsFurther}
use Rattle.plan_graph.proofs.further_waits.push_makers.Goals as goal
use Rattle.plan_graph.proofs.further_waits.push_makers.Goals.{then-more-place-2+in_ok-push, else-more-place-2}

pub loop-place-preserved : goal.loop-place-preserved
loop-place-preserved c =
    let more = c.args.more.now in
    let none : Wait = record { edge = 0; maker = 0 } in
    let wait : Wait = get_or more c.loop-place.place none in
    let lt : c.loop-place.place < length more = omega (arith, c.loop-place-test.true) in
    let own : wait.edge ≡ c.args.edge = c.if-more-place.false in
    let added = c.loop-place.invariant.0 in
    elim c.if-more-place-2.branch [
      | then-more-place-2+in_ok-push w ↦
          let within : wait.maker < c.args.count = omega (arith, w.if-more-place-2.true) in (
            added ++ wait.maker ∷ [],
            ap (λ (v : Vec ℕ Global). v.items) w.row-is ∙ w.in_ok-push.ensures.items ∙ ap (λ (r : List ℕ). r ++ wait.maker ∷ []) c.loop-place.invariant.1 ∙ append_assoc c.args.row.now.items added (wait.maker ∷ []),
            All-push (λ v. (v < c.args.count) × IsFurther more c.args.edge v) added wait.maker c.loop-place.invariant.2 (within, (wait, Contains-get_or more c.loop-place.place none lt, own, refl)),
          )
      | else-more-place-2 w ↦ (added, ap (λ (v : Vec ℕ Global). v.items) w.row-is ∙ c.loop-place.invariant.1, c.loop-place.invariant.2)
    ]
