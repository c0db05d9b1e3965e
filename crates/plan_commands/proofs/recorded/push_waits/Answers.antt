use Rattle.std.proofs.Common.{◌≡◌, ◌<◌, ◌∙◌, [], Global, List, Some, Vec, ap, arith, get_or, length, refl, subst, sym}
use Rattle.std.specs.Prelude.{All, Contains}
use Rattle.std.proofs.lemmas.List.Elements.{All-push, Contains-get_or}
use Rattle.plan_scope.specs.Scopes.{Text}
use Rattle.plan_scope.specs.declared.edge.addition.Addition.{Addition}
use Rattle.plan_graph.specs.Files.{producer_in}
use Rattle.plan_graph.specs.declared.further_waits.Wait.{Wait}
use Rattle.plan_commands.specs.Recorded.{IsWaitOf}
use Rattle.plan_commands.proofs.recorded.push_waits.Goals as goal
use Rattle.plan_commands.proofs.recorded.push_waits.Goals.{in-Some+in_ok-push-in-Some, in-None}

pub loop-place-preserved : goal.loop-place-preserved
loop-place-preserved c =
    let g = c.args.graph.now in
    let additions = c.args.additions.now in
    let a : Addition = c.index-additions-number.result in
    let is = c.index-additions-number.is in
    let at : get_or additions c.args.number a ≡ a = cc in
    let place = c.loop-place.place in
    let path : Text = get_or a.order_only place [] in
    let lt : place < length a.order_only = omega (arith, c.loop-place-test.true, c.len-place-end.ensures) in
    elim c.match-producer.branch [
      | in-Some+in_ok-push-in-Some w ↦
          let wait : Wait = record { edge = a.edge; maker = w.in-Some.maker } in
          let made : producer_in g.files path ≡ Some w.in-Some.maker = ap (producer_in g.files) (sym c.row.ensures) ∙ sym c.producer.ensures ∙ w.in-Some.is in
          subst (All (IsWaitOf g additions)) (sym (ap (λ (v : Vec Wait Global). v.items) w.waits-is ∙ w.in_ok-push-in-Some.ensures.items))
          (All-push (IsWaitOf g additions) c.loop-place.waits.items wait c.loop-place.invariant (a, (c.args.number, c.requires.here, at), refl, path, Contains-get_or a.order_only place [] lt, made))
      | in-None w ↦ subst (All (IsWaitOf g additions)) (sym (ap (λ (v : Vec Wait Global). v.items) w.waits-is)) c.loop-place.invariant
    ]
