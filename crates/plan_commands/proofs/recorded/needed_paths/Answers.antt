use Rattle.std.proofs.Common.{◌≡◌, ◌<◌, ◌+◌, ◌++◌, ◌∷◌, [], ◌∙◌, List, ap, arith, length, subst, sym, take}
use Rattle.std.specs.Prelude.{All}
use Rattle.std.proofs.lemmas.List.{take_more}
use Rattle.std.proofs.lemmas.List.Elements.{All-push}
use Rattle.plan_scope.specs.Scopes.{Text}
use Rattle.plan_commands.specs.Recorded.{AreSome, IsMadeIn, MayLeaveIn}
use Rattle.plan_commands.proofs.RecordedLemmas.{some_kept, some_left}
use Rattle.plan_commands.proofs.recorded.needed_paths.Goals as goal
use Rattle.plan_commands.proofs.recorded.needed_paths.Goals.{then-branch+in_ok-push, else-branch}

pub loop-number-preserved : goal.loop-number-preserved
loop-number-preserved c =
    let g = c.args.graph.now in
    let ps = c.args.addition.now.order_only in
    let n = c.loop-number.number in
    let p = c.row-path.result.now in
    let kept = c.loop-number.kept in
    let lt : n < length ps = omega (arith, c.loop-number-test.true, c.len-number-end.ensures) in
    let taken : take (n + 1) ps ≡ take n ps ++ p ∷ [] = take_more ps n [] lt ∙ ap (λ (x : Text). take n ps ++ x ∷ []) (sym c.row-path.ensures) in
    elim c.if-branch.branch [
      | then-branch+in_ok-push w ↦
          let now : c.if-branch.kept ≡ kept ++ p ∷ [] = w.kept-is ∙ w.in_ok-push.ensures.more in (
            subst (λ (l : List Text). AreSome (MayLeaveIn g c.args.cycle.now c.args.addition.now.edge) l c.if-branch.kept) (sym taken)
                (subst (AreSome (MayLeaveIn g c.args.cycle.now c.args.addition.now.edge) (take n ps ++ p ∷ [])) (sym now) (some_kept (MayLeaveIn g c.args.cycle.now c.args.addition.now.edge) (take n ps) kept p c.loop-number.invariant.0)),
            subst (All (IsMadeIn g c.args.addition.now.edge)) (sym now) (All-push (IsMadeIn g c.args.addition.now.edge) kept p c.loop-number.invariant.1 (c.in_ok-is_needed.ensures.made w.if-branch.true)),
          )
      | else-branch w ↦ (
        subst (λ (l : List Text). AreSome (MayLeaveIn g c.args.cycle.now c.args.addition.now.edge) l c.if-branch.kept) (sym taken)
            (subst (AreSome (MayLeaveIn g c.args.cycle.now c.args.addition.now.edge) (take n ps ++ p ∷ [])) (sym w.kept-is)
            (some_left (MayLeaveIn g c.args.cycle.now c.args.addition.now.edge) (take n ps) kept p c.loop-number.invariant.0 (c.in_ok-is_needed.ensures.left w.if-branch.false))),
        subst (All (IsMadeIn g c.args.addition.now.edge)) (sym w.kept-is) c.loop-number.invariant.1,
      )
    ]
