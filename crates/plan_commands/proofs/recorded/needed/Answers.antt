use Rattle.std.proofs.Common.{◌≡◌, ◌<◌, ◌≤◌, ◌+◌, ℕ, [], List, arith, get_or, length, refl, subst, sym, take}
use Rattle.std.proofs.lemmas.List.{take_all}
use Rattle.plan_scope.specs.declared.edge.addition.Addition.{Addition}
use Rattle.plan_commands.specs.Recorded.{AreSome, MayLeaveIn, paths_for}
use Rattle.plan_commands.proofs.RecordedLemmas.{adds, needed_more, only_more}
use Rattle.plan_commands.proofs.recorded.needed.Goals as goal

pub loop-number-preserved : goal.loop-number-preserved
loop-number-preserved c =
    let g = c.args.graph.now in
    let given = c.args.additions.now in
    let n = c.loop-number.number in
    let a : Addition = c.index-additions-number.result in
    let b : Addition = adds a.edge [] [] c.in_ok-paths.paths in
    let lt : n < length given = omega (arith, c.loop-number-test.true) in
    let is = c.index-additions-number.is in
    let at : get_or given n a ≡ a = cc in (
      λ e. needed_more (MayLeaveIn g c.args.cycle.now) given n a b c.loop-number.kept.items c.push_order_only.new.additions.items lt at refl c.in_ok-paths.ensures.some c.in_ok-push_order_only.ensures.paths c.loop-number.invariant.0 e,
      λ k. only_more g given n a b c.loop-number.kept.items c.push_order_only.new.additions.items lt at refl refl refl c.in_ok-paths.ensures.made c.in_ok-push_order_only.ensures.added c.loop-number.invariant.1 k,
    )

pub returns-clause-some : goal.returns-clause-some
returns-clause-some c = λ e.
    let given = c.args.additions.now in
    let past : length given ≤ c.loop-number.number = omega (arith, c.loop-number-test.false) in
    subst (λ (l : List Addition). AreSome (MayLeaveIn c.args.graph.now c.args.cycle.now e) (paths_for e l) (paths_for e c.loop-number.kept.items)) (take_all c.loop-number.number given past) (c.loop-number.invariant.0 e)
