use Rattle.std.proofs.Common.{◌≤◌, List, ℕ, length, take, subst, arith}
use Rattle.std.specs.Prelude.{All}
use Rattle.std.proofs.lemmas.List.{take_all}
use Rattle.std.proofs.lemmas.List.Elements.{All-more, All-weaker}
use Rattle.plan_tools.specs.Need.{IsMet}
use Rattle.plan_tools.proofs.NeedLemmas.{met_stays, more_again}
use Rattle.plan_tools.proofs.need.Search.meet_all.Goals as goal

pub loop-path-preserved : goal.loop-path-preserved
loop-path-preserved c =
    let paths : List ℕ = c.args.paths.now in
    let i : ℕ = c.loop-path.path-index in
    let old = c.loop-path.self in
    let new = c.meet.new.self in (
      more_again c.args.self.now old new c.loop-path.invariant.0 c.meet.ensures.more,
      All-more (IsMet new) paths i 0 c.loop-path-test.true (All-weaker (IsMet old) (IsMet new) (met_stays old new c.meet.ensures.more) (take i paths) c.loop-path.invariant.1) c.in_ok-meet.ensures.met,
    )

pub returns-clause-met : goal.returns-clause-met
returns-clause-met c =
    let past : length c.args.paths.now ≤ c.loop-path.path-index = omega (arith, c.loop-path-test.false) in
    subst (All (IsMet c.loop-path.self)) (take_all c.loop-path.path-index c.args.paths.now past) c.loop-path.invariant.1
