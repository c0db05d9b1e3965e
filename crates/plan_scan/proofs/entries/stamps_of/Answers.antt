use Rattle.std.proofs.Common.{◌<◌, List, ℕ, arith, length, subst}
use Rattle.plan_verify.specs.Turn.{Stat, StampIs}
use Rattle.plan_scan.specs.Scans.{MayBe}
use Rattle.plan_scan.proofs.CommandLemmas.{one_more_path}
use Rattle.plan_scan.proofs.entries.stamps_of.Goals as goal

pub loop-number-preserved : goal.loop-number-preserved
loop-number-preserved g c =
    let less : c.loop-number.number < length c.args.paths.now = omega (arith, c.loop-number-test.true, c.len-number-end.ensures) in
    one_more_path g.W.World.allows c.args.paths.now c.loop-number.number c.loop-number.stamps.items c.push.new.self.items c.in_ok-stamp.stamp c.loop-number.invariant less
    (subst (λ (path : List ℕ). MayBe g.W.World.allows (Stat path) (StampIs c.in_ok-stamp.stamp)) c.path.ensures c.in_ok-stamp.ensures) c.in_ok-push.ensures.items
