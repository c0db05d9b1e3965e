use Rattle.std.proofs.Common.{◌≡◌, List, ℕ, arith, subst, sym}
use Rattle.plan_scan.specs.Steps.{AreStampsBetween}
use Rattle.plan_scan.proofs.FileLemmas.{none, one_more}
use Rattle.plan_scan.proofs.files.stamps_between.Goals as goal

pub loop-number-init : goal.loop-number-init
loop-number-init g c =
    subst (λ (xs : List ℕ). AreStampsBetween g.W.World.allows c.args.graph.now c.args.from c.args.from xs) (sym c.new-stamps.ensures.items) (none g.W.World.allows c.args.graph.now c.args.from)

pub loop-number-preserved : goal.loop-number-preserved
loop-number-preserved g c =
    one_more g.W.World.allows c.args.graph.now c.args.from c.loop-number.number c.loop-number.stamps.items c.push.new.self.items c.in_ok-stamp.stamp c.loop-number.invariant c.in_ok-stamp.ensures c.in_ok-push.ensures.items

pub returns : goal.returns
returns g c =
    let is : c.loop-number.number ≡ c.args.to = omega (arith, c.loop-number-test.false, c.loop-number.auto.number-end) in
    subst (λ (n : ℕ). AreStampsBetween g.W.World.allows c.args.graph.now c.args.from n c.loop-number.stamps.items) is c.loop-number.invariant
