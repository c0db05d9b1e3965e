use Rattle.std.proofs.Common.{ℕ, subst}
use Rattle.plan_scan.specs.Steps.{AreUpToDate}
use Rattle.plan_scan.proofs.CommandLemmas.{on_so}
use Rattle.plan_scan.proofs.WantedLemmas.{nothing_to_do}
use Rattle.plan_scan.proofs.scan.check_all.Goals as goal

pub returns : goal.returns
returns g c =
    let scan = c.args.scan.now in
    on_so _ _ c.check_below.result c.check_below.ensures (λ are.
    nothing_to_do g.W.World.allows c.args.manifest.now c.args.graph.now c.args.targets.now scan.found.items scan.wanted.items c.in_ok-check_marks.ensures.marked c.in_ok-check_marks.ensures.closed
    (subst (λ (n : ℕ). AreUpToDate g.W.World.allows c.args.manifest.now c.args.graph.now scan.found.items scan.wanted.items 0 n) c.len.ensures are))
