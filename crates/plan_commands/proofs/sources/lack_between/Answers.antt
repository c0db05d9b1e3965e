use Rattle.std.proofs.Common.{◌≤◌, Option, arith, subst}
use Rattle.plan_commands.specs.declared.sources.Lack.{Lack}
use Rattle.plan_commands.specs.NeededFiles.{FindsAt}
use Rattle.plan_commands.proofs.SourcesLemmas.{have_fewer, have_one_more}
use Rattle.plan_commands.proofs.sources.lack_between.Goals as goal

pub loop-edge-preserved : goal.loop-edge-preserved
loop-edge-preserved g c =
    have_one_more g.W.World.allows c.args.image.now c.args.wanted.now c.args.from c.loop-edge.edge c.loop-edge.invariant
    (subst (λ (x : Option Lack). FindsAt g.W.World.allows c.args.image.now c.args.wanted.now c.loop-edge.edge x) c.in-None.is c.in_ok-lack.ensures)

pub returns : goal.returns
returns g c =
    let done : c.args.to ≤ c.loop-edge.edge = omega (arith, c.loop-edge-test.false) in
    have_fewer g.W.World.allows c.args.image.now c.args.wanted.now c.args.from c.loop-edge.edge c.args.to done c.loop-edge.invariant
