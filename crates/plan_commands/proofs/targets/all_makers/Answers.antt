use Rattle.std.proofs.Common.{◌≡◌, ℕ, ◌+◌, ◌-◌, arith}
use Rattle.plan_image.specs.Columns.{lent}
use Rattle.plan_commands.specs.MakerMaps.{maker_in}
use Rattle.plan_commands.proofs.MakerLemmas.{edge_in_front}
use Rattle.plan_commands.proofs.targets.all_makers.Goals as goal

pub loop-number-preserved : goal.loop-number-preserved
loop-number-preserved c = λ path.
    let last : ℕ = c.loop-number.number - 1 in
    let next : last + 1 ≡ c.loop-number.number = omega (arith, c.loop-number-test.true) in
    edge_in_front c.parts-parts.result.now c.args.image.now path (lent c.edge-edge.result) last c.loop-number.number (maker_in c.loop-number.makers path) (maker_in c.put_files.new.makers path) c.parts-parts.ensures.tables
    c.edge-edge.ensures.rest next (c.in_ok-put_files.ensures path) (c.loop-number.invariant path)
