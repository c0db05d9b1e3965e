use Rattle.std.proofs.Common.{◌<◌, List, Option, ℕ, arith}
use Rattle.std.specs.Prelude.{codes}
use Rattle.plan_tools.specs.Listings.{of_first}
use Rattle.plan_tools.proofs.WritingLemmas.{behind_first, stops}
use Rattle.plan_tools.proofs.tree.write_blanks.Goals as goal

pub returns-in-Err : goal.returns-in-Err
returns-in-Err g c =
    let i = c.loop-level._level in
    let each : ℕ → List ℕ = λ k. codes "  " in
    let lt : i < c.args.levels = omega (arith, c.loop-level-test.true) in
    let left = behind_first each i c.args.levels lt in
    let old : ℕ × Option (List ℕ) = (g.W.Sink.failures c.args.out.now, g.W.Sink.taken c.args.out.now) in
    let mid : ℕ × Option (List ℕ) = (g.W.Sink.failures c.loop-level.out, g.W.Sink.taken c.loop-level.out) in
    let new : ℕ × Option (List ℕ) = (g.W.Sink.failures c.write_all.new.sink, g.W.Sink.taken c.write_all.new.sink) in
    stops c.writes_join.ensures.join c.writes_join.ensures.failed old mid new (of_first each i) (each i) left.0 (of_first each c.args.levels) left.1 c.loop-level.invariant c.in-Err.ensures
