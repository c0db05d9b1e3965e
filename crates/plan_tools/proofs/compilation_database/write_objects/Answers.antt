use Rattle.std.proofs.Common.{◌≡◌, ◌<◌, ◌+◌, suc, List, Option, ℕ, true, length, arith, subst}
use Rattle.plan_text.specs.Sinks.{Writes}
use Rattle.plan_tools.specs.Listings.{of_first}
use Rattle.plan_tools.specs.CompilationDatabase.{listed_object}
use Rattle.plan_tools.proofs.WritingLemmas.{behind_first, stops}
use Rattle.plan_tools.proofs.compilation_database.write_objects.Goals as goal

pub returns-in-Err : goal.returns-in-Err
returns-in-Err g c =
    let i = c.loop-number.number in
    let each : ℕ → List ℕ = listed_object c.args.folder.now c.args.manifest.now c.args.graph.now c.args.edges.now in
    let lt : i < length c.args.edges.now = omega (arith, c.loop-number-test.true) in
    let left = behind_first each i (length c.args.edges.now) lt in
    let old : ℕ × Option (List ℕ) = (g.W.Sink.failures c.args.out.now, g.W.Sink.taken c.args.out.now) in
    let mid : ℕ × Option (List ℕ) = (g.W.Sink.failures c.loop-number.out, g.W.Sink.taken c.loop-number.out) in
    let new : ℕ × Option (List ℕ) = (g.W.Sink.failures c.write_listed.new.out, g.W.Sink.taken c.write_listed.new.out) in
    stops c.writes_join.ensures.join c.writes_join.ensures.failed old mid new (of_first each i) (each i) left.0 (of_first each (length c.args.edges.now)) left.1 c.loop-number.invariant c.in-Err.ensures

pub loop-number-preserved : goal.loop-number-preserved
loop-number-preserved g c =
    let i = c.loop-number.number in
    let each : ℕ → List ℕ = listed_object c.args.folder.now c.args.manifest.now c.args.graph.now c.args.edges.now in
    let old : ℕ × Option (List ℕ) = (g.W.Sink.failures c.args.out.now, g.W.Sink.taken c.args.out.now) in
    let mid : ℕ × Option (List ℕ) = (g.W.Sink.failures c.loop-number.out, g.W.Sink.taken c.loop-number.out) in
    let new : ℕ × Option (List ℕ) = (g.W.Sink.failures c.write_listed.new.out, g.W.Sink.taken c.write_listed.new.out) in
    let next : suc i ≡ i + 1 = omega arith in
    subst (λ (n : ℕ). Writes true old new (of_first each n)) next (c.writes_join.ensures.join true old mid new (of_first each i) (each i) c.loop-number.invariant c.in-Ok.ensures)
