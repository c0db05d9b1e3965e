use Rattle.std.proofs.Common.{◌++◌, ◌+◌, List, Option, ℕ, true, refl, get_or, drop}
use Rattle.std.specs.List.{flat_map}
use Rattle.plan_trace.specs.Spelling.{target_line}
use Rattle.plan_trace.proofs.WritingLemmas.{one_more, stops}
use Rattle.plan_trace.proofs.writing.write_targets.Goals as goal

pub returns-in-Err : goal.returns-in-Err
returns-in-Err g c =
    let so_far = c.loop-target.invariant in
    let items = c.args.targets.now in
    let i = c.loop-target.target-index in
    let item : ℕ = get_or c.args.targets.now i 0 in
    let old : ℕ × Option (List ℕ) = (g.W.Sink.failures c.args.out.now, g.W.Sink.taken c.args.out.now) in
    let mid : ℕ × Option (List ℕ) = (g.W.Sink.failures c.loop-target.out, g.W.Sink.taken c.loop-target.out) in
    let new : ℕ × Option (List ℕ) = (g.W.Sink.failures c.write_target.new.out, g.W.Sink.taken c.write_target.new.out) in
    stops c.writes_join.ensures.join c.writes_join.ensures.failed old mid new so_far.0 (target_line item) (flat_map target_line (drop (i + 1) items)) (flat_map target_line items)
    (one_more target_line (flat_map target_line) (λ y ys. refl) items i item 0 so_far.0 c.loop-target-test.true refl so_far.1) so_far.2 c.in-Err.ensures

pub loop-target-preserved : goal.loop-target-preserved
loop-target-preserved g c =
    let so_far = c.loop-target.invariant in
    let items = c.args.targets.now in
    let i = c.loop-target.target-index in
    let item : ℕ = get_or c.args.targets.now i 0 in
    let old : ℕ × Option (List ℕ) = (g.W.Sink.failures c.args.out.now, g.W.Sink.taken c.args.out.now) in
    let mid : ℕ × Option (List ℕ) = (g.W.Sink.failures c.loop-target.out, g.W.Sink.taken c.loop-target.out) in
    let new : ℕ × Option (List ℕ) = (g.W.Sink.failures c.write_target.new.out, g.W.Sink.taken c.write_target.new.out) in (
      so_far.0 ++ target_line item,
      one_more target_line (flat_map target_line) (λ y ys. refl) items i item 0 so_far.0 c.loop-target-test.true refl so_far.1,
      c.writes_join.ensures.join true old mid new so_far.0 (target_line item) so_far.2 c.in-Ok.ensures,
    )
