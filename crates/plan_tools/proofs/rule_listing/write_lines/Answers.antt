use Rattle.std.proofs.Common.{◌++◌, [], ◌+◌, List, Option, ℕ, true, Bor, refl, get_or, drop, map}
use Rattle.plan_tools.specs.Listings.{line}
use Rattle.plan_tools.specs.RuleTargets.{lines_of}
use Rattle.plan_tools.proofs.WritingLemmas.{bytes_of, one_more, stops}
use Rattle.plan_tools.proofs.rule_listing.write_lines.Goals as goal

pub returns-in-Err : goal.returns-in-Err
returns-in-Err g c =
    let so_far = c.loop-text.invariant in
    let items = c.args.texts.now in
    let i = c.loop-text.text-index in
    let default : Bor (List ℕ) = record { ref_ptr = (0, 0); now = [] } in
    let item : Bor (List ℕ) = get_or c.args.texts.now i default in
    let each : Bor (List ℕ) → List ℕ = λ t. line t.now in
    let text : List (Bor (List ℕ)) → List ℕ = λ ts. lines_of (map bytes_of ts) in
    let old : ℕ × Option (List ℕ) = (g.W.Sink.failures c.args.out.now, g.W.Sink.taken c.args.out.now) in
    let mid : ℕ × Option (List ℕ) = (g.W.Sink.failures c.loop-text.out, g.W.Sink.taken c.loop-text.out) in
    let new : ℕ × Option (List ℕ) = (g.W.Sink.failures c.write_line.new.out, g.W.Sink.taken c.write_line.new.out) in
    stops c.writes_join.ensures.join c.writes_join.ensures.failed old mid new so_far.0 (each item) (text (drop (i + 1) items)) (text items)
    (one_more each text (λ y ys. refl) items i item default so_far.0 c.loop-text-test.true refl so_far.1) so_far.2 c.in-Err.ensures

pub loop-text-preserved : goal.loop-text-preserved
loop-text-preserved g c =
    let so_far = c.loop-text.invariant in
    let items = c.args.texts.now in
    let i = c.loop-text.text-index in
    let default : Bor (List ℕ) = record { ref_ptr = (0, 0); now = [] } in
    let item : Bor (List ℕ) = get_or c.args.texts.now i default in
    let each : Bor (List ℕ) → List ℕ = λ t. line t.now in
    let text : List (Bor (List ℕ)) → List ℕ = λ ts. lines_of (map bytes_of ts) in
    let old : ℕ × Option (List ℕ) = (g.W.Sink.failures c.args.out.now, g.W.Sink.taken c.args.out.now) in
    let mid : ℕ × Option (List ℕ) = (g.W.Sink.failures c.loop-text.out, g.W.Sink.taken c.loop-text.out) in
    let new : ℕ × Option (List ℕ) = (g.W.Sink.failures c.write_line.new.out, g.W.Sink.taken c.write_line.new.out) in (
      so_far.0 ++ each item,
      one_more each text (λ y ys. refl) items i item default so_far.0 c.loop-text-test.true refl so_far.1,
      c.writes_join.ensures.join true old mid new so_far.0 (each item) so_far.2 c.in-Ok.ensures,
    )
