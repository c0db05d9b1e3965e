use Rattle.std.proofs.Common.{◌∷◌, ◌++◌, ◌+◌, [], List, Option, ℕ, true, refl, map, drop, arith}
use Rattle.plan_image.specs.Listing.{hex}
use Rattle.plan_trace.specs.Spelling.{behind}
use Rattle.plan_trace.proofs.WritingLemmas.{one_more, stops}
use Rattle.plan_trace.proofs.word_writer.write_paths.Goals as goal

pub returns-in-Err : goal.returns-in-Err
returns-in-Err g c =
    let so_far = c.loop-number.invariant in
    let items = c.args.paths.now in
    let i = c.loop-number.number in
    let item : List ℕ = c.path.result.now in
    let old : ℕ × Option (List ℕ) = (g.W.Sink.failures c.args.out.now, g.W.Sink.taken c.args.out.now) in
    let mid : ℕ × Option (List ℕ) = (g.W.Sink.failures c.loop-number.out, g.W.Sink.taken c.loop-number.out) in
    let new : ℕ × Option (List ℕ) = (g.W.Sink.failures c.write_bytes.new.out, g.W.Sink.taken c.write_bytes.new.out) in
    stops c.writes_join.ensures.join c.writes_join.ensures.failed old mid new so_far.0 (32 ∷ hex item) (behind (map hex (drop (i + 1) items))) (behind (map hex items))
    (one_more (λ (p : List ℕ). 32 ∷ hex p) (λ (ps : List (List ℕ)). behind (map hex ps)) (λ y ys. refl) items i item [] so_far.0 (omega (arith, c.loop-number-test.true, c.len-number-end.ensures)) c.path.ensures so_far.1) so_far.2 c.in-Err.ensures

pub loop-number-preserved : goal.loop-number-preserved
loop-number-preserved g c =
    let so_far = c.loop-number.invariant in
    let items = c.args.paths.now in
    let i = c.loop-number.number in
    let item : List ℕ = c.path.result.now in
    let old : ℕ × Option (List ℕ) = (g.W.Sink.failures c.args.out.now, g.W.Sink.taken c.args.out.now) in
    let mid : ℕ × Option (List ℕ) = (g.W.Sink.failures c.loop-number.out, g.W.Sink.taken c.loop-number.out) in
    let new : ℕ × Option (List ℕ) = (g.W.Sink.failures c.write_bytes.new.out, g.W.Sink.taken c.write_bytes.new.out) in (
      so_far.0 ++ 32 ∷ hex item,
      one_more (λ (p : List ℕ). 32 ∷ hex p) (λ (ps : List (List ℕ)). behind (map hex ps)) (λ y ys. refl) items i item [] so_far.0 (omega (arith, c.loop-number-test.true, c.len-number-end.ensures)) c.path.ensures so_far.1,
      c.writes_join.ensures.join true old mid new so_far.0 (32 ∷ hex item) so_far.2 c.in-Ok.ensures,
    )
