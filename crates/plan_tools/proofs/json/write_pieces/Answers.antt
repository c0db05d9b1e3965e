use Rattle.std.proofs.Common.{◌++◌, [], ◌+◌, List, Option, ℕ, true, refl, get_or, drop}
use Rattle.std.specs.List.{flat_map}
use Rattle.plan_tools.specs.Pieces.{text_of}
use Rattle.plan_tools.specs.declared.json.Piece.{Piece}
use Rattle.plan_tools.proofs.WritingLemmas.{one_more, stops}
use Rattle.plan_tools.proofs.json.write_pieces.Goals as goal

pub returns-in-Err : goal.returns-in-Err
returns-in-Err g c =
    let so_far = c.loop-part.invariant in
    let items = c.args.parts.now in
    let i = c.loop-part.part-index in
    let item : Piece = c.part-item.result in
    let old : ℕ × Option (List ℕ) = (g.W.Sink.failures c.args.out.now, g.W.Sink.taken c.args.out.now) in
    let mid : ℕ × Option (List ℕ) = (g.W.Sink.failures c.loop-part.out, g.W.Sink.taken c.loop-part.out) in
    let new : ℕ × Option (List ℕ) = (g.W.Sink.failures c.write_piece.new.out, g.W.Sink.taken c.write_piece.new.out) in
    stops c.writes_join.ensures.join c.writes_join.ensures.failed old mid new so_far.0 (text_of item) (flat_map (text_of) (drop (i + 1) items)) (flat_map (text_of) items)
    (one_more (text_of) (flat_map (text_of)) (λ y ys. refl) items i item item so_far.0 c.loop-part-test.true c.part-item.is so_far.1) so_far.2 c.in-Err.ensures

pub loop-part-preserved : goal.loop-part-preserved
loop-part-preserved g c =
    let so_far = c.loop-part.invariant in
    let items = c.args.parts.now in
    let i = c.loop-part.part-index in
    let item : Piece = c.part-item.result in
    let old : ℕ × Option (List ℕ) = (g.W.Sink.failures c.args.out.now, g.W.Sink.taken c.args.out.now) in
    let mid : ℕ × Option (List ℕ) = (g.W.Sink.failures c.loop-part.out, g.W.Sink.taken c.loop-part.out) in
    let new : ℕ × Option (List ℕ) = (g.W.Sink.failures c.write_piece.new.out, g.W.Sink.taken c.write_piece.new.out) in (
      so_far.0 ++ text_of item,
      one_more (text_of) (flat_map (text_of)) (λ y ys. refl) items i item item so_far.0 c.loop-part-test.true c.part-item.is so_far.1,
      c.writes_join.ensures.join true old mid new so_far.0 (text_of item) so_far.2 c.in-Ok.ensures,
    )
