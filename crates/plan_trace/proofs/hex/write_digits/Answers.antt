use Rattle.std.proofs.Common.{◌++◌, ◌+◌, List, Option, ℕ, true, refl, map, get_or, drop}
use Rattle.std.specs.List.{concat}
use Rattle.plan_image.specs.Listing.{hex_byte}
use Rattle.plan_trace.proofs.WritingLemmas.{one_more, stops}
use Rattle.plan_trace.proofs.hex.write_digits.Goals as goal

pub returns-in-Err : goal.returns-in-Err
returns-in-Err g c =
    let so_far = c.loop-byte.invariant in
    let items = c.args.bytes.now in
    let i = c.loop-byte.byte-index in
    let item : ℕ = get_or c.args.bytes.now i 0 in
    let old : ℕ × Option (List ℕ) = (g.W.Sink.failures c.args.out.now, g.W.Sink.taken c.args.out.now) in
    let mid : ℕ × Option (List ℕ) = (g.W.Sink.failures c.loop-byte.out, g.W.Sink.taken c.loop-byte.out) in
    let new : ℕ × Option (List ℕ) = (g.W.Sink.failures c.write_byte.new.out, g.W.Sink.taken c.write_byte.new.out) in
    stops c.writes_join.ensures.join c.writes_join.ensures.failed old mid new so_far.0 (hex_byte item) (concat (map hex_byte (drop (i + 1) items))) (concat (map hex_byte items))
    (one_more hex_byte (λ (bs : List ℕ). concat (map hex_byte bs)) (λ y ys. refl) items i item 0 so_far.0 c.loop-byte-test.true refl so_far.1) so_far.2 c.in-Err.ensures

pub loop-byte-preserved : goal.loop-byte-preserved
loop-byte-preserved g c =
    let so_far = c.loop-byte.invariant in
    let items = c.args.bytes.now in
    let i = c.loop-byte.byte-index in
    let item : ℕ = get_or c.args.bytes.now i 0 in
    let old : ℕ × Option (List ℕ) = (g.W.Sink.failures c.args.out.now, g.W.Sink.taken c.args.out.now) in
    let mid : ℕ × Option (List ℕ) = (g.W.Sink.failures c.loop-byte.out, g.W.Sink.taken c.loop-byte.out) in
    let new : ℕ × Option (List ℕ) = (g.W.Sink.failures c.write_byte.new.out, g.W.Sink.taken c.write_byte.new.out) in (
      so_far.0 ++ hex_byte item,
      one_more hex_byte (λ (bs : List ℕ). concat (map hex_byte bs)) (λ y ys. refl) items i item 0 so_far.0 c.loop-byte-test.true refl so_far.1,
      c.writes_join.ensures.join true old mid new so_far.0 (hex_byte item) so_far.2 c.in-Ok.ensures,
    )
