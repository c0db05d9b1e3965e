use Rattle.std.proofs.Common.{◌++◌, ◌+◌, List, Option, ℕ, true, refl, get_or, drop}
use Rattle.std.specs.List.{flat_map}
use Rattle.plan_tools.specs.Json.{json_byte}
use Rattle.plan_tools.proofs.WritingLemmas.{one_more, stops}
use Rattle.plan_tools.proofs.json.write_json_text.Goals as goal

pub returns-in-Err : goal.returns-in-Err
returns-in-Err g c =
    let so_far = c.loop-byte.invariant in
    let items = c.args.text.now in
    let i = c.loop-byte.byte-index in
    let default : ℕ = 0 in
    let item : ℕ = get_or c.args.text.now i default in
    let old : ℕ × Option (List ℕ) = (g.W.Sink.failures c.args.out.now, g.W.Sink.taken c.args.out.now) in
    let mid : ℕ × Option (List ℕ) = (g.W.Sink.failures c.loop-byte.out, g.W.Sink.taken c.loop-byte.out) in
    let new : ℕ × Option (List ℕ) = (g.W.Sink.failures c.write_byte.new.out, g.W.Sink.taken c.write_byte.new.out) in
    stops c.writes_join.ensures.join c.writes_join.ensures.failed old mid new so_far.0 (json_byte item) (flat_map (json_byte) (drop (i + 1) items)) (flat_map (json_byte) items)
    (one_more (json_byte) (flat_map (json_byte)) (λ y ys. refl) items i item default so_far.0 c.loop-byte-test.true refl so_far.1) so_far.2 c.in-Err.ensures

pub loop-byte-preserved : goal.loop-byte-preserved
loop-byte-preserved g c =
    let so_far = c.loop-byte.invariant in
    let items = c.args.text.now in
    let i = c.loop-byte.byte-index in
    let default : ℕ = 0 in
    let item : ℕ = get_or c.args.text.now i default in
    let old : ℕ × Option (List ℕ) = (g.W.Sink.failures c.args.out.now, g.W.Sink.taken c.args.out.now) in
    let mid : ℕ × Option (List ℕ) = (g.W.Sink.failures c.loop-byte.out, g.W.Sink.taken c.loop-byte.out) in
    let new : ℕ × Option (List ℕ) = (g.W.Sink.failures c.write_byte.new.out, g.W.Sink.taken c.write_byte.new.out) in (
      so_far.0 ++ json_byte item,
      one_more (json_byte) (flat_map (json_byte)) (λ y ys. refl) items i item default so_far.0 c.loop-byte-test.true refl so_far.1,
      c.writes_join.ensures.join true old mid new so_far.0 (json_byte item) so_far.2 c.in-Ok.ensures,
    )
