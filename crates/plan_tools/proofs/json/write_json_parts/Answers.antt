use Rattle.std.proofs.Common.{◌<◌, ◌++◌, ◌+◌, [], List, Option, ℕ, true, arith, length, drop}
use Rattle.plan_scope.specs.Scopes.{Text}
use Rattle.plan_scope.specs.TextLists.{whole}
use Rattle.plan_tools.specs.Json.{json_text}
use Rattle.plan_tools.proofs.WritingLemmas.{json_joined, one_more, stops}
use Rattle.plan_tools.proofs.json.write_json_parts.Goals as goal

pub returns-in-Err : goal.returns-in-Err
returns-in-Err g c =
    let so_far = c.loop-number.invariant in
    let parts : List Text = c.args.text.now in
    let i = c.loop-number.number in
    let part : Text = c.part.result.now in
    let lt : i < length parts = omega (arith, c.loop-number-test.true, c.len-number-end.ensures) in
    let old : ℕ × Option (List ℕ) = (g.W.Sink.failures c.args.out.now, g.W.Sink.taken c.args.out.now) in
    let mid : ℕ × Option (List ℕ) = (g.W.Sink.failures c.loop-number.out, g.W.Sink.taken c.loop-number.out) in
    let new : ℕ × Option (List ℕ) = (g.W.Sink.failures c.write_json_text.new.out, g.W.Sink.taken c.write_json_text.new.out) in
    stops c.writes_join.ensures.join c.writes_join.ensures.failed old mid new so_far.0 (json_text part) (json_text (whole (drop (i + 1) parts))) (json_text (whole parts))
    (one_more json_text (λ ps. json_text (whole ps)) json_joined parts i part [] so_far.0 lt c.part.ensures so_far.1) so_far.2 c.in-Err.ensures

pub loop-number-preserved : goal.loop-number-preserved
loop-number-preserved g c =
    let so_far = c.loop-number.invariant in
    let parts : List Text = c.args.text.now in
    let i = c.loop-number.number in
    let part : Text = c.part.result.now in
    let lt : i < length parts = omega (arith, c.loop-number-test.true, c.len-number-end.ensures) in
    let old : ℕ × Option (List ℕ) = (g.W.Sink.failures c.args.out.now, g.W.Sink.taken c.args.out.now) in
    let mid : ℕ × Option (List ℕ) = (g.W.Sink.failures c.loop-number.out, g.W.Sink.taken c.loop-number.out) in
    let new : ℕ × Option (List ℕ) = (g.W.Sink.failures c.write_json_text.new.out, g.W.Sink.taken c.write_json_text.new.out) in (
      so_far.0 ++ json_text part,
      one_more json_text (λ ps. json_text (whole ps)) json_joined parts i part [] so_far.0 lt c.part.ensures so_far.1,
      c.writes_join.ensures.join true old mid new so_far.0 (json_text part) so_far.2 c.in-Ok.ensures,
    )
