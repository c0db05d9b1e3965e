use Rattle.std.proofs.Common.{◌<◌, ◌++◌, ◌+◌, List, Option, ℕ, true, false, arith, length, subst, drop}
use Rattle.plan_text.specs.Sinks.{Writes}
use Rattle.plan_scope.specs.Scopes.{Text}
use Rattle.plan_scope.specs.TextLists.{whole}
use Rattle.plan_scope.proofs.TextListLemmas.{part_put}
use Rattle.plan_scope.proofs.edge.text_list.write_text.Goals as goal

pub returns-in-Err : goal.returns-in-Err
returns-in-Err g c =
    let so_far = c.loop-number.invariant in
    let parts : List Text = c.args.text.now in
    let i = c.loop-number.number in
    let part : Text = c.part.result.now in
    let lt : i < length parts = omega (arith, c.loop-number-test.true, c.len-number-end.ensures) in
    let old : ℕ × Option (List ℕ) = (g.W.Sink.failures c.args.out.now, g.W.Sink.taken c.args.out.now) in
    let mid : ℕ × Option (List ℕ) = (g.W.Sink.failures c.loop-number.out, g.W.Sink.taken c.loop-number.out) in
    let new : ℕ × Option (List ℕ) = (g.W.Sink.failures c.write_all.new.sink, g.W.Sink.taken c.write_all.new.sink) in
    let front = c.writes_join.ensures.join false old mid new so_far.0 part so_far.2 c.in-Err.ensures in
    subst (Writes false old new) (part_put parts i part so_far.0 lt c.part.ensures so_far.1) (c.writes_join.ensures.failed old new (so_far.0 ++ part) (whole (drop (i + 1) parts)) front)

pub loop-number-preserved : goal.loop-number-preserved
loop-number-preserved g c =
    let so_far = c.loop-number.invariant in
    let parts : List Text = c.args.text.now in
    let i = c.loop-number.number in
    let part : Text = c.part.result.now in
    let lt : i < length parts = omega (arith, c.loop-number-test.true, c.len-number-end.ensures) in
    let old : ℕ × Option (List ℕ) = (g.W.Sink.failures c.args.out.now, g.W.Sink.taken c.args.out.now) in
    let mid : ℕ × Option (List ℕ) = (g.W.Sink.failures c.loop-number.out, g.W.Sink.taken c.loop-number.out) in
    let new : ℕ × Option (List ℕ) = (g.W.Sink.failures c.write_all.new.sink, g.W.Sink.taken c.write_all.new.sink) in (
      so_far.0 ++ part,
      part_put parts i part so_far.0 lt c.part.ensures so_far.1,
      c.writes_join.ensures.join true old mid new so_far.0 part so_far.2 c.in-Ok.ensures,
    )
