use Rattle.std.proofs.Common.{[], ◌++◌, arith, ◌+◌, List, Option, ℕ, true, false, subst, drop}
use Rattle.std.proofs.lemmas.Result.{err_from_is_err_and}
use Rattle.plan_text.specs.Sinks.{Writes}
use Rattle.plan_image.specs.Listing.{bytes_line, numbered}
use Rattle.plan_image.proofs.ListingLemmas.{one_more}
use Rattle.plan_image.proofs.lister.each.write_texts.Goals as goal

pub returns-in_err-write : goal.returns-in_err-write
returns-in_err-write g c =
    let so_far = c.loop-number.invariant in
    let items = c.args.texts.now in
    let i = c.loop-number.number in
    let lines = bytes_line c.args.word.now in
    let text : List ℕ = lines i c.row.result.now in
    let whole = one_more lines items i [] c.row.result.now so_far.0 c.row.ensures (omega (arith, c.loop-number-test.true, c.len-number-end.ensures)) so_far.1 in
    let old : ℕ × Option (List ℕ) = (g.W.Sink.failures c.args.out.now, g.W.Sink.taken c.args.out.now) in
    let mid : ℕ × Option (List ℕ) = (g.W.Sink.failures c.loop-number.out, g.W.Sink.taken c.loop-number.out) in
    let new : ℕ × Option (List ℕ) = (g.W.Sink.failures c.write.new.out, g.W.Sink.taken c.write.new.out) in
    let front = c.writes_join.ensures.join false old mid new so_far.0 text so_far.2 c.in_err-write.ensures in
    let p = err_from_is_err_and c.from_residual.result c.from_residual.ensures.1 in
    rw p.1 (subst (Writes false old new) whole (c.writes_join.ensures.failed old new (so_far.0 ++ text) (numbered lines (i + 1) (drop (i + 1) items)) front))

pub loop-number-preserved : goal.loop-number-preserved
loop-number-preserved g c =
    let so_far = c.loop-number.invariant in
    let i = c.loop-number.number in
    let lines = bytes_line c.args.word.now in
    let text : List ℕ = lines i c.row.result.now in (
      so_far.0 ++ text,
      one_more lines c.args.texts.now i [] c.row.result.now so_far.0 c.row.ensures (omega (arith, c.loop-number-test.true, c.len-number-end.ensures)) so_far.1,
      c.writes_join.ensures.join true
          (g.W.Sink.failures c.args.out.now, g.W.Sink.taken c.args.out.now)
          (g.W.Sink.failures c.loop-number.out, g.W.Sink.taken c.loop-number.out)
          (g.W.Sink.failures c.write.new.out, g.W.Sink.taken c.write.new.out)
          so_far.0 text so_far.2 c.in_ok-write.ensures,
    )
