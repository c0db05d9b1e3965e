use Rattle.std.proofs.Common.{◌++◌, ◌+◌, List, Option, ℕ, true, false, subst, drop}
use Rattle.std.proofs.lemmas.Result.{err_from_is_err_and}
use Rattle.plan_text.specs.Sinks.{Writes}
use Rattle.plan_image.specs.Columns.{lent_instrs}
use Rattle.plan_image.specs.Listing.{instr_line, numbered}
use Rattle.plan_image.proofs.ListingLemmas.{one_on}
use Rattle.plan_image.proofs.lister.line.write_instrs.Goals as goal

pub returns-in_err-write_instr : goal.returns-in_err-write_instr
returns-in_err-write_instr g c =
    let so_far = c.loop-place.invariant in
    let items = lent_instrs c.args.instrs in
    let i = c.loop-place.place in
    let text : List ℕ = instr_line i c.instr.result in
    let rest = drop (i + 1) items in
    let whole = one_on instr_line i c.instr.result (drop i items) rest so_far.0 (numbered instr_line 0 items) c.instr.ensures.rest so_far.1 in
    let old : ℕ × Option (List ℕ) = (g.W.Sink.failures c.args.out.now, g.W.Sink.taken c.args.out.now) in
    let mid : ℕ × Option (List ℕ) = (g.W.Sink.failures c.loop-place.out, g.W.Sink.taken c.loop-place.out) in
    let new : ℕ × Option (List ℕ) = (g.W.Sink.failures c.write_instr.new.out, g.W.Sink.taken c.write_instr.new.out) in
    let front = c.writes_join.ensures.join false old mid new so_far.0 text so_far.2 c.in_err-write_instr.ensures in
    let p = err_from_is_err_and c.from_residual.result c.from_residual.ensures.1 in
    rw p.1 (subst (Writes false old new) whole (c.writes_join.ensures.failed old new (so_far.0 ++ text) (numbered instr_line (i + 1) rest) front))

pub loop-place-preserved : goal.loop-place-preserved
loop-place-preserved g c =
    let so_far = c.loop-place.invariant in
    let items = lent_instrs c.args.instrs in
    let i = c.loop-place.place in
    let text : List ℕ = instr_line i c.instr.result in (
      so_far.0 ++ text,
      one_on instr_line i c.instr.result (drop i items) (drop (i + 1) items) so_far.0 (numbered instr_line 0 items) c.instr.ensures.rest so_far.1,
      c.writes_join.ensures.join true
          (g.W.Sink.failures c.args.out.now, g.W.Sink.taken c.args.out.now)
          (g.W.Sink.failures c.loop-place.out, g.W.Sink.taken c.loop-place.out)
          (g.W.Sink.failures c.write_instr.new.out, g.W.Sink.taken c.write_instr.new.out)
          so_far.0 text so_far.2 c.in_ok-write_instr.ensures,
    )
