use Rattle.std.proofs.Common.{◌+◌, ◌++◌, ℕ, List, true, drop}
use Rattle.std.specs.List.{flat_map}
use Rattle.std.proofs.lemmas.Result.{err_from_is_err_and}
use Rattle.plan_image.specs.Columns.{lent_instrs}
use Rattle.plan_image.specs.Spelling.{instr}
use Rattle.plan_image.specs.Printing.{HeldState}
use Rattle.plan_image.proofs.PrintLemmas.{one_on, stops}
use Rattle.plan_image.proofs.writing.edge.print_instrs.Goals as goal

pub returns-in_err-print : goal.returns-in_err-print
returns-in_err-print g c =
    let so_far = c.loop-place.invariant in
    let items = lent_instrs c.args.instrs in
    let i = c.loop-place.place in
    let text : List ℕ = instr c.instr.result in
    let rest = drop (i + 1) items in
    let old : HeldState = (c.args.held.now.items, (g.W.Sink.failures c.args.out.now, g.W.Sink.taken c.args.out.now)) in
    let mid : HeldState = (c.loop-place.held.items, (g.W.Sink.failures c.loop-place.out, g.W.Sink.taken c.loop-place.out)) in
    let new : HeldState = (c.print.new.held.items, (g.W.Sink.failures c.print.new.out, g.W.Sink.taken c.print.new.out)) in
    let whole = one_on instr c.instr.result (drop i items) rest so_far.0 (flat_map instr items) c.instr.ensures.rest so_far.1 in
    let p = err_from_is_err_and c.from_residual.result c.from_residual.ensures.1 in
    rw p.1 (stops c.prints_join.ensures.join c.prints_join.ensures.failed old mid new so_far.0 text (flat_map instr rest) (flat_map instr items) whole so_far.2 c.in_err-print.ensures)

pub loop-place-preserved : goal.loop-place-preserved
loop-place-preserved g c =
    let so_far = c.loop-place.invariant in
    let items = lent_instrs c.args.instrs in
    let i = c.loop-place.place in
    let text : List ℕ = instr c.instr.result in
    let rest = drop (i + 1) items in
    let old : HeldState = (c.args.held.now.items, (g.W.Sink.failures c.args.out.now, g.W.Sink.taken c.args.out.now)) in
    let mid : HeldState = (c.loop-place.held.items, (g.W.Sink.failures c.loop-place.out, g.W.Sink.taken c.loop-place.out)) in
    let new : HeldState = (c.print.new.held.items, (g.W.Sink.failures c.print.new.out, g.W.Sink.taken c.print.new.out)) in
    let whole = one_on instr c.instr.result (drop i items) rest so_far.0 (flat_map instr items) c.instr.ensures.rest so_far.1 in (
      so_far.0 ++ text,
      whole,
      c.prints_join.ensures.join true old mid new so_far.0 text so_far.2 c.in_ok-print.ensures,
    )
