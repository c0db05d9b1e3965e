use Rattle.std.proofs.Common.{◌+◌, ◌++◌, ℕ, List, true, drop}
use Rattle.std.specs.List.{flat_map}
use Rattle.std.proofs.lemmas.Result.{err_from_is_err_and}
use Rattle.plan_image.specs.Printing.{HeldState}
use Rattle.plan_image.proofs.PrintLemmas.{one_more, stops}
use Rattle.plan_image.proofs.writing.part.print_items.Goals as goal

pub returns-in_err-print : goal.returns-in_err-print
returns-in_err-print g c =
    let so_far = c.loop-number.invariant in
    let items = c.args.items.now in
    let i = c.loop-number.number in
    let text : List ℕ = g.T.Spelled.spell c.index-items-number.result in
    let rest = drop (i + 1) items in
    let old : HeldState = (c.args.held.now.items, (g.W.Sink.failures c.args.out.now, g.W.Sink.taken c.args.out.now)) in
    let mid : HeldState = (c.loop-number.held.items, (g.W.Sink.failures c.loop-number.out, g.W.Sink.taken c.loop-number.out)) in
    let new : HeldState = (c.print.new.held.items, (g.W.Sink.failures c.print.new.out, g.W.Sink.taken c.print.new.out)) in
    let whole = one_more g.T.Spelled.spell items i c.index-items-number.result c.index-items-number.result so_far.0 (flat_map g.T.Spelled.spell items) c.index-items-number.is c.loop-number-test.true so_far.1 in
    let p = err_from_is_err_and c.from_residual.result c.from_residual.ensures.1 in
    rw p.1 (stops c.prints_join.ensures.join c.prints_join.ensures.failed old mid new so_far.0 text (flat_map g.T.Spelled.spell rest) (flat_map g.T.Spelled.spell items) whole so_far.2 c.in_err-print.ensures)

pub loop-number-preserved : goal.loop-number-preserved
loop-number-preserved g c =
    let so_far = c.loop-number.invariant in
    let items = c.args.items.now in
    let i = c.loop-number.number in
    let text : List ℕ = g.T.Spelled.spell c.index-items-number.result in
    let rest = drop (i + 1) items in
    let old : HeldState = (c.args.held.now.items, (g.W.Sink.failures c.args.out.now, g.W.Sink.taken c.args.out.now)) in
    let mid : HeldState = (c.loop-number.held.items, (g.W.Sink.failures c.loop-number.out, g.W.Sink.taken c.loop-number.out)) in
    let new : HeldState = (c.print.new.held.items, (g.W.Sink.failures c.print.new.out, g.W.Sink.taken c.print.new.out)) in
    let whole = one_more g.T.Spelled.spell items i c.index-items-number.result c.index-items-number.result so_far.0 (flat_map g.T.Spelled.spell items) c.index-items-number.is c.loop-number-test.true so_far.1 in (
      so_far.0 ++ text,
      whole,
      c.prints_join.ensures.join true old mid new so_far.0 text so_far.2 c.in_ok-print.ensures,
    )
