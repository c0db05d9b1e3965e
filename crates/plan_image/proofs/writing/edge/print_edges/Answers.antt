use Rattle.std.proofs.Common.{◌+◌, ◌++◌, ℕ, List, true, drop, subst}
use Rattle.std.specs.List.{AllByRecursion, flat_map}
use Rattle.std.proofs.lemmas.Result.{err_from_is_err_and}
use Rattle.plan_image.specs.Columns.{lent}
use Rattle.plan_image.specs.Spelling.{edge, EdgeFits}
use Rattle.plan_image.specs.Printing.{HeldState}
use Rattle.plan_image.proofs.PrintLemmas.{one_on, stops}
use Rattle.plan_image.proofs.writing.edge.print_edges.Goals as goal

pub returns-in_err-print : goal.returns-in_err-print
returns-in_err-print g c =
    let so_far = c.loop-number.invariant in
    let items = c.args.edges.now in
    let i = c.loop-number.number in
    let text : List ℕ = edge (lent c.edge.result) in
    let rest = drop (i + 1) items in
    let old : HeldState = (c.args.held.now.items, (g.W.Sink.failures c.args.out.now, g.W.Sink.taken c.args.out.now)) in
    let mid : HeldState = (c.loop-number.held.items, (g.W.Sink.failures c.loop-number.out, g.W.Sink.taken c.loop-number.out)) in
    let new : HeldState = (c.print.new.held.items, (g.W.Sink.failures c.print.new.out, g.W.Sink.taken c.print.new.out)) in
    let whole = one_on edge (lent c.edge.result) (drop i items) rest so_far.0 (flat_map edge items) c.edge.ensures.rest so_far.1 in
    let p = err_from_is_err_and c.from_residual.result c.from_residual.ensures.1 in
    rw p.1 (stops c.prints_join.ensures.join c.prints_join.ensures.failed old mid new so_far.0 text (flat_map edge rest) (flat_map edge items) whole so_far.3 c.in_err-print.ensures)

pub loop-number-preserved : goal.loop-number-preserved
loop-number-preserved g c =
    let so_far = c.loop-number.invariant in
    let items = c.args.edges.now in
    let i = c.loop-number.number in
    let text : List ℕ = edge (lent c.edge.result) in
    let rest = drop (i + 1) items in
    let old : HeldState = (c.args.held.now.items, (g.W.Sink.failures c.args.out.now, g.W.Sink.taken c.args.out.now)) in
    let mid : HeldState = (c.loop-number.held.items, (g.W.Sink.failures c.loop-number.out, g.W.Sink.taken c.loop-number.out)) in
    let new : HeldState = (c.print.new.held.items, (g.W.Sink.failures c.print.new.out, g.W.Sink.taken c.print.new.out)) in
    let whole = one_on edge (lent c.edge.result) (drop i items) rest so_far.0 (flat_map edge items) c.edge.ensures.rest so_far.1 in (
      so_far.0 ++ text,
      whole,
      (subst (λ xs. AllByRecursion EdgeFits xs) c.edge.ensures.rest so_far.2).1,
      c.prints_join.ensures.join true old mid new so_far.0 text so_far.3 c.in_ok-print.ensures,
    )
