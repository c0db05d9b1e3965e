use Rattle.std.proofs.Common.{ℕ, true, false, length, is_ok, subst}
use Rattle.std.specs.List.{flat_map}
use Rattle.std.proofs.lemmas.Result.{err_from_is_err_and}
use Rattle.plan_image.specs.Printing.{HeldState, Prints}
use Rattle.plan_image.specs.Spelling.{number}
use Rattle.plan_image.proofs.writing.text.TextsSpelled.print.Goals as goal

pub returns-in_err-print : goal.returns-in_err-print
returns-in_err-print g c =
    let rows = c.args.self.now.0.now in
    let old : HeldState = (c.args.held.now.items, (g.W.Sink.failures c.args.out.now, g.W.Sink.taken c.args.out.now)) in
    let new : HeldState = (c.print.new.held.items, (g.W.Sink.failures c.print.new.out, g.W.Sink.taken c.print.new.out)) in
    let front : Prints false old new (number (length rows)) = subst (λ (n : ℕ). Prints false old new (number n)) c.len.ensures c.in_err-print.ensures in
    let p = err_from_is_err_and c.from_residual.result c.from_residual.ensures.1 in
    rw p.1 (c.prints_join.ensures.failed old new (number (length rows)) (flat_map g.S.TextSpeller.spell rows) front)

pub returns : goal.returns
returns g c =
    let rows = c.args.self.now.0.now in
    let old : HeldState = (c.args.held.now.items, (g.W.Sink.failures c.args.out.now, g.W.Sink.taken c.args.out.now)) in
    let mid : HeldState = (c.print.new.held.items, (g.W.Sink.failures c.print.new.out, g.W.Sink.taken c.print.new.out)) in
    let new : HeldState = (c.print_rows.new.held.items, (g.W.Sink.failures c.print_rows.new.out, g.W.Sink.taken c.print_rows.new.out)) in
    let front : Prints true old mid (number (length rows)) = subst (λ (n : ℕ). Prints true old mid (number n)) c.len.ensures c.in_ok-print.ensures in
    c.prints_join.ensures.join (is_ok c.print_rows.result) old mid new (number (length rows)) (flat_map g.S.TextSpeller.spell rows) front c.print_rows.ensures
