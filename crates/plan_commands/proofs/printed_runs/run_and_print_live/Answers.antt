use Rattle.std.proofs.Common.{◌≡◌, ◌∙◌, ℕ, List, Option, IfSome, ap}
use Rattle.std.specs.Result.{result_err}
use Rattle.rtrb.specs.Ring.{received}
use Rattle.plan_machine.specs.declared.event.Mark.{Mark}
use Rattle.plan_status.specs.Formats.{HasPrinted}
use Rattle.plan_lanes.specs.SharedRuns.{Ready}
use Rattle.plan_lanes.specs.declared.board.Report.{Report}
use Rattle.plan_commands.specs.Running.{report_in}
use Rattle.plan_commands.proofs.ShowingLemmas.{at_start, nothing_printed, shown_live}
use Rattle.plan_commands.proofs.printed_runs.run_and_print_live.Goals as goal

pub returns-clause-printed : goal.returns-clause-printed
returns-clause-printed g c = λ kept is.
    let p = c.args.image.now in
    let total = c.total-total.result in
    let tells = g.F.Format.tells in
    let old : ℕ × Option (List ℕ) = (g.O.Sink.failures c.args.printer.out, g.O.Sink.taken c.args.printer.out) in
    let mid : ℕ × Option (List ℕ) = (g.O.Sink.failures c.run_and_print-tap.result.0.1.out, g.O.Sink.taken c.run_and_print-tap.result.0.1.out) in
    let new : ℕ × Option (List ℕ) = (g.O.Sink.failures c.settle-printed.new.printer.out, g.O.Sink.taken c.settle-printed.new.printer.out) in
    let ran = c.run_and_print-tap.result.1.0 in
    let begun = nothing_printed (tells c.begin.new.self p total) (received c.args.ends.1.ring) c.args.ends.1.stop old c.requires.begin.1.received c.requires.begin.1.stop (c.begin.ensures.begins p total) in
    let along = c.run_and_print-tap.ensures.printed old begun in
    let settled : IfSome (report_in ran) (λ r. HasPrinted (tells c.settle-printed.new.printer.format p total) r.marks.items (result_err c.settle-printed.result) old new)
    = at_start (λ (s : ℕ × Option (List ℕ)). HasPrinted (tells c.run_and_print-tap.result.0.1.format p total) (received c.run_and_print-tap.result.0.0.ring) c.run_and_print-tap.result.0.0.stop s mid)
    (λ (r : Report) (s : ℕ × Option (List ℕ)). HasPrinted (tells c.settle-printed.new.printer.format p total) r.marks.items (result_err c.settle-printed.result) s new)
    (report_in ran) old c.settle-printed.ensures.printed along in
    shown_live g.F.Format.kept tells kept c.settle-printed.new.printer.format g.W.World.allows c.in-Ok.run'.opened p total (result_err c.settle-printed.result) old new
    (c.settle-printed.ensures.same ∙ (c.run_and_print-tap.ensures.format ∙ (c.begin.ensures.same ∙ is)))
    (ap (λ (r : Ready). r.opened.parts) c.in-Ok.ensures.opens) c.total-total.ensures ran c.run_and_print-tap.ensures.run c.run_and_print-tap.ensures.fault settled
