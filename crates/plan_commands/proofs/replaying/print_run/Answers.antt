use Rattle.std.proofs.Common.{◌≡◌, List, Option, ℕ, None, subst}
use Rattle.std.specs.Result.{result_err}
use Rattle.plan_machine.specs.Total.{total_of}
use Rattle.plan_status.specs.Lines.{lines_of}
use Rattle.plan_status.specs.Outcomes.{outcomes_of}
use Rattle.plan_status.specs.Printing.{Prints}
use Rattle.plan_commands.proofs.replaying.print_run.Goals as goal

pub returns-in-Ok : goal.returns-in-Ok
returns-in-Ok g c =
    let p = c.args.image.now in
    let end = c.args.state.now.run_state.now in
    let marks = c.args.marks.now in
    let old : ℕ × Option (List ℕ) = (g.W.Sink.failures c.args.out.now, g.W.Sink.taken c.args.out.now) in
    let mid : ℕ × Option (List ℕ) = (g.W.Sink.failures c.print.new.out, g.W.Sink.taken c.print.new.out) in
    let new : ℕ × Option (List ℕ) = (g.W.Sink.failures c.print_outcomes.new.out, g.W.Sink.taken c.print_outcomes.new.out) in
    let total : c.total.result ≡ total_of p end = c.total.ensures p c.requires in
    let printed : Prints (lines_of p (total_of p end) marks) None old mid = subst (λ (n : ℕ). Prints (lines_of p n marks) None old mid) total c.in-Ok.ensures in
    c.prints_join.ensures.join old mid new (lines_of p (total_of p end) marks) (outcomes_of p end) (result_err c.print_outcomes.result) printed c.print_outcomes.ensures
