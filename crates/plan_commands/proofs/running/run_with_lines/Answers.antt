use Rattle.std.proofs.Common.{refl}
use Rattle.std.specs.Result.{result_err}
use Rattle.plan_status.specs.declared.format.StatusLines.{StatusLines}
use Rattle.plan_commands.specs.Running.{report_in}
use Rattle.plan_commands.proofs.ShowingLemmas.{lines_shown}
use Rattle.plan_commands.proofs.running.run_with_lines.Goals as goal

pub returns-clause-printed : goal.returns-clause-printed
returns-clause-printed g c =
    lines_shown c.lines_are_printed.ensures (λ (f : StatusLines). f.ended) (λ (f : StatusLines). tt) tt c.args.image.now (report_in c.run_and_show-run_result.result.0.ran) (result_err c.run_and_show-run_result.result.0.printed) _ _
    (c.run_and_show-run_result.ensures.printed tt refl)
