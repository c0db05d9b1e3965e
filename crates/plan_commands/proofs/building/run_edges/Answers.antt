use Rattle.std.proofs.Common.{ap}
use Rattle.plan_commands.specs.Showing.{by_format}
use Rattle.plan_commands.specs.Running.{report_in}
use Rattle.plan_commands.proofs.BuildingLemmas.{not_run, same_if_none}
use Rattle.plan_commands.proofs.ShowingLemmas.{run_ends, run_has_state}
use Rattle.plan_commands.proofs.building.run_edges.Goals as goal

pub returns-clause-refused : goal.returns-clause-refused
returns-clause-refused g c = λ kept is.
    not_run (by_format g.F.Format.kept g.F.Format.tells kept) g.W.World.allows _ c.run_explained-run_result.result.0.ran _ _ _ _ c.requires c.run_explained-run_result.ensures.run c.run_explained-run_result.ensures.ended c.run_explained-run_result.ensures.fault (c.run_explained-run_result.ensures.printed kept is)
    (same_if_none _ _ (report_in c.run_explained-run_result.result.0.ran) (λ e. ap (λ o. (g.O.Sink.failures o, g.O.Sink.taken o)) e) c.run_explained-run_result.ensures.silent)
    c.printed_run.ensures.fault

pub returns-clause-ran : goal.returns-clause-ran
returns-clause-ran g c = λ kept is.
    run_ends (by_format g.F.Format.kept g.F.Format.tells kept) g.W.World.allows _ c.run_explained-run_result.result.0.ran _ _ _ c.printed_run.result
    c.run_explained-run_result.ensures.run c.run_explained-run_result.ensures.ended (c.run_explained-run_result.ensures.printed kept is) c.printed_run.ensures.done

pub returns-clause-state : goal.returns-clause-state
returns-clause-state g c =
    run_has_state g.W.World.allows _ c.run_explained-run_result.result.0.ran _ c.printed_run.result c.run_explained-run_result.ensures.run c.printed_run.ensures.done
