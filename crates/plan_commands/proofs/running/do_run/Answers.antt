use Rattle.std.proofs.Common.{inl, refl}
use Rattle.plan_scope.specs.Loading.{IsMissing}
use Rattle.plan_commands.proofs.RunningLemmas.{run_done, run_refused, told_all, told_none, told_some, with_targets}
use Rattle.plan_commands.proofs.running.do_run.Goals as goal

pub returns-in-Err-clause-refused : goal.returns-in-Err-clause-refused
returns-in-Err-clause-refused g c = inl ((refl, refl), c.in-Err.ensures.refused)

pub returns-clause-done : goal.returns-clause-done
returns-clause-done g c =
    run_done (g.S.Source.gives c.args.source.now) g.W.World.allows _ _ _ _ _ _
    (with_targets (g.S.Source.gives c.args.source.now) _ _ _ _ _ c.as_slice-edges.ensures.value c.in-Ok.ensures.opened)
    c.run_for_build-run_result.ensures.run c.run_for_build-run_result.ensures.ended
    (told_all _ c.in-Ok.opened.0 _ _ _ _ _ _ _ c.run_for_build-run_result.ensures.printed c.finish_run-status.ensures.ended) c.finish_run-status.ensures.err

pub returns-clause-refused : goal.returns-clause-refused
returns-clause-refused g c =
    run_refused _ (g.S.Source.gives c.args.source.now)
    (IsMissing (g.S.Source.gives c.args.source.now) (g.S.Source.fails c.args.source.now) (g.S.Source.failures c.args.source.now) (g.S.Source.failures c.opened_at.new.source))
    g.W.World.allows _ _ _ _ _ _
    (with_targets (g.S.Source.gives c.args.source.now) _ _ _ _ _ c.as_slice-edges.ensures.value c.in-Ok.ensures.opened)
    c.run_for_build-run_result.ensures.run c.run_for_build-run_result.ensures.ended c.run_for_build-run_result.ensures.fault
    (told_all _ c.in-Ok.opened.0 _ _ _ _ _ _ _ c.run_for_build-run_result.ensures.printed c.finish_run-status.ensures.ended) c.finish_run-status.ensures.err
    (told_some _ c.in-Ok.opened.0 _ _ _ _ _ _ c.run_for_build-run_result.ensures.printed c.finish_run-status.ensures.some) (told_none _ _ _ c.run_for_build-run_result.ensures.silent c.finish_run-status.ensures.none)
