use Rattle.plan_build.proofs.StatusesLemmas.{targets_done}
use Rattle.plan_build.proofs.execute_build.Goals as goal

pub returns-then-not-is_long : goal.returns-then-not-is_long
returns-then-not-is_long g c =
    targets_done g.S.Source.gives g.S.Source.fails c.args.source.now _ _ c.args.line.now c.args.jobs c.build_line.result c.args.build c.in-Targets-default-Hidden.mode _ c.in-Targets-default-Hidden.is c.build_line.ensures

pub returns-in-Targets-default-Shown : goal.returns-in-Targets-default-Shown
returns-in-Targets-default-Shown g c =
    targets_done g.S.Source.gives g.S.Source.fails c.args.source.now _ _ c.args.line.now c.args.jobs c.build_explained.result c.args.build c.in-Targets-default-Shown.mode _ c.in-Targets-default-Shown.is c.build_explained.ensures

pub returns-else-not-is_long : goal.returns-else-not-is_long
returns-else-not-is_long g c =
    targets_done g.S.Source.gives g.S.Source.fails c.args.source.now _ _ c.args.line.now c.args.jobs c.build_looking_ahead.result c.args.build c.in-Targets-default-Hidden.mode _ c.in-Targets-default-Hidden.is c.build_looking_ahead.ensures
