use Rattle.std.proofs.Common.{ap, ◌∙◌}
use Rattle.plan_depfile.specs.Depfile.{with_paths}
use Rattle.plan_depfile.proofs.PathSetLemmas.{added_last}
use Rattle.plan_depfile.proofs.path_set.put_off.Goals as goal

pub returns-then-len-lt-AHEAD-clause-added : goal.returns-then-len-lt-AHEAD-clause-added
returns-then-len-lt-AHEAD-clause-added c =
    ap (with_paths c.args.paths.now) c.in_ok-push.ensures.more ∙ added_last c.args.paths.now c.args.waiting.now c.args.path.now
