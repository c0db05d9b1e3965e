use Rattle.std.proofs.Common.{inl, inr}
use Rattle.plan_scope.specs.Loading.{IsMissing}
use Rattle.plan_commands.proofs.ComparingLemmas.{not_compared}
use Rattle.plan_commands.proofs.comparing.answer_of.Goals as goal

pub returns-in-Err-trace_at-clause-refused : goal.returns-in-Err-trace_at-clause-refused
returns-in-Err-trace_at-clause-refused g c = inr (c.in-Ok.trace, c.in-Ok.ensures.trace, inl c.in-Err-trace_at.ensures.refused)

pub returns-clause-refused : goal.returns-clause-refused
returns-clause-refused g c =
    let firsts = g.S.Source.gives c.args.firsts.now in
    let seconds = g.S.Source.gives c.args.seconds.now in
    not_compared c.args.image.now firsts
    (IsMissing firsts (g.S.Source.fails c.args.firsts.now) (g.S.Source.failures c.args.firsts.now) (g.S.Source.failures c.trace_at.new.source)) c.args.paths.now.first.now
    seconds (IsMissing seconds (g.S.Source.fails c.args.seconds.now) (g.S.Source.failures c.args.seconds.now) (g.S.Source.failures c.trace_at-2.new.source)) c.args.paths.now.second.now
    c.in-Ok.trace c.in-Ok-trace_at.trace c.compare_runs-same.result c.in-Ok.ensures.trace c.in-Ok-trace_at.ensures.trace c.compare_runs-same.ensures.refused
