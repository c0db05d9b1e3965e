use Rattle.std.proofs.Common.{sym, ◌∙◌}
use Rattle.plan_trace.proofs.ReadingLemmas.{behind_target, next_target}
use Rattle.plan_trace.proofs.reading.first_target.Goals as goal

pub returns-in-Some-2-clause-some : goal.returns-in-Some-2-clause-some
returns-in-Some-2-clause-some c =
    let text = c.args.text.now in
    let line = c.in-Some.line.now in
    let behind = c.in-Some.behind.now in
    let target = c.in-Some-2.target in
    let cut = c.in-Some.ensures.cut in
    let tells = sym c.in-Some-2.is ∙ c.in_ok-target.ensures in
    (next_target text line behind target cut tells, behind_target text line behind target cut tells, c.in-Some.ensures.shorter)
