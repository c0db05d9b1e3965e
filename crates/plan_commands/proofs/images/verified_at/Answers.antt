use Rattle.plan_scope.specs.Loading.{IsMissing}
use Rattle.plan_commands.proofs.VerdictsLemmas.{rejected}
use Rattle.plan_commands.proofs.images.verified_at.Goals as goal

pub returns-clause-refused : goal.returns-clause-refused
returns-clause-refused g c =
    let gives = g.S.Source.gives c.args.source.now in
    let missing = IsMissing gives (g.S.Source.fails c.args.source.now) (g.S.Source.failures c.args.source.now) (g.S.Source.failures c.image_at.new.source) in
    rejected gives missing c.args.path.now _ c.in-Err.fault c.printed_verify_fault.result c.in_ok-image.ensures.image c.in-Err.ensures.fault c.printed_verify_fault.ensures
