use Rattle.std.proofs.Common.{sym}
use Rattle.plan_depfile.proofs.LimitLemmas.{too_late}
use Rattle.plan_depfile.proofs.state.Lexer.beyond.Goals as goal

pub returns-else-is_lone_before-clause-takes : goal.returns-else-is_lone_before-clause-takes
returns-else-is_lone_before-clause-takes c rest =
    sym (too_late c.args.self.now c.args.b c.requires.fault c.requires.within (c.is_lone_before.ensures.none c.if-is_lone_before.false) rest)
