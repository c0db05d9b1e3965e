use Rattle.std.proofs.Common.{sym, arith}
use Rattle.plan_compile.proofs.Lengths.{oldest_length}
use Rattle.plan_compile.proofs.command.oldest_len.Goals as goal

pub returns-else-count-eq0-clause-len : goal.returns-else-count-eq0-clause-len
returns-else-count-eq0-clause-len c = sym (oldest_length c.args.outputs.now (omega (arith, c.if-count-eq0.false)))
