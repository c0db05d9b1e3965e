use Rattle.std.proofs.Common.{◌*◌, sym, ap, ◌∙◌}
use Rattle.plan_compile.proofs.Lengths.{clean_restat}
use Rattle.plan_compile.proofs.command.clean_len.Goals as goal

pub returns-then-layout-clause-len : goal.returns-then-layout-clause-len
returns-then-layout-clause-len c = ap (λ n. 2 * n) c.len-count.ensures ∙ sym (clean_restat c.args.layout.now c.if-layout.true)
