use Rattle.std.proofs.Common.{length, arith}
use Rattle.plan_compile.specs.Emit.{command_code}
use Rattle.plan_compile.proofs.Lengths.{emitted_over, flags_within, outputs_within}
use Rattle.plan_compile.proofs.emitting.put_command.Goals as goal

pub returns-then-len-gt-MAX_BODY-2 : goal.returns-then-len-gt-MAX_BODY-2
returns-then-len-gt-MAX_BODY-2 c = λ limit.
    let w = c.args.layout.now in
    emitted_over (command_code w) (length w.outputs) (omega (arith, c.if-len-gt-MAX_BODY-2.true, c.len-2.ensures)) (outputs_within w)

pub returns-then-len-gt-MAX_BODY-3 : goal.returns-then-len-gt-MAX_BODY-3
returns-then-len-gt-MAX_BODY-3 c = λ limit.
    let w = c.args.layout.now in
    emitted_over (command_code w) (length w.flags) (omega (arith, c.if-len-gt-MAX_BODY-3.true, c.len-3.ensures)) (flags_within w)
