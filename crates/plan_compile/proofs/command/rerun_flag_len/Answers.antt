use Rattle.std.proofs.Common.{◌+◌, ◌*◌, ◌-◌, Bool, List, length, sym, ap, ◌∙◌, arith}
use Rattle.plan_compile.specs.declared.layout.Output.{Output}
use Rattle.plan_compile.specs.Emit.{rerun_flag_code, oldest_code}
use Rattle.plan_compile.proofs.Lengths.{rerun_flag_looks, any_some}
use Rattle.plan_compile.proofs.command.rerun_flag_len.Goals as goal

pub returns-then-looks-clause-len : goal.returns-then-looks-clause-len
returns-then-looks-clause-len c =
    let w = c.args.layout.now in
    ap (λ n. n + 1 + 2 * c.len.result) (c.oldest_len.ensures.len ∙ ap (λ (os : List Output). length (oldest_code os)) c.as_slice.ensures)
    ∙ ap (λ n. length (oldest_code w.outputs) + 1 + 2 * n) c.len.ensures
    ∙ sym (rerun_flag_looks w.outputs w.flags) ∙ ap (λ (b : Bool). length (rerun_flag_code b w.outputs w.flags)) (sym c.if-looks.true)

pub returns-else-flags-eq0-clause-len : goal.returns-else-flags-eq0-clause-len
returns-else-flags-eq0-clause-len c =
    let w = c.args.layout.now in
    ap (λ n. 2 * n - 1) c.len.ensures
    ∙ sym (any_some w.flags (λ none. omega (arith, none, c.len.ensures, c.if-flags-eq0.false)))
    ∙ ap (λ (b : Bool). length (rerun_flag_code b w.outputs w.flags)) (sym c.if-looks.false)
