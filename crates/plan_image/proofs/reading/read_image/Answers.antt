use Rattle.std.proofs.Common.{arith}
use Rattle.std.proofs.lemmas.Result.{err_from_is_err_and}
use Rattle.plan_image.proofs.TableLemmas.{read_takes, refuses}
use Rattle.plan_image.proofs.reading.read_image.Goals as goal

pub returns-in_err-parts-clause-refused : goal.returns-in_err-parts-clause-refused
returns-in_err-parts-clause-refused c =
    let p = err_from_is_err_and c.from_residual.result c.from_residual.ensures.1 in
    rw (p.1, p.2) (refuses c.args.bytes.now c.in_err-parts.field-0.0 c.in_err-parts.ensures)

pub with_spelling-requires : goal.with_spelling-requires
with_spelling-requires c = (read_takes c.args.bytes.now c.in_ok-parts.parts (λ i. omega (arith, c.type_inv.bytes i)) c.in_ok-parts.ensures).0

pub returns-clause-read : goal.returns-clause-read
returns-clause-read c = rw c.with_spelling.ensures (read_takes c.args.bytes.now c.in_ok-parts.parts (λ i. omega (arith, c.type_inv.bytes i)) c.in_ok-parts.ensures).1
