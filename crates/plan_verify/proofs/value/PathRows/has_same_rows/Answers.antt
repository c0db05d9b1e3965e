use Rattle.std.proofs.Common.{◌≡◌, [], arith, length}
use Rattle.std.proofs.lemmas.List.{ext_get_or}
use Rattle.plan_verify.specs.PathRows.{rows_in}
use Rattle.plan_verify.proofs.value.PathRows.has_same_rows.Goals as goal

pub returns-clause-on : goal.returns-clause-on
returns-clause-on c on =
    let first = rows_in c.args.self.now in
    let second = rows_in c.args.other.now in
    let long : length (rows_in c.args.self.now) ≡ length (rows_in c.args.other.now) = omega (arith, c.if-len.false, c.len.ensures, c.len-2.ensures) in
    ext_get_or [] first second long (λ k inside. c.loop-number.invariant k (omega (arith, inside, c.loop-number-test.false, c.len-number-end.ensures)))
