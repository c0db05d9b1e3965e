use Rattle.std.proofs.Common.{◌≡◌, [], arith, length}
use Rattle.std.proofs.lemmas.List.{ext_get_or}
use Rattle.plan_text.proofs.shared_rows.SharedRows.has_same_rows.Goals as goal

pub returns-clause-on : goal.returns-clause-on
returns-clause-on c on =
    let long : length c.args.self.now ≡ length c.args.other.now = omega (arith, c.if-len.false, c.len.ensures, c.len-2.ensures) in
    ext_get_or [] c.args.self.now c.args.other.now long (λ k inside. c.loop-number.invariant k (omega (arith, inside, c.loop-number-test.false, c.len-number-end.ensures)))
