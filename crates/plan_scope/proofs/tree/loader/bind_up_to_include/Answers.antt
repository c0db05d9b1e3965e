use Rattle.std.proofs.Common.{◌≡◌, ◌<◌, ◌+◌, ◌≤◌, ◌∙◌, List, length, ap, sym, subst, get_or, arith}
use Rattle.plan_parse.specs.declared.compact.CompactStatement.{CompactStatement}
use Rattle.plan_scope.specs.LoadingUpTo.{BindsBetween}
use Rattle.plan_scope.proofs.UpToLemmas.{binds_more, refuses}
use Rattle.plan_scope.proofs.tree.loader.bind_up_to_include.Goals as goal

pub loop-place-preserved : goal.loop-place-preserved
loop-place-preserved c =
    let at = c.loop-place in
    let all = c.args.file.now.parsed.value.statements in
    let kept = c.index-statements-place.result in
    let len : length c.statements-statements.result.now ≡ length all = ap (λ (xs : List CompactStatement). length xs) c.statements-statements.ensures in
    let lt : at.place < length all = omega (arith, c.loop-place-test.true, len) in
    let after : c.args.start ≤ at.place + 1 = omega (arith, at.invariant.1) in
    let within : at.place + 1 ≤ length all = omega (arith, lt) in (
      binds_more c.args.file.now c.args.start at.place c.args.bound.now at.bound c.bind.new.bound kept c.new-statement.result at.invariant.1 lt
          (ap (λ (xs : List CompactStatement). get_or xs at.place kept) (sym c.statements-statements.ensures) ∙ sym c.index-statements-place.is)
          c.new-statement.ensures (sym c.in-None.ensures) c.requires.scopes c.in-Ok.ensures.bound c.in-Ok.ensures.long at.invariant.0,
      after,
      within,
    )

pub returns-in-Err-clause-refused : goal.returns-in-Err-clause-refused
returns-in-Err-clause-refused c =
    let at = c.loop-place in
    let all = c.args.file.now.parsed.value.statements in
    let kept = c.index-statements-place.result in
    let len : length c.statements-statements.result.now ≡ length all = ap (λ (xs : List CompactStatement). length xs) c.statements-statements.ensures in
    let lt : at.place < length all = omega (arith, c.loop-place-test.true, len) in
    refuses c.args.file.now c.args.start at.place c.args.bound.now at.bound kept c.new-statement.result c.in-Err.fault at.invariant.1 lt
    (ap (λ (xs : List CompactStatement). get_or xs at.place kept) (sym c.statements-statements.ensures) ∙ sym c.index-statements-place.is)
    c.new-statement.ensures c.requires.scopes c.in-Err.ensures.long at.invariant.0

pub returns-clause-bound : goal.returns-clause-bound
returns-clause-bound c =
    let at = c.loop-place in
    let file = c.args.file.now in
    let all = file.parsed.value.statements in
    let len : length c.statements-statements.result.now ≡ length all = ap (λ (xs : List CompactStatement). length xs) c.statements-statements.ensures in
    let end : at.place ≡ length all = omega (arith, at.invariant.2, c.loop-place-test.false, len) in
    record { next = tt; binds = subst (λ n. BindsBetween file c.args.start n c.args.bound.now at.bound) end at.invariant.0 }
