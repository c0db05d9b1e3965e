use Rattle.std.proofs.Common.{◌≡◌, ◌<◌, ◌+◌, length, take, arith}
use Rattle.std.proofs.lemmas.List.{length-take-le}
use Rattle.plan_text.specs.Limits.{max_text}
use Rattle.plan_scope.proofs.TextLemmas.{both_long}
use Rattle.plan_scope.proofs.scope.text.front_kept.Goals as goal

pub returns-then-text-gt-MAX_TEXT : goal.returns-then-text-gt-MAX_TEXT
returns-then-text-gt-MAX_TEXT c =
    let text = c.args.text.now in
    let long : max_text < length text = omega (arith, c.if-text-gt-MAX_TEXT.true) in
    let size : length (take (max_text + 1) text) ≡ max_text + 1 = length-take-le (max_text + 1) text (omega (arith, long)) in
    both_long (take (max_text + 1) text) text (omega (arith, size)) long
