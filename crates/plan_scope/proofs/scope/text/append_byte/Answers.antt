use Rattle.std.proofs.Common.{ℕ, ◌++◌, ◌∷◌, [], ◌<◌, List, length, length-append, ltb, sym, ap, ◌∙◌, arith}
use Rattle.std.proofs.lemmas.Bool.{ltb-true}
use Rattle.plan_text.specs.Limits.{max_text}
use Rattle.plan_scope.proofs.TextLemmas.{both_long}
use Rattle.plan_scope.proofs.scope.text.append_byte.Goals as goal

pub returns-then-is_long : goal.returns-then-is_long
returns-then-is_long c =
    let out = c.args.out.now.items in
    let byte : List ℕ = c.args.byte ∷ [] in
    let long : max_text < length out = ltb-true max_text (length out) (ap (λ (t : List ℕ). ltb max_text (length t)) (sym c.deref.ensures.value) ∙ (sym c.is_long.ensures ∙ c.if-is_long.true)) in
    both_long out (out ++ byte) long (omega (arith, length-append out byte))
