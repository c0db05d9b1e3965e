use Rattle.std.proofs.Common.{◌≡◌, ℕ, suc, ◌-◌, get_or, sym, ◌∙◌, ap, arith, eq-eqb}
use Rattle.std.proofs.lemmas.Bool.{eqb-true}
use Rattle.plan_text.proofs.LineReaderLemmas.{comment_to_end, comment_to_cr, comment_to_lf}
use Rattle.plan_text.proofs.line_reader.comment_len.Goals as goal
use Rattle.plan_text.proofs.line_reader.comment_len.Goals.{else-at-gt0-via-then-at-gt0+else-text-at-eq13, else-at-gt0-via-else-at-gt0}

pub returns-in-None-clause-len : goal.returns-in-None-clause-len
returns-in-None-clause-len c = sym (comment_to_end c.args.text.now (λ j l e. c.in-None.ensures j (omega arith) l (eq-eqb _ _ e)))

pub returns-then-text-at-eq13-clause-len : goal.returns-then-text-at-eq13-clause-len
returns-then-text-at-eq13-clause-len c =
    let k = c.in-Some.ensures in
    let s : suc (c.in-Some.at - 1) ≡ c.in-Some.at = omega arith in
    let high = k.0.high in
    sym (comment_to_cr c.args.text.now (c.in-Some.at - 1) (omega (arith, high)) (λ j l e. k.0.before j (omega arith) (omega arith) (eq-eqb _ _ e)) c.if-text-at-eq13.true
    (ap (λ (n : ℕ). get_or c.args.text.now n 0) s ∙ eqb-true _ _ k.1))

pub returns-else-at-gt0-clause-len : goal.returns-else-at-gt0-clause-len
returns-else-at-gt0-clause-len c =
    let k = c.in-Some.ensures in
    sym (comment_to_lf c.args.text.now c.in-Some.at k.0.high (λ j l e. k.0.before j (omega arith) l (eq-eqb _ _ e)) (eqb-true _ _ k.1)
    (λ m q e. elim c.else-at-gt0.branch [
      | else-at-gt0-via-then-at-gt0+else-text-at-eq13 w ↦
          let s : c.in-Some.at - 1 ≡ m = omega arith in
          w.if-text-at-eq13.false (ap (λ (n : ℕ). get_or c.args.text.now n 0) s ∙ e)
      | else-at-gt0-via-else-at-gt0 w ↦ absurd (omega arith)
    ]))
