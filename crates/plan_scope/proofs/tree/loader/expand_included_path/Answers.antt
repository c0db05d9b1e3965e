use Rattle.std.proofs.Common.{ℕ, ◌==◌, ◌∙◌, ap, sym, arith}
use Rattle.plan_scope.specs.Scopes.{expand}
use Rattle.plan_scope.proofs.LoaderLemmas.{empty_refused, long_refused, path_taken}
use Rattle.plan_scope.proofs.tree.loader.expand_included_path.Goals as goal

pub returns-then-is_empty : goal.returns-then-is_empty
returns-then-is_empty c = λ meant h.
    empty_refused c.args.left c.in_ok-path.path.items (expand meant c.args.pieces.now) (c.in_ok-path.ensures.text meant h) (λ e. omega (arith, e, c.if-left-eq0.false))
    (ap (λ (n : ℕ). n == 0) (sym c.in_ok-path.path.ok.0) ∙ (sym c.is_empty.ensures ∙ c.if-is_empty.true))

pub returns-then-len-gt-MAX_PATH : goal.returns-then-len-gt-MAX_PATH
returns-then-len-gt-MAX_PATH c = λ meant h.
    long_refused c.args.left c.in_ok-path.path.items (expand meant c.args.pieces.now) (c.in_ok-path.ensures.text meant h) (λ e. omega (arith, e, c.if-left-eq0.false))
    (ap (λ (n : ℕ). n == 0) (sym c.in_ok-path.path.ok.0) ∙ (sym c.is_empty.ensures ∙ c.if-is_empty.false)) (omega (arith, c.in_ok-path.path.ok.0, c.len.ensures, c.if-len-gt-MAX_PATH.true))

pub returns : goal.returns
returns c = λ meant h.
    path_taken c.args.left c.in_ok-path.path.items (expand meant c.args.pieces.now) c.new.result (c.in_ok-path.ensures.text meant h) (λ e. omega (arith, e, c.if-left-eq0.false))
    (ap (λ (n : ℕ). n == 0) (sym c.in_ok-path.path.ok.0) ∙ (sym c.is_empty.ensures ∙ c.if-is_empty.false)) (omega (arith, c.in_ok-path.path.ok.0, c.len.ensures, c.if-len-gt-MAX_PATH.false)) c.new.ensures
