use Rattle.std.proofs.Common.{sym, ◌∙◌}
use Rattle.std.proofs.lemmas.Bool.{false≢true}
use Rattle.plan_verify.proofs.ArrivalsLemmas.{one_differs, still_differ}
use Rattle.plan_verify.proofs.arrivals.with_shape.Goals as goal

pub returns-else-is_same : goal.returns-else-is_same
returns-else-is_same c = rw c.in-One.is (one_differs c.in-One.first c.args.shape.now (λ e. absurd (false≢true (sym c.if-is_same.false ∙ c.is_same.ensures.1 (c.shape.ensures ∙ e)))))

pub returns-in-Differ : goal.returns-in-Differ
returns-in-Differ c = rw c.in-Differ.is (still_differ c.args.shape.now)
