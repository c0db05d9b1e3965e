use Rattle.std.proofs.Common.{◌≡◌, ◌∷◌, ◌++◌, ◌+◌, List, Option, ℕ, Some, None, true, subst, ◌∙◌, drop}
use Rattle.plan_image.specs.declared.image.Edge.{Edge}
use Rattle.plan_image.specs.declared.image.Parts.{Parts}
use Rattle.plan_image.specs.Columns.{lent}
use Rattle.plan_status.specs.Outcomes.{edge_line, outcomes_from, outcomes_of}
use Rattle.plan_status.specs.Printing.{Prints}
use Rattle.plan_status.proofs.OutcomesLemmas.{one_more}
use Rattle.plan_status.proofs.PrintingLemmas.{stops}
use Rattle.plan_status.proofs.outcomes.print_outcomes.Goals as goal

pub returns-in-Err : goal.returns-in-Err
returns-in-Err g c =
    let so_far = c.loop-number.invariant in
    let p = c.args.image.now in
    let s = c.args.state.now.run_state.now in
    let i = c.loop-number.number in
    let edge : Edge = lent c.edge-edge.result in
    let same : c.parts-parts.result.now ≡ p = c.parts-parts.ensures.tables ∙ c.image.ensures.same in
    let left : drop i p.edges ≡ edge ∷ drop (i + 1) p.edges = subst (λ (q : Parts). drop i q.edges ≡ edge ∷ drop (i + 1) q.edges) same c.edge-edge.ensures.rest in
    let rest = drop (i + 1) p.edges in
    let whole = one_more p s i edge c.outcome-outcome.result (drop i p.edges) rest so_far.0 (outcomes_of p s) left c.outcome-outcome.ensures so_far.1 in
    let old : ℕ × Option (List ℕ) = (g.W.Sink.failures c.args.out.now, g.W.Sink.taken c.args.out.now) in
    let mid : ℕ × Option (List ℕ) = (g.W.Sink.failures c.loop-number.out, g.W.Sink.taken c.loop-number.out) in
    let new : ℕ × Option (List ℕ) = (g.W.Sink.failures c.print_outcome.new.out, g.W.Sink.taken c.print_outcome.new.out) in
    let printed : Prints (edge_line p i edge c.outcome-outcome.result) (Some c.in-Err.fault) mid new
    = subst (λ (q : Parts). Prints (edge_line q i edge c.outcome-outcome.result) (Some c.in-Err.fault) mid new) same c.in-Err.ensures in
    stops c.join_laws.ensures.join c.join_laws.ensures.stopped old mid new so_far.0 (edge_line p i edge c.outcome-outcome.result)
    (outcomes_from p s (i + 1) rest) (outcomes_of p s) c.in-Err.fault whole so_far.2 printed

pub loop-number-preserved : goal.loop-number-preserved
loop-number-preserved g c =
    let so_far = c.loop-number.invariant in
    let p = c.args.image.now in
    let s = c.args.state.now.run_state.now in
    let i = c.loop-number.number in
    let edge : Edge = lent c.edge-edge.result in
    let same : c.parts-parts.result.now ≡ p = c.parts-parts.ensures.tables ∙ c.image.ensures.same in
    let left : drop i p.edges ≡ edge ∷ drop (i + 1) p.edges = subst (λ (q : Parts). drop i q.edges ≡ edge ∷ drop (i + 1) q.edges) same c.edge-edge.ensures.rest in
    let old : ℕ × Option (List ℕ) = (g.W.Sink.failures c.args.out.now, g.W.Sink.taken c.args.out.now) in
    let mid : ℕ × Option (List ℕ) = (g.W.Sink.failures c.loop-number.out, g.W.Sink.taken c.loop-number.out) in
    let new : ℕ × Option (List ℕ) = (g.W.Sink.failures c.print_outcome.new.out, g.W.Sink.taken c.print_outcome.new.out) in
    let line : List ℕ = edge_line p i edge c.outcome-outcome.result in
    let printed : Prints line None mid new = subst (λ (q : Parts). Prints (edge_line q i edge c.outcome-outcome.result) None mid new) same c.in-Ok.ensures in (
      so_far.0 ++ line,
      one_more p s i edge c.outcome-outcome.result (drop i p.edges) (drop (i + 1) p.edges) so_far.0 (outcomes_of p s) left c.outcome-outcome.ensures so_far.1,
      c.join_laws.ensures.writes true old mid new so_far.0 line so_far.2 printed,
    )
