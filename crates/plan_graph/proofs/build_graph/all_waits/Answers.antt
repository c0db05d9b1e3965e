use Rattle.std.proofs.Common.{◌≡◌, ◌<◌, ◌+◌, ◌++◌, ◌∷◌, [], ◌∙◌, List, ℕ, ap, arith, drop, length, map, subst, sym}
use Rattle.plan_graph.specs.Graph.{all_waits, waits_of}
use Rattle.plan_graph.proofs.EdgeReaderLemmas.{row_is}
use Rattle.plan_graph.proofs.WaitsLemmas.{item_here, next_waits}
use Rattle.plan_graph.proofs.build_graph.all_waits.Goals as goal

pub loop-number-preserved : goal.loop-number-preserved
loop-number-preserved c =
    let edges = c.args.edges.now in
    let i = c.loop-number.number in
    let e = c.edge-edge.result in
    let lt : i < length edges = omega (arith, c.loop-number-test.true, c.in_ok-count.ensures, c.len.ensures) in
    let row = c.waits_of.new.row.items in
    let is = row_is (waits_of edges e) row (c.in_ok-waits_of.ensures edges c.requires.fits c.edge-edge.ensures) in
    let pushed : c.push.new.self ≡ c.loop-number.waits ++ row ∷ [] = c.in_ok-push.ensures.more ∙ ap (λ (r : List ℕ). c.loop-number.waits ++ r ∷ []) c.deref.ensures.value in
    subst (λ (x : List (List ℕ)). x ++ map (waits_of edges) (drop (i + 1) edges) ≡ all_waits edges) (sym pushed)
    (next_waits edges i e c.loop-number.waits row (all_waits edges) lt (item_here edges i e e c.edge-edge.ensures) is c.loop-number.invariant)
