use Rattle.std.proofs.Common.{◌<◌, ◌++◌, ◌+◌, ◌∷◌, [], ◌∙◌, Bool, Global, List, Vec, ap, arith, drop, length, sym, ℕ}
use Rattle.std.specs.Prelude.{if◌then◌else◌, not}
use Rattle.std.specs.List.{list_any}
use Rattle.plan_graph.specs.Files.{file_at}
use Rattle.plan_graph.specs.Graph.{is_last, numbers_from}
use Rattle.plan_graph.proofs.WaitsLemmas.{last_step}
use Rattle.plan_graph.proofs.build_graph.last_edges.Goals as goal
use Rattle.plan_graph.proofs.build_graph.last_edges.Goals.{then-has_unused+in_ok-push, else-has_unused}

pub loop-number-preserved : goal.loop-number-preserved
loop-number-preserved c =
    let files = c.args.files.now in
    let edges = c.args.edges.now in
    let row = c.loop-number.numbers.items in
    let i = c.loop-number.number in
    let rest = numbers_from (i + 1) (is_last edges) (drop (i + 1) edges) in
    let is = c.has_unused.ensures ∙ ap (λ (ns : List ℕ). list_any (λ n. not (file_at n files).is_used) ns) c.row.ensures in
    let lt : i < length edges = omega (arith, c.loop-number-test.true, c.in_ok-count.ensures, c.len.ensures) in
    let step = last_step files edges c.args.outputs.now row i c.has_unused.result c.requires.fits c.requires.outputs lt is in
    elim c.if-has_unused.branch [
      | then-has_unused+in_ok-push w ↦
          ap (λ (v : Vec ℕ Global). v.items ++ rest) w.numbers-is
          ∙ (ap (λ (r : List ℕ). r ++ rest) w.in_ok-push.ensures.items
          ∙ (ap (λ (b : Bool). (if b then (row ++ i ∷ []) else row) ++ rest) (sym w.if-has_unused.true) ∙ (sym step ∙ c.loop-number.invariant)))
      | else-has_unused w ↦
          ap (λ (v : Vec ℕ Global). v.items ++ rest) w.numbers-is
          ∙ (ap (λ (b : Bool). (if b then (row ++ i ∷ []) else row) ++ rest) (sym w.if-has_unused.false) ∙ (sym step ∙ c.loop-number.invariant))
    ]
