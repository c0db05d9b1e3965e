use Rattle.std.proofs.Common.{◌++◌, ◌+◌, List, Option, ℕ, true, false, subst, drop}
use Rattle.std.proofs.lemmas.Result.{err_from_is_err_and}
use Rattle.plan_text.specs.Sinks.{Writes}
use Rattle.plan_image.specs.Columns.{lent}
use Rattle.plan_image.specs.Listing.{edge_lines, numbered}
use Rattle.plan_image.proofs.ListingLemmas.{one_on}
use Rattle.plan_image.proofs.lister.line.write_edges.Goals as goal

pub returns-in_err-write_edge : goal.returns-in_err-write_edge
returns-in_err-write_edge g c =
    let so_far = c.loop-number.invariant in
    let items = c.args.edges.now in
    let i = c.loop-number.number in
    let text : List ℕ = edge_lines i (lent c.edge.result) in
    let rest = drop (i + 1) items in
    let whole = one_on edge_lines i (lent c.edge.result) (drop i items) rest so_far.0 (numbered edge_lines 0 items) c.edge.ensures.rest so_far.1 in
    let old : ℕ × Option (List ℕ) = (g.W.Sink.failures c.args.out.now, g.W.Sink.taken c.args.out.now) in
    let mid : ℕ × Option (List ℕ) = (g.W.Sink.failures c.loop-number.out, g.W.Sink.taken c.loop-number.out) in
    let new : ℕ × Option (List ℕ) = (g.W.Sink.failures c.write_edge.new.out, g.W.Sink.taken c.write_edge.new.out) in
    let front = c.writes_join.ensures.join false old mid new so_far.0 text so_far.2 c.in_err-write_edge.ensures in
    let p = err_from_is_err_and c.from_residual.result c.from_residual.ensures.1 in
    rw p.1 (subst (Writes false old new) whole (c.writes_join.ensures.failed old new (so_far.0 ++ text) (numbered edge_lines (i + 1) rest) front))

pub loop-number-preserved : goal.loop-number-preserved
loop-number-preserved g c =
    let so_far = c.loop-number.invariant in
    let items = c.args.edges.now in
    let i = c.loop-number.number in
    let text : List ℕ = edge_lines i (lent c.edge.result) in (
      so_far.0 ++ text,
      one_on edge_lines i (lent c.edge.result) (drop i items) (drop (i + 1) items) so_far.0 (numbered edge_lines 0 items) c.edge.ensures.rest so_far.1,
      c.writes_join.ensures.join true
          (g.W.Sink.failures c.args.out.now, g.W.Sink.taken c.args.out.now)
          (g.W.Sink.failures c.loop-number.out, g.W.Sink.taken c.loop-number.out)
          (g.W.Sink.failures c.write_edge.new.out, g.W.Sink.taken c.write_edge.new.out)
          so_far.0 text so_far.2 c.in_ok-write_edge.ensures,
    )
