use Rattle.std.proofs.Common.{List, Option, ℕ, is_ok}
use Rattle.plan_graph.specs.Files.{producer_at}
use Rattle.plan_tools.specs.Listings.{path_at}
use Rattle.plan_tools.specs.Tree.{blanks, target_line}
use Rattle.plan_tools.proofs.tree.write_branch.Goals as goal

pub returns-in-Ok : goal.returns-in-Ok
returns-in-Ok g c =
    let graph = c.args.graph.now in
    let path : ℕ = c.args.branch.path in
    let old : ℕ × Option (List ℕ) = (g.W.Sink.failures c.args.out.now, g.W.Sink.taken c.args.out.now) in
    let mid : ℕ × Option (List ℕ) = (g.W.Sink.failures c.write_blanks.new.out, g.W.Sink.taken c.write_blanks.new.out) in
    let new : ℕ × Option (List ℕ) = (g.W.Sink.failures c.write_target.new.out, g.W.Sink.taken c.write_target.new.out) in
    c.writes_join.ensures.join (is_ok c.write_target.result) old mid new (blanks c.args.branch.indent) (target_line (path_at graph path) c.args.rules.now (producer_at graph.files path)) c.in-Ok.ensures c.write_target.ensures
