use Rattle.std.proofs.Common.{◌≡◌, ◌++◌, ◌∷◌, List, Option, ℕ, true, subst}
use Rattle.std.specs.List.{flat_map}
use Rattle.plan_tools.specs.Tree.{Steps, branch_line, lines_left}
use Rattle.plan_tools.specs.declared.tree.Branch.{Branch}
use Rattle.plan_tools.proofs.TreeLemmas.{one_line}
use Rattle.plan_tools.proofs.WritingLemmas.{stops}
use Rattle.plan_tools.proofs.tree.write_left.Goals as goal

pub lines-preserved : goal.lines-preserved
lines-preserved g c =
    let so_far = c.lines.invariant in
    let each : Branch → List ℕ = branch_line c.args.graph.now c.args.rules.now in
    let b : Branch = c.in-Ok-Some.branch in
    let rest : List Branch = lines_left c.args.graph.now c.next_branch.new.stack.items in
    let left : List Branch = lines_left c.args.graph.now c.lines.stack.items in
    let step : left ≡ b ∷ rest = subst (Steps left rest) c.in-Ok-Some.field-0-is c.in-Ok-Some.ensures in
    let old : ℕ × Option (List ℕ) = (g.W.Sink.failures c.args.out.now, g.W.Sink.taken c.args.out.now) in
    let mid : ℕ × Option (List ℕ) = (g.W.Sink.failures c.lines.out, g.W.Sink.taken c.lines.out) in
    let new : ℕ × Option (List ℕ) = (g.W.Sink.failures c.write_branch.new.out, g.W.Sink.taken c.write_branch.new.out) in (
      so_far.0 ++ each b,
      one_line each left rest b so_far.0 (flat_map each (lines_left c.args.graph.now c.args.stack.now.items)) step so_far.1,
      c.writes_join.ensures.join true old mid new so_far.0 (each b) so_far.2 c.in-Ok.ensures,
    )

pub returns-in-Err-write_branch : goal.returns-in-Err-write_branch
returns-in-Err-write_branch g c =
    let so_far = c.lines.invariant in
    let each : Branch → List ℕ = branch_line c.args.graph.now c.args.rules.now in
    let b : Branch = c.in-Ok-Some.branch in
    let rest : List Branch = lines_left c.args.graph.now c.next_branch.new.stack.items in
    let left : List Branch = lines_left c.args.graph.now c.lines.stack.items in
    let step : left ≡ b ∷ rest = subst (Steps left rest) c.in-Ok-Some.field-0-is c.in-Ok-Some.ensures in
    let old : ℕ × Option (List ℕ) = (g.W.Sink.failures c.args.out.now, g.W.Sink.taken c.args.out.now) in
    let mid : ℕ × Option (List ℕ) = (g.W.Sink.failures c.lines.out, g.W.Sink.taken c.lines.out) in
    let new : ℕ × Option (List ℕ) = (g.W.Sink.failures c.write_branch.new.out, g.W.Sink.taken c.write_branch.new.out) in
    let all : (so_far.0 ++ each b) ++ flat_map each rest ≡ flat_map each (lines_left c.args.graph.now c.args.stack.now.items) =
    one_line each left rest b so_far.0 (flat_map each (lines_left c.args.graph.now c.args.stack.now.items)) step so_far.1 in
    stops c.writes_join.ensures.join c.writes_join.ensures.failed old mid new so_far.0 (each b) (flat_map each rest)
    (flat_map each (lines_left c.args.graph.now c.args.stack.now.items)) all so_far.2 c.in-Err-write_branch.ensures
