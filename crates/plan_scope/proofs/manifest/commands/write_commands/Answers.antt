use Rattle.std.proofs.Common.{◌≡◌, ◌<◌, ◌++◌, ◌+◌, List, Option, ℕ, true, false, arith, length, subst, sym, drop, get_or}
use Rattle.std.proofs.lemmas.Option.{get_or_from_slice_get}
use Rattle.std.proofs.lemmas.Result.{err_from_is_err_and}
use Rattle.std.specs.List.{flat_map}
use Rattle.plan_text.specs.Sinks.{Writes}
use Rattle.plan_scope.specs.Edge.{Edge}
use Rattle.plan_scope.specs.Edges.{command_line}
use Rattle.plan_scope.proofs.CommandLemmas.{one_more}
use Rattle.plan_scope.proofs.manifest.commands.write_commands.Goals as goal

pub returns-in_err-write_command : goal.returns-in_err-write_command
returns-in_err-write_command g c =
    let so_far = c.loop-number.invariant in
    let edges : List Edge = c.args.manifest.now.edges in
    let i = c.loop-number.number in
    let edge : Edge = c.edge.result in
    let lt : i < length edges = omega (arith, c.loop-number-test.true, c.len-number-end.ensures) in
    let is : edge ≡ get_or edges i edge = sym (get_or_from_slice_get edges i edge edge c.edge.ensures) in
    let statement : List ℕ = command_line edge in
    let behind : List ℕ = flat_map command_line (drop (i + 1) edges) in
    let whole = one_more edges i edge so_far.0 lt is so_far.1 in
    let old : ℕ × Option (List ℕ) = (g.W.Sink.failures c.args.out.now, g.W.Sink.taken c.args.out.now) in
    let mid : ℕ × Option (List ℕ) = (g.W.Sink.failures c.loop-number.out, g.W.Sink.taken c.loop-number.out) in
    let new : ℕ × Option (List ℕ) = (g.W.Sink.failures c.write_command.new.out, g.W.Sink.taken c.write_command.new.out) in
    let front = c.writes_join.ensures.join false old mid new so_far.0 statement so_far.2 c.in_err-write_command.ensures in
    let p = err_from_is_err_and c.from_residual.result c.from_residual.ensures.1 in
    rw p.1 (subst (Writes false old new) whole (c.writes_join.ensures.failed old new (so_far.0 ++ statement) behind front))

pub loop-number-preserved : goal.loop-number-preserved
loop-number-preserved g c =
    let so_far = c.loop-number.invariant in
    let edges : List Edge = c.args.manifest.now.edges in
    let i = c.loop-number.number in
    let edge : Edge = c.edge.result in
    let lt : i < length edges = omega (arith, c.loop-number-test.true, c.len-number-end.ensures) in
    let is : edge ≡ get_or edges i edge = sym (get_or_from_slice_get edges i edge edge c.edge.ensures) in
    let statement : List ℕ = command_line edge in (
      so_far.0 ++ statement,
      one_more edges i edge so_far.0 lt is so_far.1,
      c.writes_join.ensures.join true
          (g.W.Sink.failures c.args.out.now, g.W.Sink.taken c.args.out.now)
          (g.W.Sink.failures c.loop-number.out, g.W.Sink.taken c.loop-number.out)
          (g.W.Sink.failures c.write_command.new.out, g.W.Sink.taken c.write_command.new.out)
          so_far.0 statement so_far.2 c.in_ok-write_command.ensures,
    )
