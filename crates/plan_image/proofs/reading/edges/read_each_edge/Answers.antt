use Rattle.std.proofs.Common.{◌≡◌, ◌+◌, ◌∙◌, Ok, ap, arith, length, sym}
use Rattle.std.proofs.lemmas.Result.{err_from_is_err_and}
use Rattle.plan_image.specs.declared.image.Edge.{Edge}
use Rattle.plan_image.specs.Code.{instrs_of}
use Rattle.plan_image.specs.Columns.{lent}
use Rattle.plan_image.specs.Reading.{edge_at, items_at, used_after}
use Rattle.plan_image.proofs.BodyLemmas.{most_small}
use Rattle.plan_image.proofs.LoopLemmas.{goes_on, ends, is_done}
use Rattle.plan_image.proofs.reading.edges.read_each_edge.Goals as goal

pub returns-in_err-head : goal.returns-in_err-head
returns-in_err-head c =
    let bs = c.args.bodies.now in
    let p = err_from_is_err_and c.from_residual-in_err-head.result c.from_residual-in_err-head.ensures.1 in
    rw (p.1, p.2) (ends (edge_at bs) (used_after bs) c.loop.used c.in_err-head.field-0.0 c.loop.edges c.args.count c.loop.counter c.loop.rest.now (items_at (edge_at bs) (used_after bs) 0 c.args.count c.args.bytes.now) c.loop-test.true c.in_err-head.ensures.edge c.loop.invariant.read)

pub overflow_add-used : goal.overflow_add-used
overflow_add-used c =
    let bs = c.args.bodies.now in
    let small = most_small bs in
    let long : c.instr_count.result ≡ length (instrs_of bs (lent c.edge-edge.result).code) = c.instr_count.ensures in
    let same = ap (λ (x : Edge). c.loop.used + length (instrs_of bs x.code)) c.edge-edge.ensures in
    omega (arith, small, long, same, c.in_ok-head.ensures.most)

pub loop-preserved : goal.loop-preserved
loop-preserved c =
    let bs = c.args.bodies.now in
    let long : c.instr_count.result ≡ length (instrs_of bs (lent c.edge-edge.result).code) = c.instr_count.ensures in
    let same = ap (λ (x : Edge). c.loop.used + length (instrs_of bs x.code)) c.edge-edge.ensures in
    let item : edge_at bs c.loop.used c.loop.rest.now ≡ Ok (lent c.edge-edge.result, c.in_ok-head.after.now) = c.in_ok-head.ensures.edge ∙ ap (λ (x : Edge). Ok (x, c.in_ok-head.after.now)) (sym c.edge-edge.ensures) in
    record {
      read = rw (c.in_ok-push_ref.ensures.more, long) (goes_on (edge_at bs) (used_after bs) c.loop.used c.loop.edges c.args.count c.loop.counter c.loop.rest.now (lent c.edge-edge.result) c.in_ok-head.after.now (items_at (edge_at bs) (used_after bs) 0 c.args.count c.args.bytes.now) c.loop-test.true item c.loop.invariant.read);
      most = omega (arith, long, same, c.in_ok-head.ensures.most);
    }

pub returns : goal.returns
returns c =
    let bs = c.args.bodies.now in
    is_done (edge_at bs) (used_after bs) c.loop.used c.loop.edges c.args.count c.loop.counter c.loop.rest.now (items_at (edge_at bs) (used_after bs) 0 c.args.count c.args.bytes.now) c.loop-test.false c.loop.invariant.read
