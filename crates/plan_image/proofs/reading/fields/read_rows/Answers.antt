use Rattle.std.proofs.lemmas.Result.{err_from_is_err_and}
use Rattle.plan_image.specs.Reading.{items_at}
use Rattle.plan_image.proofs.LoopLemmas.{goes_on, ends, is_done}
use Rattle.plan_image.proofs.reading.fields.read_rows.Goals as goal

pub returns-in_err-row : goal.returns-in_err-row
returns-in_err-row g c =
    let p = err_from_is_err_and c.from_residual-in_err-row.result c.from_residual-in_err-row.ensures.1 in
    let item = g.F.TextField.read_at in
    rw (p.1, p.2) (ends (λ (s : Unit {0}). item) (λ s x. s) tt c.in_err-row.field-0.0 c.loop.rows c.args.count c.loop.counter c.loop.rest.now (items_at (λ (s : Unit {0}). item) (λ s x. s) tt c.args.count c.args.bytes.now) c.loop-test.true c.in_err-row.ensures c.loop.invariant)

pub loop-preserved : goal.loop-preserved
loop-preserved g c =
    let item = g.F.TextField.read_at in
    rw c.in_ok-push.ensures.more (goes_on (λ (s : Unit {0}). item) (λ s x. s) tt c.loop.rows c.args.count c.loop.counter c.loop.rest.now c.in_ok-row.row.now c.in_ok-row.after.now (items_at (λ (s : Unit {0}). item) (λ s x. s) tt c.args.count c.args.bytes.now) c.loop-test.true c.in_ok-row.ensures c.loop.invariant)

pub returns : goal.returns
returns g c =
    let item = g.F.TextField.read_at in
    is_done (λ (s : Unit {0}). item) (λ s x. s) tt c.loop.rows c.args.count c.loop.counter c.loop.rest.now (items_at (λ (s : Unit {0}). item) (λ s x. s) tt c.args.count c.args.bytes.now) c.loop-test.false c.loop.invariant
