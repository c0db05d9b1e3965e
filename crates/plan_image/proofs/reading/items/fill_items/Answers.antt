use Rattle.std.proofs.Common.{◌∷◌, [], arith}
use Rattle.std.proofs.lemmas.List.{length-append}
use Rattle.std.proofs.lemmas.Result.{err_from_is_err_and}
use Rattle.plan_image.specs.Reading.{items_at}
use Rattle.plan_image.proofs.LoopLemmas.{goes_on, ends, is_done}
use Rattle.plan_image.proofs.reading.items.fill_items.Goals as goal

pub returns-in_err-item-clause-items : goal.returns-in_err-item-clause-items
returns-in_err-item-clause-items g c =
    let p = err_from_is_err_and c.from_residual-in_err-item.result c.from_residual-in_err-item.ensures.1 in
    let item = g.T.Spelled.read_at in
    rw (p.1, p.2) (ends (λ (s : Unit {0}). item) (λ s x. s) tt c.in_err-item.field-0.0 c.loop.items.items c.args.count c.loop.counter c.loop.rest.now (items_at (λ (s : Unit {0}). item) (λ s x. s) tt c.args.count c.args.bytes.now) c.loop-test.true c.in_err-item.ensures c.loop.invariant.read)

pub loop-preserved : goal.loop-preserved
loop-preserved g c =
    let item = g.T.Spelled.read_at in
    record {
      read = rw c.in_ok-push.ensures.items (goes_on (λ (s : Unit {0}). item) (λ s x. s) tt c.loop.items.items c.args.count c.loop.counter c.loop.rest.now c.in_ok-item.item c.in_ok-item.after.now (items_at (λ (s : Unit {0}). item) (λ s x. s) tt c.args.count c.args.bytes.now) c.loop-test.true c.in_ok-item.ensures c.loop.invariant.read);
      len = rw c.in_ok-push.ensures.items (omega (arith, length-append c.loop.items.items (c.in_ok-item.item ∷ []), c.loop.invariant.len));
    }

pub returns-clause-items : goal.returns-clause-items
returns-clause-items g c =
    let item = g.T.Spelled.read_at in
    (is_done (λ (s : Unit {0}). item) (λ s x. s) tt c.loop.items.items c.args.count c.loop.counter c.loop.rest.now (items_at (λ (s : Unit {0}). item) (λ s x. s) tt c.args.count c.args.bytes.now) c.loop-test.false c.loop.invariant.read)
