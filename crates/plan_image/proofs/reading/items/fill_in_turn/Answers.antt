use Rattle.std.proofs.lemmas.Result.{err_from_is_err_and}
use Rattle.plan_image.specs.Reading.{items_at}
use Rattle.plan_image.proofs.LoopLemmas.{goes_on, ends, is_done}
use Rattle.plan_image.proofs.reading.items.fill_in_turn.Goals as goal

pub returns-in_err-item : goal.returns-in_err-item
returns-in_err-item g c =
    let p = err_from_is_err_and c.from_residual-in_err-item.result c.from_residual-in_err-item.ensures.1 in
    let item = g.R.InTurn.item_at c.args.reader.now in
    let next = g.R.InTurn.next c.args.reader.now in
    rw (p.1, p.2) (ends item next c.loop.before c.in_err-item.field-0.0 c.loop.items.items c.args.count c.loop.counter c.loop.rest.now (items_at item next c.args.start c.args.count c.args.bytes.now) c.loop-test.true c.in_err-item.ensures.item c.loop.invariant.read)

pub loop-preserved : goal.loop-preserved
loop-preserved g c =
    let item = g.R.InTurn.item_at c.args.reader.now in
    let next = g.R.InTurn.next c.args.reader.now in
    record {
      read = rw (c.in_ok-push.ensures.items, c.in_ok-item.ensures.next) (goes_on item next c.loop.before c.loop.items.items c.args.count c.loop.counter c.loop.rest.now c.in_ok-item.item c.in_ok-item.after.now (items_at item next c.args.start c.args.count c.args.bytes.now) c.loop-test.true c.in_ok-item.ensures.item c.loop.invariant.read);
      most = c.in_ok-item.ensures.most;
    }

pub returns : goal.returns
returns g c =
    let item = g.R.InTurn.item_at c.args.reader.now in
    let next = g.R.InTurn.next c.args.reader.now in
    (is_done item next c.loop.before c.loop.items.items c.args.count c.loop.counter c.loop.rest.now (items_at item next c.args.start c.args.count c.args.bytes.now) c.loop-test.false c.loop.invariant.read)
