use Rattle.std.proofs.Common.{◌+◌, ◌<◌, sym, ap, length, arith, length-drop}
use Rattle.std.proofs.lemmas.List.{take_rest}
use Rattle.std.proofs.lemmas.Result.{err_from_is_err_and}
use Rattle.plan_text.specs.Gathering.{sign_of}
use Rattle.plan_text.proofs.PieceReaderLemmas.{passes_plain, goes_on, stops, ends}
use Rattle.plan_text.proofs.piece_reader.gather_pieces.Goals as goal

pub returns-then-at-text : goal.returns-then-at-text
returns-then-at-text c =
    let passed = passes_plain c.args.mode c.args.base c.loop-gather.at c.plain_len-plain.result c.args.text.now _ c.loop-gather.gather c.add_plain.new.self _ (take_rest c.args.text.now c.loop-gather.at)
    c.plain_len-plain.ensures.within c.plain_len-plain.ensures.len c.in_ok-add_plain.ensures.done c.in_ok-add_plain.ensures.literal c.loop-gather.invariant.same in
    ends c.args.mode c.args.base (c.loop-gather.at + c.plain_len-plain.result) c.args.text.now c.add_plain.new.self _ _ (omega (arith, c.if-at-text.true)) c.in_ok-finish.ensures passed

pub returns-in_err-found : goal.returns-in_err-found
returns-in_err-found c =
    let passed = passes_plain c.args.mode c.args.base c.loop-gather.at c.plain_len-plain.result c.args.text.now _ c.loop-gather.gather c.add_plain.new.self _ (take_rest c.args.text.now c.loop-gather.at)
    c.plain_len-plain.ensures.within c.plain_len-plain.ensures.len c.in_ok-add_plain.ensures.done c.in_ok-add_plain.ensures.literal c.loop-gather.invariant.same in
    let inside : c.loop-gather.at + c.plain_len-plain.result < length c.args.text.now = omega (arith, c.if-at-text.false, c.plain_len-plain.ensures.within, ap length (take_rest c.args.text.now c.loop-gather.at), length-drop c.loop-gather.at c.args.text.now, c.loop-gather.invariant.within) in
    let p = err_from_is_err_and c.from_residual-in_err-found.result c.from_residual-in_err-found.ensures.1 in
    rw (p.1, p.2) (λ _. stops c.args.mode c.args.base (c.loop-gather.at + c.plain_len-plain.result) c.args.text.now c.in_err-found.field-0.0 c.add_plain.new.self _ inside (sym c.in_err-found.ensures.sign) passed)

pub loop-gather-preserved : goal.loop-gather-preserved
loop-gather-preserved c =
    let passed = passes_plain c.args.mode c.args.base c.loop-gather.at c.plain_len-plain.result c.args.text.now _ c.loop-gather.gather c.add_plain.new.self _ (take_rest c.args.text.now c.loop-gather.at)
    c.plain_len-plain.ensures.within c.plain_len-plain.ensures.len c.in_ok-add_plain.ensures.done c.in_ok-add_plain.ensures.literal c.loop-gather.invariant.same in
    let inside : c.loop-gather.at + c.plain_len-plain.result < length c.args.text.now = omega (arith, c.if-at-text.false, c.plain_len-plain.ensures.within, ap length (take_rest c.args.text.now c.loop-gather.at), length-drop c.loop-gather.at c.args.text.now, c.loop-gather.invariant.within) in
    record {
      within = omega (arith, c.in_ok-found.ensures.within);
      same = goes_on c.args.mode c.args.base (c.loop-gather.at + c.plain_len-plain.result) c.in_ok-found.more c.args.text.now (sign_of c.in_ok-found.found) c.add_plain.new.self c.add.new.self _ inside (sym c.in_ok-found.ensures.sign) c.in_ok-add.ensures passed;
    }
