use Rattle.std.proofs.Common.{arith}
use Rattle.std.proofs.lemmas.Result.{err_from_is_err_and}
use Rattle.plan_image.specs.Columns.{instrs_by}
use Rattle.plan_image.specs.Reading.{items_at, instr_at}
use Rattle.plan_image.proofs.LoopLemmas.{goes_on, ends, is_done}
use Rattle.plan_image.proofs.reading.edges.fill_instrs.Goals as goal

pub returns-in_err-instr-clause-instrs : goal.returns-in_err-instr-clause-instrs
returns-in_err-instr-clause-instrs c =
    let p = err_from_is_err_and c.from_residual-in_err-instr.result c.from_residual-in_err-instr.ensures.1 in
    rw (p.1, p.2) (ends (λ (s : Unit {0}). instr_at) (λ s x. s) tt c.in_err-instr.field-0.0 (instrs_by c.loop.opcodes.items c.loop.operands.items) c.args.count c.loop.counter c.loop.rest.now (items_at (λ (s : Unit {0}). instr_at) (λ s x. s) tt c.args.count c.args.bytes.now) c.loop-test.true c.in_err-instr.ensures c.loop.invariant.read)

pub loop-preserved : goal.loop-preserved
loop-preserved c =
    let longer = c.in_ok-push_instr.ensures.len in
    record {
      read = rw c.in_ok-push_instr.ensures.more (goes_on (λ (s : Unit {0}). instr_at) (λ s x. s) tt (instrs_by c.loop.opcodes.items c.loop.operands.items) c.args.count c.loop.counter c.loop.rest.now c.in_ok-instr.instr c.in_ok-instr.after.now (items_at (λ (s : Unit {0}). instr_at) (λ s x. s) tt c.args.count c.args.bytes.now) c.loop-test.true c.in_ok-instr.ensures c.loop.invariant.read);
      long = c.in_ok-push_instr.ensures.long;
      len = omega (arith, longer, c.loop.invariant.len);
    }

pub returns-clause-instrs : goal.returns-clause-instrs
returns-clause-instrs c =
    is_done (λ (s : Unit {0}). instr_at) (λ s x. s) tt (instrs_by c.loop.opcodes.items c.loop.operands.items) c.args.count c.loop.counter c.loop.rest.now (items_at (λ (s : Unit {0}). instr_at) (λ s x. s) tt c.args.count c.args.bytes.now) c.loop-test.false c.loop.invariant.read
