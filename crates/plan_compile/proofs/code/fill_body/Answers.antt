use Rattle.std.proofs.Common.{◌≡◌, ◌∙◌, List, Some, sym, arith}
use Rattle.std.specs.Prelude.{slice_get}
use Rattle.plan_image.specs.Bodies.{with_operands}
use Rattle.plan_image.specs.declared.body.Instr.{Instr}
use Rattle.plan_compile.proofs.BuildLemmas.{copied_step, get_at}
use Rattle.plan_compile.proofs.code.fill_body.Goals as goal

pub loop-place-preserved : goal.loop-place-preserved
loop-place-preserved c =
    let whole : List Instr = with_operands c.args.body.now c.args.operands.now in
    let at : slice_get whole c.loop-place.place ≡ Some c.in-Some.instr = sym c.instr.ensures ∙ c.in-Some.is in
    copied_step whole c.loop-place.place c.in-Some.instr c.loop-place.instrs.items c.push.new.self.items whole at c.in_ok-push-in-Some.ensures.items c.loop-place.invariant

pub returns-in-None : goal.returns-in-None
returns-in-None c =
    let whole : List Instr = with_operands c.args.body.now c.args.operands.now in
    let there = get_at whole c.loop-place.place (omega (arith, c.loop-place-test.true, c.filled_len-place-end.ensures)) in
    let at = there.1 in
    let none = c.instr.ensures in
    let is = c.in-None.is in
    absurd cc
