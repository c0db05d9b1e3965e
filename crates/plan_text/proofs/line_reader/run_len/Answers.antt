use Rattle.std.proofs.Common.{◌≡◌, ◌≤◌, ◌+◌, ◌-◌, length, drop, take, ap, sym, ◌∙◌, arith, length-drop}
use Rattle.std.proofs.lemmas.List.{take_rest}
use Rattle.plan_text.proofs.RunReaderLemmas.{run_passed, run_more, run_end}
use Rattle.plan_text.proofs.line_reader.run_len.Goals as goal

pub returns-then-unit-eq0-clause-len : goal.returns-then-unit-eq0-clause-len
returns-then-unit-eq0-clause-len g c =
    let next = c.loop-at.at + c.plain_len-at.result in
    let passed = run_passed g.U.Unit.size c.args.text.now _ c.loop-at.at c.plain_len-at.result (take_rest c.args.text.now c.loop-at.at) c.plain_len-at.ensures.run in
    let over = run_end g.U.Unit.size (drop next c.args.text.now) (sym (ap g.U.Unit.size (take_rest c.args.text.now next)) ∙ sym c.unit_len-unit.ensures.len ∙ c.if-unit-eq0.true) in
    omega (arith, passed, over, c.loop-at.invariant.same)

pub loop-at-preserved : goal.loop-at-preserved
loop-at-preserved g c =
    let next = c.loop-at.at + c.plain_len-at.result in
    let passed = run_passed g.U.Unit.size c.args.text.now _ c.loop-at.at c.plain_len-at.result (take_rest c.args.text.now c.loop-at.at) c.plain_len-at.ensures.run in
    let rest : take (length c.args.text.now - next) (drop next c.args.text.now) ≡ drop next c.args.text.now = take_rest c.args.text.now next in
    let unit = c.unit_len-unit.ensures.len ∙ ap g.U.Unit.size rest in
    let within : c.unit_len-unit.result ≤ length (drop next c.args.text.now) = omega (arith, c.unit_len-unit.ensures.within, ap length rest) in
    let more = run_more g.U.Unit.size c.args.text.now next c.unit_len-unit.result unit within c.if-unit-eq0.false in
    record {
      within = omega (arith, within, length-drop next c.args.text.now);
      same = omega (arith, passed, more, c.loop-at.invariant.same);
    }
