use Rattle.std.proofs.Common.{◌≡◌, ◌+◌, Ok, ap, ◌∙◌, sym, drop, length, arith}
use Rattle.std.specs.List.{prefix_len}
use Rattle.std.proofs.lemmas.List.{take_rest}
use Rattle.std.proofs.lemmas.Result.{err_from_is_err_and}
use Rattle.plan_parse.specs.Parts.{unit_at}
use Rattle.plan_parse.specs.PlainPaths.{is_plain}
use Rattle.plan_parse.specs.Reading.{Place}
use Rattle.plan_parse.proofs.UnitLemmas.{walked_plain, walked_unit, walked_on, walked_fails}
use Rattle.plan_parse.proofs.path_parts.checked_len.Goals as goal

pub loop-unit-init : goal.loop-unit-init
loop-unit-init c = walked_plain c.args.p.at c.args.p.bytes.now c.args.plain c.requires

pub returns-in_err-unit-clause-sound : goal.returns-in_err-unit-clause-sound
returns-in_err-unit-clause-sound c =
    let p = err_from_is_err_and c.from_residual.result c.from_residual.ensures.1 in
    rw (p.1, p.2) (walked_fails c.args.p.at c.args.p.bytes.now c.loop-unit.len c.in_err-unit.field-0.0 c.loop-unit.invariant
    (ap (λ (q : Place). unit_at q.at q.bytes) (sym c.past.ensures) ∙ sym c.in_err-unit.ensures.size))

pub loop-unit-preserved : goal.loop-unit-preserved
loop-unit-preserved c =
    let at = c.args.p.at in
    let text = c.args.p.bytes.now in
    let len = c.loop-unit.len in
    let unit = c.in_ok-unit.unit in
    let plain = c.plain_len-len.result in
    let here = c.past.ensures in
    let size : unit_at (at + len) (drop len text) ≡ Ok unit = ap (λ (q : Place). unit_at q.at q.bytes) (sym here) ∙ sym c.in_ok-unit.ensures.size in
    let fits = c.in_ok-unit.ensures.within in
    let left = ap (λ (q : Place). length q.bytes) here in
    let some = c.if-unit-eq0.false in
    let first = walked_unit (at + len) (drop len text) unit size (omega (arith, some)) (omega (arith, fits, left)) in
    let behind = len + unit in
    let bytes : plain ≡ prefix_len is_plain (drop behind text) = c.plain_len-len.ensures.len ∙ ap (prefix_len is_plain) (take_rest text behind) in
    walked_on at text behind plain (walked_on at text len unit c.loop-unit.invariant first) (walked_plain (at + behind) (drop behind text) plain bytes)
