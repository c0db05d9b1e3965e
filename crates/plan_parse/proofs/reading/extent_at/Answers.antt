use Rattle.std.proofs.Common.{◌≡◌, ap, sym, ◌∙◌, drop}
use Rattle.std.proofs.lemmas.List.{take_rest}
use Rattle.plan_parse.specs.Parts.{first_path}
use Rattle.plan_parse.specs.Reading.{path_unit}
use Rattle.plan_parse.proofs.UnitLemmas.{walked_plain, walked_all, walked_well, lifted_well}
use Rattle.plan_parse.proofs.reading.extent_at.Goals as goal

pub returns-then-ends_path-clause-len : goal.returns-then-ends_path-clause-len
returns-then-ends_path-clause-len c =
    let at = c.args.p.at in
    let text = c.args.p.bytes.now in
    let plain = c.plain_len-plain.result in
    let end : path_unit (drop plain text) ≡ 0 = ap path_unit (sym (take_rest text plain)) ∙ c.ends_path.ensures c.if-ends_path.true in
    walked_all at text plain (walked_plain at text plain c.plain_len-plain.ensures.len) end

pub returns-then-ends_path-clause-sound : goal.returns-then-ends_path-clause-sound
returns-then-ends_path-clause-sound c =
    let at = c.args.p.at in
    let text = c.args.p.bytes.now in
    let plain = c.plain_len-plain.result in
    let end : path_unit (drop plain text) ≡ 0 = ap path_unit (sym (take_rest text plain)) ∙ c.ends_path.ensures c.if-ends_path.true in
    lifted_well (first_path at text) (walked_well at text plain (walked_plain at text plain c.plain_len-plain.ensures.len) end)
