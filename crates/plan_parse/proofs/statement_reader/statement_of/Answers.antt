use Rattle.std.proofs.Common.{true, false, ap, ◌∙◌}
use Rattle.std.specs.Prelude.{codes}
use Rattle.plan_parse.specs.Reading.{Place, past_gap}
use Rattle.plan_parse.specs.Statements as statements
use Rattle.plan_parse.specs.BlockLines.{block_lines_of}
use Rattle.plan_parse.specs.Compact.{said_in}
use Rattle.plan_parse.specs.Views.{place_of}
use Rattle.plan_parse.proofs.WordLemmas.{meets_word, told, is_rule, is_pool, is_default, is_include, is_subninja, behind_stands}
use Rattle.plan_parse.proofs.statement_reader.statement_of.Goals as goal

pub keep_build-requires-clause-line : goal.keep_build-requires-clause-line
keep_build-requires-clause-line c =
    behind_stands c.args.text.now (place_of c.args.p) (place_of c.past_gap-start.result) (place_of c.past_gap-behind.result) c.name_of-word.result.now c.requires.line c.past_gap-start.ensures c.name_of-word.ensures
    (c.past_gap-behind.ensures ∙ ap (λ (q : Place). past_gap q) c.past.ensures)

pub returns-then-eq-clause-read : goal.returns-then-eq-clause-read
returns-then-eq-clause-read c =
    let p = place_of c.args.p in
    let word = c.name_of-word.result.now in
    let behind = place_of c.past_gap-behind.result in
    let lines = block_lines_of c.args.lines.now in
    let said = statements.rule_of p.at behind lines in
    meets_word (said_in c.args.text.now c.args.lists.now) c.keep.result p (place_of c.past_gap-start.result) behind word lines said
    c.past_gap-start.ensures c.name_of-word.ensures (c.past_gap-behind.ensures ∙ ap (λ (q : Place). past_gap q) c.past.ensures)
    (is_rule p word behind lines
    (told word c.as_slice.result.now (codes "rule") c.eq.result true c.as_slice.ensures c.eq.ensures c.if-eq.true))
    (c.keep.ensures.read c.args.text.now c.args.lists.now said c.rule_of.ensures)

pub returns-then-eq-3-clause-read : goal.returns-then-eq-3-clause-read
returns-then-eq-3-clause-read c =
    let p = place_of c.args.p in
    let word = c.name_of-word.result.now in
    let behind = place_of c.past_gap-behind.result in
    let lines = block_lines_of c.args.lines.now in
    let said = statements.pool_of p.at behind lines in
    meets_word (said_in c.args.text.now c.args.lists.now) c.keep-then-eq-3.result p (place_of c.past_gap-start.result) behind word lines said
    c.past_gap-start.ensures c.name_of-word.ensures (c.past_gap-behind.ensures ∙ ap (λ (q : Place). past_gap q) c.past.ensures)
    (is_pool p word behind lines
    (told word c.as_slice.result.now (codes "rule") c.eq.result false c.as_slice.ensures c.eq.ensures c.if-eq.false)
    (told word c.as_slice-else-eq.result.now (codes "build") c.eq-else-eq.result false c.as_slice-else-eq.ensures c.eq-else-eq.ensures c.if-eq-2.false)
    (told word c.as_slice-else-eq-2.result.now (codes "pool") c.eq-else-eq-2.result true c.as_slice-else-eq-2.ensures c.eq-else-eq-2.ensures c.if-eq-3.true))
    (c.keep-then-eq-3.ensures.read c.args.text.now c.args.lists.now said c.pool_of.ensures)

pub returns-then-eq-4-clause-read : goal.returns-then-eq-4-clause-read
returns-then-eq-4-clause-read c =
    let p = place_of c.args.p in
    let word = c.name_of-word.result.now in
    let behind = place_of c.past_gap-behind.result in
    let lines = block_lines_of c.args.lines.now in
    let said = statements.default_of p.at behind lines in
    meets_word (said_in c.args.text.now c.args.lists.now) c.keep-then-eq-4.result p (place_of c.past_gap-start.result) behind word lines said
    c.past_gap-start.ensures c.name_of-word.ensures (c.past_gap-behind.ensures ∙ ap (λ (q : Place). past_gap q) c.past.ensures)
    (is_default p word behind lines
    (told word c.as_slice.result.now (codes "rule") c.eq.result false c.as_slice.ensures c.eq.ensures c.if-eq.false)
    (told word c.as_slice-else-eq.result.now (codes "build") c.eq-else-eq.result false c.as_slice-else-eq.ensures c.eq-else-eq.ensures c.if-eq-2.false)
    (told word c.as_slice-else-eq-2.result.now (codes "pool") c.eq-else-eq-2.result false c.as_slice-else-eq-2.ensures c.eq-else-eq-2.ensures c.if-eq-3.false)
    (told word c.as_slice-else-eq-3.result.now (codes "default") c.eq-else-eq-3.result true c.as_slice-else-eq-3.ensures c.eq-else-eq-3.ensures c.if-eq-4.true))
    (c.keep-then-eq-4.ensures.read c.args.text.now c.args.lists.now said c.default_of.ensures)

pub returns-then-eq-5-clause-read : goal.returns-then-eq-5-clause-read
returns-then-eq-5-clause-read c =
    let p = place_of c.args.p in
    let word = c.name_of-word.result.now in
    let behind = place_of c.past_gap-behind.result in
    let lines = block_lines_of c.args.lines.now in
    let said = statements.include_of p.at behind lines in
    meets_word (said_in c.args.text.now c.args.lists.now) c.keep-then-eq-5.result p (place_of c.past_gap-start.result) behind word lines said
    c.past_gap-start.ensures c.name_of-word.ensures (c.past_gap-behind.ensures ∙ ap (λ (q : Place). past_gap q) c.past.ensures)
    (is_include p word behind lines
    (told word c.as_slice.result.now (codes "rule") c.eq.result false c.as_slice.ensures c.eq.ensures c.if-eq.false)
    (told word c.as_slice-else-eq.result.now (codes "build") c.eq-else-eq.result false c.as_slice-else-eq.ensures c.eq-else-eq.ensures c.if-eq-2.false)
    (told word c.as_slice-else-eq-2.result.now (codes "pool") c.eq-else-eq-2.result false c.as_slice-else-eq-2.ensures c.eq-else-eq-2.ensures c.if-eq-3.false)
    (told word c.as_slice-else-eq-3.result.now (codes "default") c.eq-else-eq-3.result false c.as_slice-else-eq-3.ensures c.eq-else-eq-3.ensures c.if-eq-4.false)
    (told word c.as_slice-else-eq-4.result.now (codes "include") c.eq-else-eq-4.result true c.as_slice-else-eq-4.ensures c.eq-else-eq-4.ensures c.if-eq-5.true))
    (c.keep-then-eq-5.ensures.read c.args.text.now c.args.lists.now said c.include_of.ensures)

pub returns-then-eq-6-clause-read : goal.returns-then-eq-6-clause-read
returns-then-eq-6-clause-read c =
    let p = place_of c.args.p in
    let word = c.name_of-word.result.now in
    let behind = place_of c.past_gap-behind.result in
    let lines = block_lines_of c.args.lines.now in
    let said = statements.subninja_of p.at behind lines in
    meets_word (said_in c.args.text.now c.args.lists.now) c.keep-then-eq-6.result p (place_of c.past_gap-start.result) behind word lines said
    c.past_gap-start.ensures c.name_of-word.ensures (c.past_gap-behind.ensures ∙ ap (λ (q : Place). past_gap q) c.past.ensures)
    (is_subninja p word behind lines
    (told word c.as_slice.result.now (codes "rule") c.eq.result false c.as_slice.ensures c.eq.ensures c.if-eq.false)
    (told word c.as_slice-else-eq.result.now (codes "build") c.eq-else-eq.result false c.as_slice-else-eq.ensures c.eq-else-eq.ensures c.if-eq-2.false)
    (told word c.as_slice-else-eq-2.result.now (codes "pool") c.eq-else-eq-2.result false c.as_slice-else-eq-2.ensures c.eq-else-eq-2.ensures c.if-eq-3.false)
    (told word c.as_slice-else-eq-3.result.now (codes "default") c.eq-else-eq-3.result false c.as_slice-else-eq-3.ensures c.eq-else-eq-3.ensures c.if-eq-4.false)
    (told word c.as_slice-else-eq-4.result.now (codes "include") c.eq-else-eq-4.result false c.as_slice-else-eq-4.ensures c.eq-else-eq-4.ensures c.if-eq-5.false)
    (told word c.as_slice-else-eq-5.result.now (codes "subninja") c.eq-else-eq-5.result true c.as_slice-else-eq-5.ensures c.eq-else-eq-5.ensures c.if-eq-6.true))
    (c.keep-then-eq-6.ensures.read c.args.text.now c.args.lists.now said c.subninja_of.ensures)
