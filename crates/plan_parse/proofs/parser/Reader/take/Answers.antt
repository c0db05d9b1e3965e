use Rattle.std.proofs.Common.{◌∷◌, List, Some, ap, map, subst, ◌∙◌, sym}
use Rattle.std.proofs.lemmas.List.{map_push}
use Rattle.plan_parse.specs.declared.block.BlockLine as the_line
use Rattle.plan_parse.specs.declared.block.LineRole as the_role
use Rattle.plan_parse.specs.Compact.{AllLast, said_in}
use Rattle.plan_parse.specs.Views.{place_of}
use Rattle.plan_parse.specs.BlockLines.{block_line_of, block_lines_of, line_role_of}
use Rattle.plan_parse.specs.Progress.{state_of, head_of, statements_with}
use Rattle.plan_parse.proofs.ParserLemmas.{takes_below, takes_head}
use Rattle.plan_parse.proofs.parser.Reader.take.Goals as goal

pub returns-in_ok-end_block-in-Head-clause-takes : goal.returns-in_ok-end_block-in-Head-clause-takes
returns-in_ok-end_block-in-Head-clause-takes c = λ rest.
    let old = state_of c.args.self.now in
    let done = map (said_in c.args.self.now.text.now c.end_block.new.self.lists) c.end_block.new.self.statements.items in
    ap (λ t. statements_with (record { done = map (said_in t.now c.end_block.new.self.lists) c.end_block.new.self.statements.items; head = Some (place_of c.in-Head.head); lines = block_lines_of c.end_block.new.self.lines.items }) rest) c.in_ok-end_block-in-Head.ensures.text
    ∙ ap (λ (v : List the_line.BlockLine). statements_with (record { done = done; head = Some (place_of c.in-Head.head); lines = block_lines_of v }) rest) c.in_ok-end_block-in-Head.ensures.lines
    ∙ takes_head old done (place_of c.in-Head.head) rest c.in_ok-end_block-in-Head.ensures.statements
    ∙ sym (ap (λ (t : the_role.LineRole). statements_with old (line_role_of t ∷ rest)) c.in-Head.is)

pub returns-in_ok-push-in-Below-clause-takes : goal.returns-in_ok-push-in-Below-clause-takes
returns-in_ok-push-in-Below-clause-takes c = λ rest.
    let old = c.args.self.now in
    let m = c.in-Below.line in
    takes_below (map (said_in old.text.now old.lists) old.statements.items) (head_of old.head) (block_lines_of old.lines.items) (block_lines_of c.push.new.self.items) (block_line_of m) rest
    (ap block_lines_of c.in_ok-push-in-Below.ensures.items ∙ map_push block_line_of old.lines.items m)
    ∙ sym (ap (λ (t : the_role.LineRole). statements_with (state_of old) (line_role_of t ∷ rest)) c.in-Below.is)

pub returns-in_ok-end_block-in-Head-clause-kept : goal.returns-in_ok-end_block-in-Head-clause-kept
returns-in_ok-end_block-in-Head-clause-kept c =
    let new = c.end_block.new.self in
    subst (λ t. AllLast t.now new.lists new.statements.items) (sym c.in_ok-end_block-in-Head.ensures.text) c.in_ok-end_block-in-Head.ensures.kept
