use Rattle.std.proofs.Common.{List, Ok, Option, ap, map, subst, sym, ◌∙◌}
use Rattle.plan_parse.specs.declared.block.BlockLine.{BlockLine}
use Rattle.plan_parse.specs.declared.cursor.Cursor.{Cursor}
use Rattle.plan_parse.specs.declared.parser.Reader.{Reader}
use Rattle.plan_parse.specs.Statements.{no_block_allowed}
use Rattle.plan_parse.specs.BlockLines.{block_lines_of}
use Rattle.plan_parse.specs.Compact.{AllLast, said_in}
use Rattle.plan_parse.specs.Progress.{head_of, statements_at_end}
use Rattle.plan_parse.proofs.ParserLemmas.{none_above}
use Rattle.plan_parse.proofs.parser.Reader.end_block.Goals as goal
use Rattle.plan_parse.proofs.parser.Reader.end_block.Goals.{in-Some+in_ok-add-in-Some, in-None+in_ok-no_block_allowed-in-None}

pub returns-clause-statements : goal.returns-clause-statements
returns-clause-statements c =
    let old = c.args.self.now in
    let done = map (said_in old.text.now old.lists) old.statements.items in
    let lines = block_lines_of old.lines.items in
    let said = λ (r : Reader). map (said_in old.text.now r.lists) r.statements.items in
    elim c.match-self.branch [
      | in-Some+in_ok-add-in-Some w ↦
          ap (λ (h : Option Cursor). statements_at_end (record { done = done; head = head_of h; lines = lines })) w.in-Some.is
          ∙ w.in_ok-add-in-Some.ensures.statements
          ∙ ap (λ (r : Reader). Ok (said r)) (sym w.self-is)
      | in-None+in_ok-no_block_allowed-in-None w ↦
          ap (λ (h : Option Cursor). statements_at_end (record { done = done; head = head_of h; lines = lines })) w.in-None.is
          ∙ none_above done lines (ap (λ (v : List BlockLine). no_block_allowed (block_lines_of v)) (sym w.deref.ensures.value) ∙ sym w.in_ok-no_block_allowed-in-None.ensures)
          ∙ ap (λ (r : Reader). Ok (said r)) (sym w.self-is)
    ]

pub returns-clause-kept : goal.returns-clause-kept
returns-clause-kept c =
    let old = c.args.self.now in
    elim c.match-self.branch [
      | in-Some+in_ok-add-in-Some w ↦ subst (λ (r : Reader). AllLast old.text.now r.lists r.statements.items) (sym w.self-is) w.in_ok-add-in-Some.ensures.kept
      | in-None+in_ok-no_block_allowed-in-None w ↦ subst (λ (r : Reader). AllLast old.text.now r.lists r.statements.items) (sym w.self-is) c.requires.kept
    ]
