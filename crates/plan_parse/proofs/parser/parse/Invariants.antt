use Rattle.std.proofs.Common.{◌≡◌, ◌-◌, ◌≤◌, length, drop}
use Rattle.plan_text.specs.Lines.{raw_past}
use Rattle.plan_parse.specs.Blocks.{roles_of_lines}
use Rattle.plan_parse.specs.Statements.{statements_of}
use Rattle.plan_parse.specs.Compact.{AllLast}
use Rattle.plan_parse.specs.Progress.{BlockStandsIn, state_of, statements_with}
use Rattle.plan_parse.proofs.parser.parse.Given as goal

abbrev pub invariant-loop-at : goal.invariant-loop-at
invariant-loop-at l = record {
  within : l.at ≤ length l.text;
  text : l.reader.text.now ≡ l.text;
  block : BlockStandsIn l.reader.text.now (state_of l.reader);
  kept : AllLast l.reader.text.now l.reader.lists l.reader.statements.items;
  same : statements_with (state_of l.reader) (roles_of_lines (raw_past l.at (drop l.at l.text) 0)) ≡ statements_of l.text;
}

abbrev pub decreases-loop-at : goal.decreases-loop-at
decreases-loop-at l = length l.text - l.at
