use Rattle.std.proofs.Common.{◌≡◌, drop, map}
use Rattle.plan_text.specs.Outcome.{each}
use Rattle.plan_parse.specs.Statements.{block_line_at}
use Rattle.plan_parse.specs.BlockLines.{block_lines_of}
use Rattle.plan_parse.specs.Compact.{variable_in}
use Rattle.plan_parse.specs.PathLists.{Extends, added_to}
use Rattle.plan_parse.proofs.BlockLemmas.{in_front}
use Rattle.plan_parse.proofs.block.bindings_at.Given as goal

abbrev pub invariant-loop-line : goal.invariant-loop-line
invariant-loop-line l = record {
  keeps : Extends l.initial.bindings.items l.bindings.items;
  same : in_front (map (variable_in l.text) (added_to l.initial.bindings.items l.bindings.items)) (each block_line_at (block_lines_of (drop l.line-index l.lines))) ≡ each block_line_at (block_lines_of l.lines);
}
