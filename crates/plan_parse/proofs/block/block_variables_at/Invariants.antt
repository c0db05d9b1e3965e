use Rattle.std.proofs.Common.{◌≡◌, drop, take, []}
use Rattle.std.specs.List.{list_any}
use Rattle.plan_parse.specs.Statements.{is_named, required_name, block_variables_at}
use Rattle.plan_parse.specs.BlockLines.{block_lines_of}
use Rattle.plan_parse.proofs.BlockLemmas.{in_front}
use Rattle.plan_parse.proofs.block.block_variables_at.Given as goal

abbrev pub invariant-loop-line : goal.invariant-loop-line
invariant-loop-line l = record {
  is_bound : l.is_bound ≡ list_any (is_named (required_name l.block)) (block_lines_of (take l.line-index l.lines));
  same : in_front l.found.items (block_variables_at l.block (block_lines_of (take l.line-index l.lines)) (block_lines_of (drop l.line-index l.lines))) ≡ block_variables_at l.block [] (block_lines_of l.lines);
}
