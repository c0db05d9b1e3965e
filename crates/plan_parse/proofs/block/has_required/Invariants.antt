use Rattle.std.proofs.Common.{◌≡◌, drop}
use Rattle.std.specs.List.{list_any}
use Rattle.plan_parse.specs.Statements.{is_named, required_name}
use Rattle.plan_parse.specs.BlockLines.{block_lines_of}
use Rattle.plan_parse.proofs.block.has_required.Given as goal

abbrev pub invariant-loop-line : goal.invariant-loop-line
invariant-loop-line l =
    list_any (is_named (required_name l.block)) (block_lines_of (drop l.line-index l.lines)) ≡ list_any (is_named (required_name l.block)) (block_lines_of l.lines)
