-- The lines of a block, without their location in memory.
use Rattle.std.specs.Prelude.{List, map, Option, Some, None}
use Rattle.plan_parse.specs.declared.block.BlockLine as the_line
use Rattle.plan_parse.specs.declared.block.BlockLine.TheVariants as line
use Rattle.plan_parse.specs.declared.block.LineRole as the_role
use Rattle.plan_parse.specs.declared.block.LineRole.TheVariants as role
use Rattle.plan_parse.specs.Blocks.{BlockLine, Text, Refused, LineRole, Head, Below}
use Rattle.plan_parse.specs.Views.{place_of}

abbrev pub block_line_of : the_line.BlockLine → BlockLine
block_line_of (line.Text p) = Text (place_of p)
block_line_of (line.Refused e) = Refused e

abbrev pub block_lines_of : List the_line.BlockLine → List BlockLine
block_lines_of lines = map block_line_of lines

abbrev pub line_role_of : the_role.LineRole → LineRole
line_role_of (role.Head p) = Head (place_of p)
line_role_of (role.Below line) = Below (block_line_of line)

abbrev pub line_role_if_any : Option the_role.LineRole → Option LineRole
line_role_if_any None = None
line_role_if_any (Some t) = Some (line_role_of t)
